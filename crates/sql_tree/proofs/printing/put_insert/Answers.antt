use Rattle.std.proofs.Common.{append_assoc}
use Rattle.sql_tree.proofs.printing.put_insert.Goals as goal

pub returns : goal.returns
returns c =
    record {
      ok = rw (
        c.in_ok-put_commas.ensures.ok,
        c.in_ok-put-2.ensures.ok,
        c.in_ok-put_columns.ensures.ok,
        c.in_ok-put_name.ensures.ok,
        c.in_ok-put.ensures.ok,
        c.as_slice.ensures,
        c.as_slice-2.ensures,
      ) (simp append_assoc);
    }
