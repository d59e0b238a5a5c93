use Rattle.std.proofs.Common.{append_assoc}
use Rattle.sql_tree.proofs.printing.put_delete.Goals as goal

pub returns : goal.returns
returns c =
    record { ok = rw (c.in_ok-put_filter.ensures.ok, c.in_ok-put_name.ensures.ok, c.in_ok-put.ensures.ok, c.as_slice.ensures) (simp append_assoc) }
