use Rattle.std.proofs.Common.{◌++◌, List, subst, sym}
use Rattle.std.proofs.lemmas.Result.{IfOk-weaker}
use Rattle.std.proofs.lemmas.List.{append-nil}
use Rattle.std.specs.Prelude.{Option, option_copied}
use Rattle.vt_value.specs.Values.{Row}
use Rattle.shard_contents.specs.inner.Earlier.{left_of}
use Rattle.shard_contents.specs.inner.Placed.{AreFirst}
use Rattle.shard_contents.specs.Copying.{is_left_to_copy}
use Rattle.shard_contents.proofs.FirstRows.{first_of}
use Rattle.shard_contents.proofs.sorted.SortedTable.first_wanted.Goals as goal

pub returns-clause-ok : goal.returns-clause-ok
returns-clause-ok c =
    let t = c.args.table.now in
    let after = option_copied c.args.last in
    let rows = c.put_left.new.rows.rows in
    IfOk-weaker c.first_wanted.result _ _
    (λ first is.
    subst (λ (l : Option (List Row)). AreFirst t (is_left_to_copy c.args.place.now t after) (rows ++ left_of l) first.items) (sym c.in_ok-put_left.ensures.none)
    (subst (λ (l : List Row). AreFirst t (is_left_to_copy c.args.place.now t after) l first.items) (sym (append-nil rows))
    (first_of c.args.place.now t after (c.in_ok-rows.rows.slots ++ c.in_ok-rows.rows.unslotted) rows first.items c.in_ok-rows.ensures.rows is)))
    c.first_wanted.ensures.ok
