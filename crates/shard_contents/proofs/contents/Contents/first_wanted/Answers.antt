use Rattle.std.proofs.Common.{◌++◌, Option, subst}
use Rattle.std.proofs.lemmas.Result.{IfOk-weaker}
use Rattle.std.specs.Prelude.{option_copied}
use Rattle.vt_value.specs.Values.{Row}
use Rattle.vschema.specs.Database.{rows_of}
use Rattle.shard_contents.specs.inner.Placed.{AreFirst}
use Rattle.shard_contents.specs.Copying.{is_left_to_copy}
use Rattle.shard_contents.proofs.FirstRows.{first_of}
use Rattle.shard_contents.proofs.contents.Contents.first_wanted.Goals as goal

pub returns-then-rows-clause-ok : goal.returns-then-rows-clause-ok
returns-then-rows-clause-ok c =
    let t = c.args.table.now in
    let after = option_copied c.as_ref-last.result in
    let all = rows_of c.args.self.now.store.rows c.args.next.now.table in
    IfOk-weaker c.first_wanted.result _ _
    (λ first is.
    subst (λ (x : Option Row). AreFirst t (is_left_to_copy c.args.place.now t x) all first.items) c.as_ref-last.ensures.value
    (first_of c.args.place.now t after (c.in_ok-rows.rows.slots ++ c.in_ok-rows.rows.unslotted) all first.items c.in_ok-rows.ensures.rows is))
    c.first_wanted.ensures.ok
