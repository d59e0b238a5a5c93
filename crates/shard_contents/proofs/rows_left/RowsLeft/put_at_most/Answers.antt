use Rattle.std.proofs.Common.{◌+◌, ◌++◌, List, drop, ap, ◌∙◌, subst, IsPermutation}
use Rattle.std.proofs.lemmas.List.{drop-drop}
use Rattle.vt_value.specs.Values.{Row}
use Rattle.vschema.specs.Database.{rows_of}
use Rattle.shard_contents.proofs.rows_left.RowsLeft.put_at_most.Goals as goal

pub returns-clause-ok : goal.returns-clause-ok
returns-clause-ok c =
    let all = rows_of c.self.inside.store.rows c.self.inside.table in
    let done = c.self.inside.done in
    let count = c.in_ok-count.count in
    let at = c.beyond-first.ensures ∙ ap (drop done) c.all.ensures in
    let rest = ap (drop count) at ∙ drop-drop count done all in
    subst (λ (l : List Row). IsPermutation (c.add_first.new.rows.rows ++ drop (done + count) all) (c.args.rows.now.rows ++ l)) (at ∙ c.self.view_is)
    (subst (λ (l : List Row). IsPermutation (c.add_first.new.rows.rows ++ l) (c.args.rows.now.rows ++ c.beyond-first.result)) rest c.in_ok-count.ensures.ok)
