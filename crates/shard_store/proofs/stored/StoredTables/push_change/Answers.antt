use Rattle.std.proofs.Common.{◌≡◌, ◌∙◌, ◌++◌, ◌∷◌, [], List, sym, ap, subst, rules}
use Rattle.std.proofs.lemmas.Result.{IfOk-weaker}
use Rattle.sql_eval.specs.RowChange.{RowChange}
use Rattle.sql_eval.specs.RowChange.TheVariants.{Replaced, Removed}
use Rattle.shard_store.specs.Stores.{changes_in}
use Rattle.shard_store.specs.inner.Stores.{DoTheSame}
use Rattle.shard_store.proofs.Splits.{same_two}
use Rattle.shard_store.proofs.stored.StoredTables.push_change.Goals as goal

pub returns-in_ok-push_take-in-Replaced-clause-changes : goal.returns-in_ok-push_take-in-Replaced-clause-changes
returns-in_ok-push_take-in-Replaced-clause-changes c =
    let before = changes_in c.args.keyed.now.items in
    let n = c.in-Replaced.ordinal in
    let old = c.in-Replaced.old in
    let new = c.in-Replaced.new in
    let is : c.args.change.now ≡ Replaced n old new = search rules in
    let kept : changes_in c.push_swap.new.keyed.items ≡ before = rw c.if-branch.false at c.in_ok-push_swap-in-Replaced.ensures.changes in
    IfOk-weaker c.push_put-in-Replaced.result _ _
    (λ _ put. subst (λ (d : RowChange). DoTheSame (changes_in c.push_put-in-Replaced.new.keyed.items) (before ++ d ∷ [])) (sym is)
    (same_two before (changes_in c.push_take.new.keyed.items) (changes_in c.push_put-in-Replaced.new.keyed.items) n old new
    (c.in_ok-push_take-in-Replaced.ensures.changes ∙ ap (λ (l : List RowChange). l ++ Removed n old ∷ []) kept) put))
    c.push_put-in-Replaced.ensures.changes
