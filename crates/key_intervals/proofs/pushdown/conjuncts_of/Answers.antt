use Rattle.std.proofs.Common.{◌≡◌, ℕ, List, Bor, true, refl, subst, sym}
use Rattle.sql_tree.specs.declared.Condition.{Condition}
use Rattle.key_intervals.specs.Conjuncts.{passes}
use Rattle.key_intervals.proofs.pushdown.conjuncts_of.Goals as goal

pub returns : goal.returns
returns c = record {
  ok = (λ first second e.
      c.in_ok-push_own.ensures.ok first second (subst (λ (own : List (Bor (Condition ℕ))). passes own first ≡ true) (sym c.new-own.ensures.items) refl) e);
}
