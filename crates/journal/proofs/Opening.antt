-- The table at the start meets the rule.
use Rattle.std.proofs.Common.{◌≡◌, ℕ, zero, suc, ◌<◌, List, [], ◌∷◌, length, replicate, Option, refl, sym, arith, ◌∙◌, subst, ⊎_elim}
use Rattle.std.specs.Prelude.{slice_index}
use mathlib.Core.Option.{some, some-injective, some-ne-none}
use Rattle.std.proofs.lemmas.List.{get_or-replicate}
use lib.ListN.{get_elem?}
use Rattle.atomic_table.specs.Table.{opening}
use Rattle.journal.specs.declared.rule.View.{View}
use Rattle.journal.specs.Rules.{opening_view, IsViewOf, HasRun}
use Rattle.journal.proofs.Fronts.{prefix_nil}

pub zeros : (i : ℕ) → i < 64 → slice_index (replicate 64 0) i ≡ 0
zeros i low = get_or-replicate 64 i 0 0 low

at_one : {A : Type 0} (a b : A) (j : ℕ) → get_elem? (a ∷ []) j ≡ some b → (j ≡ 0) × (a ≡ b)
at_one a b zero e = (refl, some-injective a b e)
at_one a b (suc j) e = absurd (some-ne-none b (sym e))

module _ {E : Type 0} (slot_of : E → ℕ) (commit_of : E → Option (ℕ × ℕ)) (may : List E → E → Type 0) where
  pub opening_kept : (words : List ℕ) → length words ≡ 64 → ((i : ℕ) → i < 64 → slice_index words i ≡ 0) → HasRun slot_of commit_of may (opening words [] opening_view)
  opening_kept words long zero_all =
      let blank : IsViewOf slot_of commit_of may [] opening_view =
      record {
        seen = prefix_nil [];
        told = prefix_nil [];
        covers = λ k o. refl;
        apart = λ n a b. omega (arith, b.1);
        below = λ n o. ⊎_elim (λ x. omega (arith, x.1)) (λ x. absurd (omega (arith, x.1))) o;
      } in (
        [],
        record {
          legal = tt;
          long = long;
          counts = zero_all;
          fits = λ j v e. subst (λ (u : View E). IsViewOf slot_of commit_of may [] u) (at_one opening_view v j e).1 blank;
          apart = λ j k v w key a b ox oy. (at_one opening_view v j a).0 ∙ sym (at_one opening_view w k b).0;
          unused = λ n high. refl;
        },
      )
