-- Ranges in another order: a cover stays one, and only ranges that the text names can be its partition.
use Rattle.std.proofs.Common.{◌≡◌, ℕ, ◌≤◌, List, cond, length, ap, subst, ◌∙◌, arith, IsSorted}
use Rattle.std.specs.Prelude.{IsPermutation}
use Rattle.std.specs.Ordering.{is_lt}
use Rattle.std.specs.Fn.{Called}
use Rattle.std.specs.List.Sorted.{IsSortedByClosure}
use Rattle.std.specs.declared.cmp.Ordering.{Ordering}
use Rattle.std.proofs.lemmas.Fn.{always_returns_same}
use Rattle.std.proofs.lemmas.Cmp.{nat_list_cmp_total}
use Rattle.std.proofs.lemmas.List.MinMax.{ranks_by}
use Rattle.std.proofs.lemmas.List.Sorted.{sum_by-IsPermutation, length_permutation, IsPermutation-sym, IsPermutation-trans}
use denote.Param.Members.{Mut}
use denote.Ref.{Bor}
use Rattle.keyrange.specs.declared.KeyRange.{KeyRange}
use Rattle.keyrange.specs.Ranges.{Cover, has_id}
use Rattle.vtgate_lines.specs.Partitions.{IsListOf, NamesPartition, range_cmp}

cover_again : (xs ys : List KeyRange) → IsPermutation xs ys → Cover xs → Cover ys
cover_again xs ys same cover id bytes = sum_by-IsPermutation (λ r. cond (has_id r id) 1 0) xs ys same ∙ cover id bytes

pub not_partition : (text : List ℕ) (read arranged : List KeyRange) → IsPermutation read arranged
    → ((all : List KeyRange) → IsListOf text all → read ≡ all) → (length arranged ≤ 64 → Cover arranged → ⊥)
    → (ranges : List KeyRange) → NamesPartition text ranges → ⊥
not_partition text read arranged same only bad ranges p =
    let back : IsPermutation ranges arranged =
    IsPermutation-trans ranges p.written arranged (IsPermutation-sym p.written ranges p.same)
    (subst (λ (xs : List KeyRange). IsPermutation xs arranged) (only p.written p.named) same) in
    bad (omega (arith, length_permutation ranges arranged back, p.few)) (cover_again ranges arranged back p.cover)

-- a sort by a closure that compares begins
pub sorted_by_begins : {F : Type 0} {g : Mut F (Bor KeyRange × (Bor KeyRange × Unit {0})) Ordering} {f : F} (ranges : List KeyRange) → IsSortedByClosure g f ranges
    → ((a : Bor KeyRange × (Bor KeyRange × Unit {0})) (r : Ordering) (f' : F) → Called g f a r f' → (r ≡ range_cmp a.0.now a.1.0.now) × (f' ≡ f)) → IsSorted range_cmp ranges
sorted_by_begins {g = g} {f = f} ranges up h = up (λ a b. is_lt (range_cmp a b)) (ranks_by nat_list_cmp_total (λ r. r.begin))
    (always_returns_same g (λ a r. is_lt r ≡ is_lt (range_cmp a.0.now a.1.0.now)) f (λ a r f' k. (ap is_lt (h a r f' k).0, (h a r f' k).1)))
