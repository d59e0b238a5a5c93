-- A chunk without entries is given up.
use Rattle.std.proofs.Common.{◌≡◌, ℕ, zero, suc, ◌<◌, length, List, [], ◌∷◌, ◌++◌, refl, sym, ap, ◌∙◌, get_or, subst, arith}
use Rattle.std.specs.List.{AllByRecursion, remove}
use Rattle.std.specs.List.Sorted.{IsStrictlySortedBy}
use Rattle.std.specs.Map.{keys_of}
use Rattle.std.specs.declared.cmp.Ordering.{Ordering}
use Rattle.row_chunks.specs.Chunks.{ChunkView, all_of, IsBefore, AreParted, IsShelf, span, spans}

pub nil_if : {A : Type 0} (xs : List A) → length xs ≡ 0 → xs ≡ []
nil_if [] e = refl
nil_if (x ∷ xs) e = absurd (omega (arith, e))

module _ {K X : Type 0} where
  pub all_dropped : (chunks : List (ChunkView K X)) (n : ℕ) (c : ChunkView K X) → n < length chunks → get_or chunks n c ≡ c → c.entries ≡ [] → all_of (remove chunks n) ≡ all_of chunks
  all_dropped [] n c l at none = absurd (omega (arith, l))
  all_dropped (b ∷ chunks) zero c l at none = ap (λ (es : List (K × X)). es ++ all_of chunks) (sym (ap (λ (x : ChunkView K X). x.entries) at ∙ none))
  all_dropped (b ∷ chunks) (suc n) c l at none = ap (λ (es : List (K × X)). b.entries ++ es) (all_dropped chunks n c (omega (arith, l)) at none)

  module _ (cmp : K → K → Ordering) where
    before_dropped : (b : K × List (K × X)) (chunks : List (ChunkView K X)) (n : ℕ) → n < length chunks → AllByRecursion (IsBefore cmp b) (spans chunks) → AllByRecursion (IsBefore cmp b) (spans (remove chunks n))
    before_dropped b [] n l h = absurd (omega (arith, l))
    before_dropped b (c ∷ chunks) zero l h = h.1
    before_dropped b (c ∷ chunks) (suc n) l h = (h.0, before_dropped b chunks n (omega (arith, l)) h.1)

    parted_dropped : (chunks : List (ChunkView K X)) (n : ℕ) → n < length chunks → AreParted cmp (spans chunks) → AreParted cmp (spans (remove chunks n))
    unfolding AreParted
    parted_dropped [] n l h = absurd (omega (arith, l))
    parted_dropped (c ∷ chunks) zero l h = h.2
    parted_dropped (c ∷ chunks) (suc n) l h = (h.0, before_dropped (span c) chunks n (omega (arith, l)) h.1, parted_dropped chunks n (omega (arith, l)) h.2)

    pub shelf_dropped : (chunks new : List (ChunkView K X)) (n : ℕ) (c : ChunkView K X) → n < length chunks → get_or chunks n c ≡ c → c.entries ≡ [] → new ≡ remove chunks n → IsShelf cmp chunks → IsShelf cmp new
    shelf_dropped chunks new n c l at none is shelf =
        subst (IsShelf cmp) (sym is) (record {
          parted = parted_dropped chunks n l shelf.parted;
          sorted = subst (λ (es : List (K × X)). IsStrictlySortedBy cmp (keys_of es)) (sym (all_dropped chunks n c l at none)) shelf.sorted;
        })
