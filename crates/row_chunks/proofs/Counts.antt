-- How many entries a map has, whether its chunks are shared or not.
use Rattle.std.proofs.Common.{◌≡◌, ◌+◌, ℕ, length, Bool, List, Option, Some, None, IsSome, is_some, sym, ap, ◌∙◌}
use Rattle.std.proofs.lemmas.Bool.{false≢true}
use Rattle.std.specs.Cmp.{IsTotalOrder}
use Rattle.std.specs.declared.cmp.Ordering.{Ordering}
use Rattle.std.specs.declared.sync.Arc.{Arc}
use Rattle.std.specs.Map.{lookup, remove_entry}
use Rattle.std.specs.BTreeMap.{insert_entry, is_at}
use Rattle.row_chunks.specs.Chunks.{ChunkView, all_of, content, changeable_in}
use Rattle.row_chunks.proofs.Changes.{open_all, length_inserted, length_removed}

module _ {K X : Type 0} {cmp : K → K → Ordering} (o : IsTotalOrder cmp) where
  -- an entry that can be changed is in chunks that aren't shared
  pub count_removed : {Z : Type 0} (own new : List (ChunkView K X)) (shared : Option (Arc (List (ChunkView K X)) Z)) (test : K → Bool) (count : ℕ) → IsSome (lookup test (changeable_in own shared))
      → all_of new ≡ remove_entry test (all_of own) → count ≡ length (all_of (content own shared)) → count ≡ length (all_of (content new shared)) + 1
  count_removed own new None test count h e is =
      is ∙ (sym (length_removed o test (all_of own) (open_all o test own h)) ∙ ap (λ (es : List (K × X)). length es + 1) (sym e))
  count_removed own new (Some s) test count h e is = absurd (false≢true h)

  pub count_inserted : {Z : Type 0} (es : List (K × X)) (own new : List (ChunkView K X)) (shared : Option (Arc (List (ChunkView K X)) Z)) (k : K) (v : X) (count : ℕ) → shared ≡ None
      → all_of (content own shared) ≡ es → all_of new ≡ insert_entry cmp (all_of own) k v → lookup (is_at (cmp k)) es ≡ None → count ≡ length es → count + 1 ≡ length (all_of (content new shared))
  count_inserted es own new None k v count n e i none is =
      ap (λ (m : ℕ). m + 1) is
      ∙ (sym (length_inserted o k v es none) ∙ ap (λ (xs : List (K × X)). length xs) (sym (i ∙ ap (λ (xs : List (K × X)). insert_entry cmp xs k v) e)))
  count_inserted es own new (Some s) k v count n e i none is = absurd (false≢true (sym (ap is_some n)))
