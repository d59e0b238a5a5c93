-- The shards of a list whose ranges overlap another.
use Rattle.std.proofs.Common.{◌≡◌, ◌⊎◌, ℕ, ◌+◌, ◌<◌, List, [], ◌∷◌, ◌++◌, length, take, get_or, refl, sym, ap, ◌∙◌, subst, inl, inr}
use Rattle.std.specs.Prelude.{Contains}
use Rattle.std.specs.List.{AllByRecursion}
use Rattle.std.proofs.lemmas.List.{take_more}
use Rattle.keyrange.specs.declared.KeyRange.{KeyRange}
use Rattle.keyrange.specs.Ranges.{Overlap}
use Rattle.shard_run.specs.declared.ShardRecord.{ShardRecord}
use Rattle.shard_law.proofs.Lists.{In, In-from_Contains, Contains-from_In, all-from_In}
use Rattle.reshard_cutover.specs.Overlapping.{AreThose}
use Rattle.reshard_create.specs.split.inner.Grown.{HasGrown, added, left}

module _ (range : KeyRange) where
  with_next : (xs own : List ShardRecord) (s : ShardRecord) → Overlap s.place.range range → AreThose range xs own → AreThose range (xs ++ s ∷ []) (own ++ s ∷ [])
  with_next [] own s over is = inl (over, [], ap (λ l. l ++ s ∷ []) is, refl)
  with_next (x ∷ xs) own s over (inl (o, rest, e, more)) = inl (o, rest ++ s ∷ [], ap (λ l. l ++ s ∷ []) e, with_next xs rest s over more)
  with_next (x ∷ xs) own s over (inr (n, more)) = inr (n, with_next xs own s over more)

  without_next : (xs own : List ShardRecord) (s : ShardRecord) → (Overlap s.place.range range → ⊥) → AreThose range xs own → AreThose range (xs ++ s ∷ []) own
  without_next [] own s apart is = inr (apart, is)
  without_next (x ∷ xs) own s apart (inl (o, rest, e, more)) = inl (o, rest, e, without_next xs rest s apart more)
  without_next (x ∷ xs) own s apart (inr (n, more)) = inr (n, without_next xs own s apart more)

  grown : (xs old new : List ShardRecord) (s : ShardRecord) → HasGrown range s old new → AreThose range xs old → AreThose range (xs ++ s ∷ []) new
  grown xs old new s (added over e) is = subst (AreThose range (xs ++ s ∷ [])) (sym e) (with_next xs old s over is)
  grown xs old new s (left apart e) is = subst (AreThose range (xs ++ s ∷ [])) (sym e) (without_next xs old s apart is)

  pub grown_those : (sources : List ShardRecord) (n : ℕ) (old new : List ShardRecord) (s : ShardRecord) → n < length sources → s ≡ get_or sources n s
      → HasGrown range s old new → AreThose range (take n sources) old → AreThose range (take (n + 1) sources) new
  grown_those sources n old new s there is has so_far =
      subst (λ l. AreThose range l new) (sym (take_more sources n s there ∙ ap (λ (x : ShardRecord). take n sources ++ x ∷ []) (sym is)))
      (grown (take n sources) old new s has so_far)

  pub same_those : (xs a b : List ShardRecord) → AreThose range xs a → AreThose range xs b → a ≡ b
  same_those [] a b is other = is ∙ sym other
  same_those (x ∷ xs) a b (inl (o, rest, e, more)) (inl (o', rest', e', more')) =
      e ∙ ap (λ l. x ∷ l) (same_those xs rest rest' more more') ∙ sym e'
  same_those (x ∷ xs) a b (inl (o, rest, e, more)) (inr (n, more')) = absurd (n o)
  same_those (x ∷ xs) a b (inr (n, more)) (inl (o, rest, e, more')) = absurd (n o)
  same_those (x ∷ xs) a b (inr (n, more)) (inr (n', more')) = same_those xs a b more more'

  among : (xs own : List ShardRecord) → AreThose range xs own → (s : ShardRecord) → In s own → In s xs
  among [] own is s h = subst (In s) is h
  among (x ∷ xs) own (inl (o, rest, e, more)) s h = by (among xs rest more s) (subst (In s) e h)
    where
      by : (In s rest → In s xs) → (x ≡ s) ⊎ In s rest → In s (x ∷ xs)
      by f (inl i) = inl i
      by f (inr i) = inr (f i)
  among (x ∷ xs) own (inr (n, more)) s h = inr (among xs own more s h)

  all : (xs own : List ShardRecord) → AreThose range xs own → (s : ShardRecord) → In s xs → Overlap s.place.range range → In s own
  all [] own is s h over = absurd h
  all (x ∷ xs) own (inl (o, rest, e, more)) s (inl i) over = subst (In s) (sym e) (inl i)
  all (x ∷ xs) own (inl (o, rest, e, more)) s (inr i) over = subst (In s) (sym e) (inr (all xs rest more s i over))
  all (x ∷ xs) own (inr (n, more)) s (inl i) over = absurd (n (subst (λ (y : ShardRecord). Overlap y.place.range range) (sym i) over))
  all (x ∷ xs) own (inr (n, more)) s (inr i) over = all xs own more s i over

  pub among_those : (xs own : List ShardRecord) → AreThose range xs own → AllByRecursion (Contains xs) own
  among_those xs own is = all-from_In (Contains xs) own (λ s h. Contains-from_In s xs (among xs own is s h))

  pub all_those : (xs own : List ShardRecord) → AreThose range xs own → (s : ShardRecord) → Contains xs s → Overlap s.place.range range → Contains own s
  all_those xs own is s h over = Contains-from_In s own (all xs own is s (In-from_Contains s xs h) over)
