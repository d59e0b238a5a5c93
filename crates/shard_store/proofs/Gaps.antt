-- Between a key and the next one that is there, none is there.
use Rattle.std.proofs.Common.{◌≡◌, Bool, true, false, ◌||◌, ◌&&◌, List, [], ◌∷◌, Option, Some, None, is_some, refl, sym, ap, ◌∙◌, subst}
use Rattle.std.specs.Prelude.{IfSome, slice_get}
use Rattle.std.specs.List.{list_any}
use Rattle.std.specs.Map.{lookup}
use Rattle.std.specs.BTreeMap.{BTreeMap, get}
use Rattle.std.specs.BTreeMap.Range.{IsInRange, IsRangeOf}
use Rattle.std.specs.Ordering.{is_eq, is_lt, is_gt, ordering_reverse}
use Rattle.std.specs.Cmp.Lexicographic.{slice_cmp}
use Rattle.std.specs.declared.cmp.Ordering.{Ordering}
use Rattle.std.specs.declared.cmp.Ordering.TheVariants.{Less, Equal, Greater}
use Rattle.std.specs.declared.ops.Bound.TheVariants.{Excluded, Unbounded}
use Rattle.std.proofs.lemmas.Bool.{false≢true}
use Rattle.vt_value.specs.Values.{Row, value_cmp, same_row}
use Rattle.shard_store.specs.declared.removed_rows.LentRow.{LentRow}
use Rattle.shard_store.specs.Proofs.LentLemmas.{lent_cmp-total}
use Rattle.shard_store.specs.inner.Overlays.{lent_key, lent_cmp}
use Rattle.shard_store.proofs.Bags.{same_self}
use Rattle.shard_store.proofs.Overlaid.{keys_in}
use Rattle.shard_store.proofs.Rows.{row_is}

lt_is : (o : Ordering) → is_lt o ≡ true → o ≡ Less
lt_is Less e = refl
lt_is Equal e = absurd (false≢true e)
lt_is Greater e = absurd (false≢true e)

-- a key is there only where a row that has it is found
absent : (key : Row) (entries : List (LentRow × Unit {0})) → ((q : LentRow) → lent_key q ≡ key → lookup (λ k. is_eq (lent_cmp q k)) entries ≡ None)
    → list_any (same_row key) (keys_in entries) ≡ false
absent key [] h = refl
absent key (e ∷ es) h = by (absent key es) (same_row key (lent_key e.0)) refl
  where
    by : (((q : LentRow) → lent_key q ≡ key → lookup (λ k. is_eq (lent_cmp q k)) es ≡ None) → list_any (same_row key) (keys_in es) ≡ false)
        → (b : Bool) → same_row key (lent_key e.0) ≡ b → (same_row key (lent_key e.0) || list_any (same_row key) (keys_in es)) ≡ false
    by ih true t =
        let is : key ≡ lent_key e.0 = row_is key (lent_key e.0) t in
        let none : lookup (λ k. is_eq (lent_cmp e.0 k)) (e ∷ es) ≡ None = h e.0 (sym is) in
        let self : is_eq (lent_cmp e.0 e.0) ≡ true = same_self (lent_key e.0) in
        let g : Some e.1 ≡ None = rw self at none in
        absurd (cc g)
    by ih false t =
        let rest = ih (λ q is.
        let none : lookup (λ k. is_eq (lent_cmp q k)) (e ∷ es) ≡ None = h q is in
        let other : is_eq (lent_cmp q e.0) ≡ false = ap (λ (k : Row). same_row k (lent_key e.0)) is ∙ t in
        let g : lookup (λ k. is_eq (lent_cmp q k)) es ≡ None = rw other at none in
        g) in
        ap (λ b. b || list_any (same_row key) (keys_in es)) t ∙ rest

module _ (m : BTreeMap LentRow (Unit {0})) (lent : LentRow) (trailing : List (LentRow × Unit {0})) (range : IsRangeOf lent_cmp (Excluded lent) Unbounded m trailing)
    (key : Row) (up : is_lt (slice_cmp value_cmp (lent_key lent) key) ≡ true) where
  in_range : (q : LentRow) → lent_key q ≡ key → IsInRange lent_cmp (Excluded lent) Unbounded q
  in_range q is =
      (subst (λ (k : Row). slice_cmp value_cmp (lent_key lent) k ≡ Less) (sym is) (lt_is (slice_cmp value_cmp (lent_key lent) key) up), tt)

  pub gap_at_end : trailing ≡ [] → list_any (same_row key) (keys_in m.entries) ≡ false
  gap_at_end none = absent key m.entries (λ q is. range.5 none q (in_range q is))

  pub gap_before : (next : LentRow × Unit {0}) (more : List (LentRow × Unit {0})) → trailing ≡ next ∷ more
      → is_lt (slice_cmp value_cmp key (lent_key next.0)) ≡ true → list_any (same_row key) (keys_in m.entries) ≡ false
  gap_before next more is below = absent key m.entries (λ q same. by q same (get lent_cmp m q) refl)
    where
      by : (q : LentRow) → lent_key q ≡ key → (o : Option (Unit {0})) → get lent_cmp m q ≡ o → get lent_cmp m q ≡ None
      by q same None e = e
      by q same (Some v) e =
          let least : IfSome (slice_get trailing 0) (λ f. is_gt (lent_cmp f.0 q) ≡ false) = range.2 q (in_range q same) (ap is_some e) in
          let not_above : is_gt (lent_cmp next.0 q) ≡ false =
          subst (λ (l : List (LentRow × Unit {0})). IfSome (slice_get l 0) (λ f. is_gt (lent_cmp f.0 q) ≡ false)) is least in
          let low : lent_cmp q next.0 ≡ Less =
          subst (λ (k : Row). slice_cmp value_cmp k (lent_key next.0) ≡ Less) (sym same) (lt_is (slice_cmp value_cmp key (lent_key next.0)) below) in
          let above : lent_cmp next.0 q ≡ Greater = lent_cmp-total.antisymm next.0 q ∙ ap ordering_reverse low in
          absurd (false≢true (sym not_above ∙ ap is_gt above))

pub both : (a b : Bool) → (a && b) ≡ true → (a ≡ true) × (b ≡ true)
both true b e = (refl, e)
both false b e = absurd (false≢true e)
