-- A walk from the key of a row on has all rows after it, and stands in the order of primary keys.
use Rattle.std.proofs.Common.{◌≡◌, ℕ, Bool, true, false, cond, List, [], ◌∷◌, ◌++◌, filter, option_to_list, Option, Some, None, refl, sym, ap, ◌∙◌, subst}
use Rattle.std.proofs.lemmas.Bool.{false≢true}
use Rattle.std.specs.List.{AllByRecursion}
use Rattle.std.specs.List.Sorted.{IsStrictlySortedBy}
use Rattle.std.specs.Map.{keys_of}
use Rattle.std.specs.Ordering.{is_le, is_lt, ordering_reverse}
use Rattle.std.specs.Cmp.Lexicographic.{slice_cmp}
use Rattle.std.specs.declared.cmp.Ordering.{Ordering}
use Rattle.std.specs.declared.cmp.Ordering.TheVariants.{Less, Equal, Greater}
use Rattle.vt_value.specs.Values.{Row, value_cmp}
use Rattle.sql_eval.specs.Table.{Table}
use Rattle.sql_eval.specs.Schema.{key_of}
use Rattle.shard_store.specs.declared.key.RowKey.{RowKey}
use Rattle.shard_store.specs.Keys.{row_key_cmp}
use Rattle.shard_store.specs.Slots.{Slot, rows_in, slots_from}
use Rattle.shard_store.specs.Tables.{key_at, IsAtItsKey}
use Rattle.shard_store.specs.RowsAfter.{is_row_before, IsInOrder}
use Rattle.shard_store.specs.Proofs.KeyLemmas.{key_cmp-total}
use Rattle.shard_store.proofs.Prefix.{Ascend, ascend}
use Rattle.shard_store.proofs.Keyed.{Keyed}

-- ---- no row before the first key of the walk is after that key

less_le : (o : Ordering) → is_lt o ≡ true → is_le o ≡ true
less_le Less e = refl
less_le Equal e = absurd (false≢true e)
less_le Greater e = absurd (false≢true e)

module _ (t : Table) (last : Row) where
  abbrev first_key : RowKey
  first_key = record { values = key_of t last }

  after_slot : (s : Slot) (rows : List Row) → IsAtItsKey t.primary_key s → is_le (row_key_cmp first_key s.0) ≡ false
      → filter (is_row_before t last) (option_to_list s.1 ++ rows) ≡ filter (is_row_before t last) rows
  after_slot s rows at e = by s.1 refl
    where
      by : (o : Option Row) → s.1 ≡ o → filter (is_row_before t last) (option_to_list s.1 ++ rows) ≡ filter (is_row_before t last) rows
      by None f = rw f refl
      by (Some row) f = rw f (not_it (is_row_before t last row) refl)
        where
          low : is_le (slice_cmp value_cmp (key_of t last) (key_of t row)) ≡ false
          low = subst (λ (k : Row). is_le (slice_cmp value_cmp (key_of t last) k) ≡ false) (at row f) e

          not_it : (b : Bool) → is_row_before t last row ≡ b → filter (is_row_before t last) (row ∷ rows) ≡ filter (is_row_before t last) rows
          not_it true g = absurd (false≢true (sym low ∙ less_le (slice_cmp value_cmp (key_of t last) (key_of t row)) g))
          not_it false g = simp g

  pub after_walk : (slots : List Slot) → Keyed t.primary_key slots
      → filter (is_row_before t last) (rows_in (slots_from first_key slots)) ≡ filter (is_row_before t last) (rows_in slots)
  after_walk [] h = refl
  after_walk (s ∷ slots) h = by (after_walk slots h.1) (is_le (row_key_cmp first_key s.0)) refl
    where
      by : filter (is_row_before t last) (rows_in (slots_from first_key slots)) ≡ filter (is_row_before t last) (rows_in slots)
          → (b : Bool) → is_le (row_key_cmp first_key s.0) ≡ b
          → filter (is_row_before t last) (rows_in (slots_from first_key (s ∷ slots))) ≡ filter (is_row_before t last) (option_to_list s.1 ++ rows_in slots)
      by ih true e = rw e (same (option_to_list s.1) _ _ ih)
        where
          same : (xs ys zs : List Row) → filter (is_row_before t last) ys ≡ filter (is_row_before t last) zs
              → filter (is_row_before t last) (xs ++ ys) ≡ filter (is_row_before t last) (xs ++ zs)
          same [] ys zs g = g
          same (x ∷ xs) ys zs g = ap (λ (l : List Row). cond (is_row_before t last x) (x ∷ l) l) (same xs ys zs g)
      by ih false e = rw e ih ∙ sym (after_slot s (rows_in slots) h.0 e)

-- ---- rows at ascending primary keys are in order

later : (t : Table) (s q : Slot) (x y : Row) → IsAtItsKey t.primary_key s → IsAtItsKey t.primary_key q → s.1 ≡ Some x → q.1 ≡ Some y
    → row_key_cmp s.0 q.0 ≡ Less → is_row_before t y x ≡ false
later t s q x y at atq e f l =
    ap is_lt (key_cmp-total.antisymm (record { values = key_of t y }) (record { values = key_of t x })
    ∙ ap ordering_reverse (subst (λ (k : Row). slice_cmp value_cmp (key_of t x) k ≡ Less) (atq y f)
    (subst (λ (k : Row). slice_cmp value_cmp k q.0.values ≡ Less) (at x e) l)))

pub ascending : (t : Table) (slots : List Slot) → Keyed t.primary_key slots → Ascend slots → IsInOrder t (rows_in slots)
ascending t [] h up = tt
ascending t (s ∷ slots) h up = by s.1 refl (ascending t slots h.1 up.1)
  where
    by : (o : Option Row) → s.1 ≡ o → IsInOrder t (rows_in slots) → IsInOrder t (option_to_list s.1 ++ rows_in slots)
    by None e rest = rw e rest
    by (Some x) e rest = rw e (each slots h.1 up.0, rest)
      where
        each : (more : List Slot) → Keyed t.primary_key more → AllByRecursion (λ q. row_key_cmp s.0 q.0 ≡ Less) more
            → AllByRecursion (λ y. is_row_before t y x ≡ false) (rows_in more)
        each [] g u = tt
        each (q ∷ more) g u = one q.1 refl (each more g.1 u.1)
          where
            one : (p : Option Row) → q.1 ≡ p → AllByRecursion (λ y. is_row_before t y x ≡ false) (rows_in more)
                → AllByRecursion (λ y. is_row_before t y x ≡ false) (option_to_list q.1 ++ rows_in more)
            one None f rest = rw f rest
            one (Some y) f rest = rw f (later t s q x y h.0 g.0 e f u.0, rest)

-- what stands in a part of the slots stood in all
kept_by : (P : Slot → Type 0) (key : RowKey) (slots : List Slot) → AllByRecursion P slots → AllByRecursion P (slots_from key slots)
kept_by P key [] h = tt
kept_by P key (s ∷ slots) h = by (is_le (row_key_cmp key s.0)) refl (kept_by P key slots h.1)
  where
    by : (b : Bool) → is_le (row_key_cmp key s.0) ≡ b → AllByRecursion P (slots_from key slots) → AllByRecursion P (slots_from key (s ∷ slots))
    by true e rest = rw e (h.0, rest)
    by false e rest = rw e rest

kept_up : (key : RowKey) (slots : List Slot) → Ascend slots → Ascend (slots_from key slots)
kept_up key [] h = tt
kept_up key (s ∷ slots) h = by (is_le (row_key_cmp key s.0)) refl (kept_up key slots h.1)
  where
    by : (b : Bool) → is_le (row_key_cmp key s.0) ≡ b → Ascend (slots_from key slots) → Ascend (slots_from key (s ∷ slots))
    by true e rest = rw e (kept_by (λ q. row_key_cmp s.0 q.0 ≡ Less) key slots h.0, rest)
    by false e rest = rw e rest

pub ascending_from : (t : Table) (key : RowKey) (slots : List Slot) → Keyed t.primary_key slots → Ascend slots → IsInOrder t (rows_in (slots_from key slots))
ascending_from t key slots h up =
    ascending t (slots_from key slots) (kept_by (IsAtItsKey t.primary_key) key slots h) (kept_up key slots up)

-- ---- the same, where the key columns are those of the primary key

pub walk_rows : (t : Table) (last : Row) (ordinals : List ℕ) (slots : List Slot) → ordinals ≡ t.primary_key → Keyed ordinals slots
    → filter (is_row_before t last) (rows_in (slots_from (record { values = key_at ordinals last }) slots)) ≡ filter (is_row_before t last) (rows_in slots)
walk_rows t last ordinals slots same =
    subst (λ (p : List ℕ). Keyed p slots
    → filter (is_row_before t last) (rows_in (slots_from (record { values = key_at p last }) slots)) ≡ filter (is_row_before t last) (rows_in slots))
    (sym same) (after_walk t last slots)

pub walk_order : (t : Table) (key : RowKey) (ordinals : List ℕ) (slots : List Slot) → ordinals ≡ t.primary_key → Keyed ordinals slots
    → IsStrictlySortedBy row_key_cmp (keys_of slots) → IsInOrder t (rows_in (slots_from key slots))
walk_order t key ordinals slots same h up = ascending_from t key slots (subst (λ (p : List ℕ). Keyed p slots) same h) (ascend slots up)

pub rows_order : (t : Table) (ordinals : List ℕ) (slots : List Slot) → ordinals ≡ t.primary_key → Keyed ordinals slots
    → IsStrictlySortedBy row_key_cmp (keys_of slots) → IsInOrder t (rows_in slots)
rows_order t ordinals slots same h up = ascending t slots (subst (λ (p : List ℕ). Keyed p slots) same h) (ascend slots up)
