-- A slot that is made ready, and one that gets another row.
use Rattle.std.proofs.Common.{◌≡◌, ◌++◌, ◌∷◌, [], ◌↔◌, Bool, true, false, ℕ, List, Option, Some, None, Result, Ok, Err, IsSome, IsTrue, IsPermutation, IfOk, option_to_list, is_some, if◌then◌else◌, refl, sym, ap, ◌∙◌, subst, append_assoc, length, ◌+◌, arith}
use Rattle.std.proofs.lemmas.Bool.{false≢true}
use Rattle.std.proofs.lemmas.List.Sorted.{IsPermutation-sym, IsPermutation-trans, IsPermutation-append_left, IsPermutation-to_front, IsPermutation-refl, length_permutation}
use Rattle.std.specs.List.{list_any}
use Rattle.std.specs.List.Sorted.{IsStrictlySortedBy}
use Rattle.std.specs.Map.{keys_of, set_value}
use Rattle.std.specs.Ordering.{is_eq}
use Rattle.std.specs.Prelude.{OnOk, OnErr}
use Rattle.std.specs.Option.{option_and_then}
use Rattle.std.specs.BTreeMap.{insert_entry}
use Rattle.vt_value.specs.Values.{Row}
use Rattle.sql_eval.specs.Database.{same_row, without}
use Rattle.shard_store.specs.declared.key.RowKey.{RowKey}
use Rattle.shard_store.specs.Keys.{row_key_cmp}
use Rattle.shard_store.specs.Slots.{Slot, rows_in, slot_at, row_at}
use Rattle.shard_store.specs.Tables.{key_at, has_key}
use Rattle.shard_store.specs.inner.Slots.{is_row}
use Rattle.shard_store.proofs.SlotLemmas.{some_is, rows_insert_free, slot_inserted, slot_made, rows_put}
use Rattle.shard_store.proofs.Bags.{decides}
use Rattle.shard_store.proofs.Keyed.{Keyed, found, any_found}
use Rattle.shard_store.proofs.TwoLists.{held_there, row_exchanged, replaced_before, without_right}

module _ (key : RowKey) (slots after : List Slot) (is : after ≡ (if is_some (slot_at slots key) then slots else insert_entry row_key_cmp slots key None)) where
  pub reserved_rows : rows_in after ≡ rows_in slots
  reserved_rows = by (is_some (slot_at slots key)) refl
    where
      by : (b : Bool) → is_some (slot_at slots key) ≡ b → rows_in after ≡ rows_in slots
      by true t = let e : after ≡ slots = rw t at is in ap rows_in e
      by false t =
          let e : after ≡ insert_entry row_key_cmp slots key None = rw t at is in
          ap rows_in e ∙ rows_insert_free key slots t

  pub reserved_there : is_some (slot_at after key) ≡ true
  reserved_there = by (is_some (slot_at slots key)) refl
    where
      by : (b : Bool) → is_some (slot_at slots key) ≡ b → is_some (slot_at after key) ≡ true
      by true t = let e : after ≡ slots = rw t at is in ap (λ s. is_some (slot_at s key)) e ∙ t
      by false t =
          let e : after ≡ insert_entry row_key_cmp slots key None = rw t at is in
          ap (λ s. is_some (slot_at s key)) e ∙ slot_made key slots

  pub reserved_kept : (k : RowKey) → is_some (slot_at slots k) ≡ true → slot_at after k ≡ slot_at slots k
  reserved_kept k had = by (is_some (slot_at slots key)) refl
    where
      by : (b : Bool) → is_some (slot_at slots key) ≡ b → slot_at after k ≡ slot_at slots k
      by true t = let e : after ≡ slots = rw t at is in ap (λ s. slot_at s k) e
      by false t =
          let e : after ≡ insert_entry row_key_cmp slots key None = rw t at is in
          ap (λ s. slot_at s k) e ∙ slot_inserted key k slots t had

-- whether a row is there, by what the slot of its key had
pub there_by_slot : (ordinals : List ℕ) (key : RowKey) (slots : List Slot) (row : Row) (former : Option Row) → Keyed ordinals slots → IsStrictlySortedBy row_key_cmp (keys_of slots)
    → key.values ≡ key_at ordinals row → slot_at slots key ≡ Some former → list_any (same_row row) (rows_in slots) ≡ is_row row former
there_by_slot ordinals key slots row former h up at is = sym (held_there ordinals key slots row (is_row row former) h up at (by former is))
  where
    by : (o : Option Row) → slot_at slots key ≡ Some o → (IsTrue (is_row row o)) ↔ (row_at slots key ≡ Some row)
    by None e = (λ t. absurd (false≢true t), λ s. absurd (false≢true (ap is_some (sym (ap (option_and_then (λ slot. slot)) e) ∙ s))))
    by (Some found) e = (
      λ t. ap (option_and_then (λ slot. slot)) e ∙ ap Some (sym ((decides row found).0 t)),
      λ s. (decides row found).1 (sym (some_is (sym (ap (option_and_then (λ slot. slot)) e) ∙ s))),
    )

-- no row has a key that has no slot
pub none_without_slot : (ordinals : List ℕ) (key : RowKey) (slots : List Slot) → Keyed ordinals slots → IsStrictlySortedBy row_key_cmp (keys_of slots)
    → is_some (slot_at slots key) ≡ false → list_any (has_key ordinals key.values) (rows_in slots) ≡ false
none_without_slot ordinals key slots h up none =
    any_found (has_key ordinals key.values) (rows_in slots) (row_at slots key) (found ordinals key slots h up) ∙ by (slot_at slots key) refl
  where
    by : (o : Option (Option Row)) → slot_at slots key ≡ o → is_some (option_and_then (λ slot. slot) (slot_at slots key)) ≡ false
    by None e = ap (λ (s : Option (Option Row)). is_some (option_and_then (λ slot. slot) s)) e
    by (Some slot) e = absurd (false≢true (sym none ∙ ap is_some e))

-- ---- the rows beside the slots
-- a row that comes into a slot that had none
pub put_alone : (r : Row) (xs ys zs : List Row) → IsPermutation zs (r ∷ xs) → IsPermutation (zs ++ ys) ((xs ++ ys) ++ r ∷ [])
put_alone r xs ys zs h =
    IsPermutation-trans (zs ++ ys) (r ∷ (xs ++ ys)) ((xs ++ ys) ++ r ∷ []) (IsPermutation-append_left ys zs (r ∷ xs) h)
    (IsPermutation-sym ((xs ++ ys) ++ r ∷ []) (r ∷ (xs ++ ys)) (IsPermutation-to_front (xs ++ ys) r))

-- and one that comes into another's slot, which is put beside
pub put_for : (f r : Row) (xs ys zs : List Row) → IsPermutation (f ∷ zs) (r ∷ xs) → IsPermutation (zs ++ (ys ++ f ∷ [])) ((xs ++ ys) ++ r ∷ [])
put_for f r xs ys zs h =
    subst (λ (l : List Row). IsPermutation l ((xs ++ ys) ++ r ∷ [])) (append_assoc zs ys (f ∷ []))
    (IsPermutation-trans ((zs ++ ys) ++ f ∷ []) (f ∷ (zs ++ ys)) ((xs ++ ys) ++ r ∷ []) (IsPermutation-to_front (zs ++ ys) f) (put_alone r xs ys (f ∷ zs) h))

-- and one that is put beside
pub put_beside : (r : Row) (xs ys : List Row) → IsPermutation (xs ++ (ys ++ r ∷ [])) ((xs ++ ys) ++ r ∷ [])
put_beside r xs ys = subst (λ (l : List Row). IsPermutation l ((xs ++ ys) ++ r ∷ [])) (append_assoc xs ys (r ∷ [])) (IsPermutation-refl ((xs ++ ys) ++ r ∷ []))

-- a row that comes into the slot of the row that it replaces
pub replaced_there : (old new : Row) (xs ys zs : List Row) → list_any (same_row old) xs ≡ true → IsPermutation (old ∷ zs) (new ∷ xs)
    → IsPermutation (zs ++ ys) (without old (xs ++ ys) ++ new ∷ [])
replaced_there old new xs ys zs any h = replaced_before old new xs ys zs any (row_exchanged old new xs zs any h)

-- a row that comes into a slot, where the row that it replaces is beside
pub replaced_beside : (old new : Row) (xs ys zs : List Row) → list_any (same_row old) xs ≡ false → IsPermutation zs (new ∷ xs)
    → IsPermutation (zs ++ without old ys) (without old (xs ++ ys) ++ new ∷ [])
replaced_beside old new xs ys zs none h =
    subst (λ (l : List Row). IsPermutation (zs ++ without old ys) (l ++ new ∷ [])) (sym (without_right old xs ys none)) (put_alone new xs (without old ys) zs h)

-- and where the slot had another one, which is put beside
pub replaced_for : (f old new : Row) (xs ys zs : List Row) → list_any (same_row old) xs ≡ false → IsPermutation (f ∷ zs) (new ∷ xs)
    → IsPermutation (zs ++ (without old ys ++ f ∷ [])) (without old (xs ++ ys) ++ new ∷ [])
replaced_for f old new xs ys zs none h =
    subst (λ (l : List Row). IsPermutation (zs ++ (without old ys ++ f ∷ [])) (l ++ new ∷ [])) (sym (without_right old xs ys none)) (put_for f new xs (without old ys) zs h)

-- ---- what an exchange leaves
pub exchanged_rows : {E : Type 0} (r : Result (Option Row) E) (key : RowKey) (es slots after : List Slot) (row of : Option Row) → of ≡ row → es ≡ slots
    → IfOk r (λ old. slot_at es key ≡ Some old) → OnOk r (after ≡ set_value (λ k. is_eq (row_key_cmp key k)) es of)
    → IfOk r (λ old. IsPermutation (option_to_list old ++ rows_in after) (option_to_list row ++ rows_in slots))
exchanged_rows (Ok old) key es slots after row of o s former set =
    let put : after ≡ set_value (λ k. is_eq (row_key_cmp key k)) slots row = set ∙ (ap (set_value (λ k. is_eq (row_key_cmp key k)) es) o ∙ ap (λ (l : List Slot). set_value (λ k. is_eq (row_key_cmp key k)) l row) s) in
    rows_put key slots after old row put (ap (λ (l : List Slot). slot_at l key) (sym s) ∙ former)
exchanged_rows (Err e) key es slots after row of o s former set = tt

pub taken : {E : Type 0} (r : Result (Option Row) E) (key : RowKey) (slots after : List Slot) (ready : Option (Option Row)) (row : Row) → IfOk r (λ old. slot_at slots key ≡ Some old)
    → IfOk r (λ old. IsPermutation (option_to_list old ++ rows_in after) (rows_in slots)) → OnErr r (ready ≡ None) → IsSome ready → slot_at slots key ≡ Some (Some row)
    → IsPermutation (row ∷ rows_in after) (rows_in slots)
taken (Ok old) key slots after ready row former rows none is there =
    subst (λ (o : Option Row). IsPermutation (option_to_list o ++ rows_in after) (rows_in slots)) (some_is (sym former ∙ there)) rows
taken (Err e) key slots after ready row former rows none is there = absurd (false≢true (ap is_some (sym none) ∙ is))

-- ---- how many rows there are
pub one_more : (former : Option Row) (r : Row) (xs zs : List Row) (count : ℕ) → former ≡ None → IsPermutation (option_to_list former ++ zs) (r ∷ xs) → count ≡ length xs → count + 1 ≡ length zs
one_more None r xs zs count none h is = let n = length_permutation zs (r ∷ xs) h in omega (arith, n, is)
one_more (Some f) r xs zs count none h is = absurd (false≢true (ap is_some (sym none)))

pub as_many : (former : Option Row) (r : Row) (xs zs : List Row) (count : ℕ) → is_some former ≡ true → IsPermutation (option_to_list former ++ zs) (r ∷ xs) → count ≡ length xs → count ≡ length zs
as_many None r xs zs count some h is = absurd (false≢true some)
as_many (Some f) r xs zs count some h is = let n = length_permutation (f ∷ zs) (r ∷ xs) h in omega (arith, n, is)
