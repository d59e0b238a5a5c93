-- Rows in slots and outside them.
use Rattle.std.proofs.Common.{◌≡◌, ◌↔◌, IsTrue, ℕ, zero, suc, ◌<◌, Bool, true, false, cond, ◌||◌, ◌&&◌, not, List, [], ◌∷◌, ◌++◌, length, get_or, filter, position, option_to_list, Option, Some, None, IsPermutation, refl, sym, ap, ◌∙◌, subst, arith}
use Rattle.std.specs.Prelude.{nat_lt}
use Rattle.std.specs.List.{position_or_len, remove, list_any}
use Rattle.std.specs.List.Sorted.{IsStrictlySortedBy}
use Rattle.std.specs.Map.{keys_of}
use Rattle.std.specs.Ordering.{is_eq}
use Rattle.std.proofs.lemmas.Bool.{ltb-false, false≢true, true≢false, and_parts, not-true}
use Rattle.std.proofs.lemmas.List.Quantifiers.{position-Some}
use Rattle.std.proofs.lemmas.List.Sums.{fails_before_first}
use Rattle.std.proofs.lemmas.List.Sorted.{IsPermutation-sym, IsPermutation-trans, IsPermutation-append_left, IsPermutation-to_front}
use Rattle.vt_value.specs.Values.{Row}
use Rattle.sql_eval.specs.Database.{same_row, without}
use Rattle.shard_store.specs.declared.key.RowKey.{RowKey}
use Rattle.shard_store.specs.Keys.{row_key_cmp}
use Rattle.shard_store.specs.Slots.{Slot, rows_in, slot_at, row_at}
use Rattle.shard_store.specs.Tables.{key_at, has_key}
use Rattle.shard_store.proofs.Rows.{row_is}
use Rattle.shard_store.proofs.Bags.{same_self, without-same}
use Rattle.shard_store.proofs.SlotLemmas.{some_is}
use Rattle.shard_store.proofs.Keyed.{Keyed, found, not_there}

-- ---- a row of two lists

pub without_left : (r : Row) (xs ys : List Row) → list_any (same_row r) xs ≡ true → without r (xs ++ ys) ≡ without r xs ++ ys
without_left r [] ys h = absurd (false≢true h)
without_left r (x ∷ xs) ys h = by (without_left r xs ys) (same_row r x) refl
  where
    by : (list_any (same_row r) xs ≡ true → without r (xs ++ ys) ≡ without r xs ++ ys) → (b : Bool) → same_row r x ≡ b
        → without r ((x ∷ xs) ++ ys) ≡ without r (x ∷ xs) ++ ys
    by ih true t = simp t
    by ih false t =
        let g : list_any (same_row r) xs ≡ true = rw t at h in
        let f = ih g in
        simp t (ap (λ (z : List Row). x ∷ z) f)

pub without_right : (r : Row) (xs ys : List Row) → list_any (same_row r) xs ≡ false → without r (xs ++ ys) ≡ xs ++ without r ys
without_right r [] ys h = refl
without_right r (x ∷ xs) ys h = by (without_right r xs ys) (same_row r x) refl
  where
    by : (list_any (same_row r) xs ≡ false → without r (xs ++ ys) ≡ xs ++ without r ys) → (b : Bool) → same_row r x ≡ b
        → without r ((x ∷ xs) ++ ys) ≡ (x ∷ xs) ++ without r ys
    by ih true t =
        let g : true ≡ false = rw t at h in
        absurd (true≢false g)
    by ih false t =
        let g : list_any (same_row r) xs ≡ false = rw t at h in
        let f = ih g in
        simp t (ap (λ (z : List Row). x ∷ z) f)

pub any_of_perm_left : (r : Row) (xs ys zs : List Row) → IsPermutation zs (without r xs) → list_any (same_row r) xs ≡ true
    → IsPermutation (zs ++ ys) (without r (xs ++ ys))
any_of_perm_left r xs ys zs h any =
    subst (IsPermutation (zs ++ ys)) (sym (without_left r xs ys any)) (IsPermutation-append_left ys zs (without r xs) h)

-- a row more before the others is a row more after them
pub added_before : (r : Row) (xs ys zs : List Row) → IsPermutation zs (xs ++ r ∷ []) → IsPermutation (zs ++ ys) ((xs ++ ys) ++ r ∷ [])
added_before r xs ys zs h =
    IsPermutation-trans (zs ++ ys) ((xs ++ r ∷ []) ++ ys) ((xs ++ ys) ++ r ∷ []) (IsPermutation-append_left ys zs (xs ++ r ∷ []) h)
    (IsPermutation-trans ((xs ++ r ∷ []) ++ ys) (r ∷ (xs ++ ys)) ((xs ++ ys) ++ r ∷ [])
    (IsPermutation-append_left ys (xs ++ r ∷ []) (r ∷ xs) (IsPermutation-to_front xs r))
    (IsPermutation-sym ((xs ++ ys) ++ r ∷ []) (r ∷ (xs ++ ys)) (IsPermutation-to_front (xs ++ ys) r)))

-- and a row in another's place, where that was before the others
pub replaced_before : (old new : Row) (xs ys zs : List Row) → list_any (same_row old) xs ≡ true → IsPermutation zs (without old xs ++ new ∷ [])
    → IsPermutation (zs ++ ys) (without old (xs ++ ys) ++ new ∷ [])
replaced_before old new xs ys zs any h =
    subst (λ (l : List Row). IsPermutation (zs ++ ys) (l ++ new ∷ [])) (sym (without_left old xs ys any)) (added_before new (without old xs) ys zs h)

-- ---- a row in another's place
pub row_exchanged : (old new : Row) (before after : List Row) → list_any (same_row old) before ≡ true → IsPermutation (old ∷ after) (new ∷ before)
    → IsPermutation after (without old before ++ new ∷ [])
row_exchanged old new before after there h =
    let turned : IsPermutation (old ∷ after) (before ++ new ∷ []) =
    IsPermutation-trans _ _ _ h (IsPermutation-sym (before ++ new ∷ []) (new ∷ before) (IsPermutation-to_front before new)) in
    subst (IsPermutation after) (without_left old before (new ∷ []) there)
    (subst (λ (l : List Row). IsPermutation l (without old (before ++ new ∷ []))) (first (same_row old old) (same_self old))
    (without-same old (old ∷ after) (before ++ new ∷ []) turned))
  where
    first : (b : Bool) → b ≡ true → cond b after (old ∷ without old after) ≡ after
    first true e = refl
    first false e = cc

-- ---- the first row that is this one

without-at : (r : Row) (xs : List Row) (i : ℕ) (d : Row) → i < length xs → same_row r (get_or xs i d) ≡ true
    → ((k : ℕ) → k < i → same_row r (get_or xs k d) ≡ false) → without r xs ≡ remove xs i
without-at r [] i d l e h = absurd (omega (arith, l))
without-at r (x ∷ xs) zero d l e h = simp e
without-at r (x ∷ xs) (suc i) d l e h =
    let f = h 0 (omega arith) in
    let g = without-at r xs i d (omega (arith, l)) e (λ k below. h (suc k) (omega (arith, below))) in
    simp f (ap (λ z. x ∷ z) g)

without-none : (r : Row) (xs : List Row) (d : Row) → ((k : ℕ) → k < length xs → same_row r (get_or xs k d) ≡ false) → without r xs ≡ xs
without-none r [] d h = refl
without-none r (x ∷ xs) d h =
    let f = h 0 (omega arith) in
    simp f (ap (λ z. x ∷ z) (without-none r xs d (λ k below. h (suc k) (omega (arith, below)))))

pub without-found : (r : Row) (xs : List Row) (o : Option ℕ) (i : ℕ) → o ≡ position (λ x. same_row r x) xs → o ≡ Some i
    → remove xs i ≡ without r xs
without-found r xs o i is e =
    let h = position-Some (λ x. same_row r x) xs i [] (sym is ∙ e) in
    sym (without-at r xs i [] h.0 h.1 h.2)

pub without-unfound : (r : Row) (xs : List Row) (o : Option ℕ) → o ≡ position (λ x. same_row r x) xs → ((i : ℕ) → o ≡ Some i → ⊥)
    → xs ≡ without r xs
without-unfound r xs o is none = by (nat_lt (position_or_len p xs) (length xs)) refl
  where
    p : Row → Bool
    p x = same_row r x

    by : (b : Bool) → nat_lt (position_or_len p xs) (length xs) ≡ b → xs ≡ without r xs
    by true e = absurd (none (position_or_len p xs) (is ∙ simp e))
    by false e =
        let all = ltb-false (position_or_len p xs) (length xs) e in
        sym (without-none r xs [] (λ k below. fails_before_first p xs k [] (omega (arith, all, below))))

-- ---- whether a row is in its slot

any_first : (p : Row → Bool) (r : Row) (xs ys : List Row) → filter p xs ≡ r ∷ ys → list_any (same_row r) xs ≡ true
any_first p r [] ys e = Rattle.shard_store.proofs.Rows.nil_is e
any_first p r (x ∷ xs) ys e = by (any_first p r xs ys) (p x) refl (same_row r x) refl
  where
    by : (filter p xs ≡ r ∷ ys → list_any (same_row r) xs ≡ true) → (b : Bool) → p x ≡ b → (d : Bool) → same_row r x ≡ d
        → list_any (same_row r) (x ∷ xs) ≡ true
    by ih b t true u = simp u
    by ih true t false u =
        let f : x ∷ filter p xs ≡ r ∷ ys = rw t at e in
        let g : same_row r x ≡ true = ap (same_row r) (Rattle.shard_store.proofs.Rows.head_is f) ∙ same_self r in
        absurd (false≢true (sym u ∙ g))
    by ih false t false u =
        let f : filter p xs ≡ r ∷ ys = rw t at e in
        let g = ih f in
        simp (u, g)

shorter : (r : Row) (xs : List Row) → list_any (same_row r) xs ≡ true → suc (length (without r xs)) ≡ length xs
shorter r [] h = absurd (false≢true h)
shorter r (x ∷ xs) h = by (shorter r xs) (same_row r x) refl
  where
    by : (list_any (same_row r) xs ≡ true → suc (length (without r xs)) ≡ length xs) → (b : Bool) → same_row r x ≡ b
        → suc (length (without r (x ∷ xs))) ≡ length (x ∷ xs)
    by ih true t = simp t
    by ih false t =
        let g : list_any (same_row r) xs ≡ true = rw t at h in
        let f = ih g in
        simp t (ap suc f)

none_if_whole : (r : Row) (xs : List Row) → without r xs ≡ xs → list_any (same_row r) xs ≡ false
none_if_whole r xs e = by (list_any (same_row r) xs) refl
  where
    by : (b : Bool) → list_any (same_row r) xs ≡ b → b ≡ false
    by true t = let n = shorter r xs t in let m = ap length e in absurd (omega (arith, n, m))
    by false t = refl

pub held_there : (ordinals : List ℕ) (key : RowKey) (slots : List Slot) (row : Row) (holds : Bool) → Keyed ordinals slots
    → IsStrictlySortedBy row_key_cmp (keys_of slots) → key.values ≡ key_at ordinals row → IsTrue holds ↔ (row_at slots key ≡ Some row)
    → holds ≡ list_any (same_row row) (rows_in slots)
held_there ordinals key slots row true h up at is =
    sym (any_first (has_key ordinals key.values) row (rows_in slots) []
    (found ordinals key slots h up ∙ ap option_to_list (is.0 refl)))
held_there ordinals key slots row false h up at is =
    sym (none_if_whole row (rows_in slots) (not_there ordinals key slots row h up at (λ e. false≢true (is.1 e))))

-- a key with a slot that is ready and no row
pub ready_parts : (r b c : Bool) → c ≡ (r && not b) → c ≡ true → (r ≡ true) × (b ≡ false)
ready_parts r b c is t =
    let p = and_parts r (not b) (sym is ∙ t) in
    (p.0, not-true b p.1)
