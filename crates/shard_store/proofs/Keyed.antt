-- A table's rows, where each stands in the slot of its own key.
use Rattle.std.proofs.Common.{◌≡◌, ◌≤◌, ℕ, Bool, true, false, cond, ◌&&◌, ◌||◌, List, [], ◌∷◌, ◌++◌, length, map, filter, flat_map, option_to_list, Option, Some, None, Result, Ok, Err, is_some, option_copied, Bor, refl, sym, ap, ◌∙◌, subst, arith}
use Rattle.std.proofs.lemmas.List.{append-nil, length-append}
use Rattle.std.specs.List.{AllByRecursion, list_any}
use Rattle.std.specs.List.Sorted.{IsStrictlySortedBy}
use Rattle.std.specs.Map.{keys_of}
use Rattle.std.specs.Ordering.{is_eq, is_le, match_ordering}
use Rattle.std.specs.Option.{option_and_then}
use Rattle.std.specs.Cmp.{Equal-is}
use Rattle.std.specs.Cmp.Lexicographic.{slice_cmp}
use Rattle.std.specs.declared.cmp.Ordering.{Ordering}
use Rattle.std.specs.declared.cmp.Ordering.TheVariants.{Less, Equal, Greater}
use Rattle.vt_value.specs.declared.value.Value.{Value}
use Rattle.std.specs.Prelude.{slice_index, OnOk, OnErr}
use Rattle.vt_value.specs.Values.{Row, value_at, value_cmp}
use Rattle.sql_eval.specs.Database.{same_row, without}
use Rattle.shard_store.specs.declared.key.RowKey.{RowKey}
use Rattle.shard_store.specs.Keys.{row_key_cmp}
use Rattle.shard_store.specs.Slots.{Slot, rows_in, slot_at, row_at, begins, may_begin, is_before, goes_on, slots_with, with_slot, with_row, without_slot}
use Rattle.shard_store.specs.inner.Slots.{slots_between}
use Rattle.shard_store.specs.Tables.{key_at, has_key, begins_with, IsAtItsKey}
use Rattle.key_intervals.specs.declared.keys.KeyInterval.{KeyInterval}
use Rattle.key_intervals.specs.Intervals.{is_below, in_interval}
use Rattle.key_intervals.specs.Listed.{is_among, Climbs}
use Rattle.shard_store.specs.inner.Chosen.{risen, slots_among, lies_between}
use Rattle.sql_eval.proofs.OrderLemmas.{value_cmp-same}
use Rattle.shard_store.specs.Proofs.KeyLemmas.{key-same}
use Rattle.shard_store.proofs.Rows.{row_is, nil_is, head_is, tail_is}
use Rattle.shard_store.proofs.Bags.{same_self}
use Rattle.shard_store.proofs.Prefix.{Ascend, ascend}
use Rattle.shard_store.proofs.Among.{walked}

abbrev pub Keyed : List ℕ → List Slot → Type 0
Keyed ordinals slots = AllByRecursion (IsAtItsKey ordinals) slots

-- a test of rows that is a test of their keys keeps the rows of the slots whose keys pass
filter_slots : (ordinals : List ℕ) (p : Row → Bool) (q : RowKey → Bool) → ((k : RowKey) (row : Row) → k.values ≡ key_at ordinals row → p row ≡ q k)
    → (slots : List Slot) → Keyed ordinals slots → filter p (rows_in slots) ≡ rows_in (filter (λ s. q s.0) slots)
filter_slots ordinals p q same [] h = refl
filter_slots ordinals p q same (s ∷ slots) h = by (filter_slots ordinals p q same slots h.1) s.1 refl (q s.0) refl
  where
    by : filter p (rows_in slots) ≡ rows_in (filter (λ s. q s.0) slots) → (o : Option Row) → s.1 ≡ o → (b : Bool) → q s.0 ≡ b
        → filter p (option_to_list s.1 ++ rows_in slots) ≡ rows_in (cond (q s.0) (s ∷ filter (λ s. q s.0) slots) (filter (λ s. q s.0) slots))
    by ih None e true t = simp (t, e, ih)
    by ih None e false t = simp (t, e, ih)
    by ih (Some row) e true t =
        let g : p row ≡ true = same s.0 row (h.0 row e) ∙ t in
        simp (t, e, g, ih)
    by ih (Some row) e false t =
        let g : p row ≡ false = same s.0 row (h.0 row e) ∙ t in
        simp (t, e, g, ih)

none_at : (k : RowKey) (slots : List Slot) → AllByRecursion (λ q. row_key_cmp k q.0 ≡ Less) slots → filter (λ s. is_eq (row_key_cmp k s.0)) slots ≡ []
none_at k [] h = refl
none_at k (s ∷ slots) h =
    let first = h.0 in
    let rest = none_at k slots h.1 in
    simp (first, rest)

-- in ascending keys one slot at most has the key
at_key : (k : RowKey) (slots : List Slot) → Ascend slots → rows_in (filter (λ s. is_eq (row_key_cmp k s.0)) slots) ≡ option_to_list (row_at slots k)
at_key k [] up = refl
at_key k (s ∷ slots) up = by (at_key k slots up.1) (is_eq (row_key_cmp k s.0)) refl
  where
    by : rows_in (filter (λ s. is_eq (row_key_cmp k s.0)) slots) ≡ option_to_list (row_at slots k) → (b : Bool) → is_eq (row_key_cmp k s.0) ≡ b
        → rows_in (cond (is_eq (row_key_cmp k s.0)) (s ∷ filter (λ s. is_eq (row_key_cmp k s.0)) slots) (filter (λ s. is_eq (row_key_cmp k s.0)) slots))
        ≡ option_to_list (row_at (s ∷ slots) k)
    by ih true t =
        let same : k ≡ s.0 = key-same k s.0 ((Equal-is (row_key_cmp k s.0)).0 t) in
        let none : filter (λ q. is_eq (row_key_cmp k q.0)) slots ≡ [] =
        subst (λ (x : RowKey). filter (λ q. is_eq (row_key_cmp x q.0)) slots ≡ []) (sym same) (none_at s.0 slots up.0) in
        simp (t, none, append-nil)
    by ih false t = simp t ih

-- the row at a key is the only one that has it
pub found : (ordinals : List ℕ) (key : RowKey) (slots : List Slot) → Keyed ordinals slots → IsStrictlySortedBy row_key_cmp (keys_of slots)
    → filter (has_key ordinals key.values) (rows_in slots) ≡ option_to_list (row_at slots key)
found ordinals key slots h up =
    filter_slots ordinals (has_key ordinals key.values) (λ k. is_eq (row_key_cmp key k))
    (λ k row at. ap (λ (vs : Row). is_eq (slice_cmp value_cmp key.values vs)) (sym at)) slots h
    ∙ at_key key slots (ascend slots up)

-- the rows whose keys begin with the value are those whose first key column has it
pub begun : (ordinals : List ℕ) (v : Value) (slots : List Slot) → 1 ≤ length ordinals → Keyed ordinals slots
    → rows_in (slots_with v slots) ≡ filter (begins_with ordinals v) (rows_in slots)
begun [] v slots some h = absurd (omega (arith, some))
begun (n ∷ ordinals) v slots some h =
    sym (filter_slots (n ∷ ordinals) (begins_with (n ∷ ordinals) v) (λ k. begins v k.values)
    (λ k row at. ap (λ (vs : Row). begins v vs) (sym at)) slots h)

-- the same of several values
pub begun_any : (ordinals : List ℕ) (vs : List Value) (slots : List Slot) → 1 ≤ length ordinals → Keyed ordinals slots
    → rows_in (slots_among vs slots) ≡ filter (λ row. is_among vs (value_at row (slice_index ordinals 0))) (rows_in slots)
begun_any [] vs slots some h = absurd (omega (arith, some))
begun_any (n ∷ ordinals) vs slots some h =
    sym (filter_slots (n ∷ ordinals) (λ row. is_among vs (value_at row n)) (λ k. list_any (λ v. begins v k.values) vs)
    (λ k row at. ap (λ (ks : Row). list_any (λ v. begins v ks) vs) (sym at)) slots h)

pub some_first : (x : Row) (xs : List Row) (o : Option Row) → x ∷ xs ≡ option_to_list o → (o ≡ Some x) × (xs ≡ [])
some_first x xs None e = nil_is (sym e)
some_first x xs (Some r) e = (ap Some (sym (head_is e)), tail_is e)

-- a row passes where the only one that passes is there
pub any_found : (p : Row → Bool) (xs : List Row) (o : Option Row) → filter p xs ≡ option_to_list o → list_any p xs ≡ is_some o
any_found p [] None e = refl
any_found p [] (Some r) e = nil_is e
any_found p (x ∷ xs) o e = by (any_found p xs o) (p x) refl
  where
    by : (filter p xs ≡ option_to_list o → list_any p xs ≡ is_some o) → (b : Bool) → p x ≡ b → (p x || list_any p xs) ≡ is_some o
    by ih true t =
        let f : x ∷ filter p xs ≡ option_to_list o = rw t at e in
        let g = ap is_some (some_first x (filter p xs) o f).0 in
        simp (t, g)
    by ih false t =
        let f : filter p xs ≡ option_to_list o = rw t at e in
        let g = ih f in
        simp (t, g)

pub copied_some : {T : Type 0} (o : Option (Bor T)) → is_some (option_copied o) ≡ is_some o
copied_some None = refl
copied_some (Some x) = refl

free_of : (o : Option (Option Row)) → is_some (option_and_then (λ slot. slot) o) ≡ false → is_some o ≡ true → o ≡ Some None
free_of None none there = absurd (cc there)
free_of (Some None) none there = refl
free_of (Some (Some row)) none there = absurd (cc none)

-- a slot at a key that no row has is free
pub free_slot : (ordinals : List ℕ) (key : RowKey) (slots : List Slot) → Keyed ordinals slots → IsStrictlySortedBy row_key_cmp (keys_of slots)
    → list_any (has_key ordinals key.values) (rows_in slots) ≡ false → is_some (slot_at slots key) ≡ true → slot_at slots key ≡ Some None
free_slot ordinals key slots h up none there =
    free_of (slot_at slots key)
    (sym (any_found (has_key ordinals key.values) (rows_in slots) (row_at slots key) (found ordinals key slots h up)) ∙ none) there

-- a slot with a row, by its row
pub slot_of_row : (slots : List Slot) (key : RowKey) (row : Row) → row_at slots key ≡ Some row → slot_at slots key ≡ Some (Some row)
slot_of_row slots key row is = by (slot_at slots key) is
  where
    by : (o : Option (Option Row)) → option_and_then (λ slot. slot) o ≡ Some row → o ≡ Some (Some row)
    by None e = absurd (cc e)
    by (Some slot) e = ap Some e

-- a row that is not the one at its key is not there
lacks : (ordinals : List ℕ) (row : Row) (values : List Value) → values ≡ key_at ordinals row → (xs : List Row) (o : Option Row)
    → filter (has_key ordinals values) xs ≡ option_to_list o → (o ≡ Some row → ⊥) → without row xs ≡ xs
lacks ordinals row values key [] o e differs = refl
lacks ordinals row values key (x ∷ xs) o e differs =
    by (lacks ordinals row values key xs) (same_row row x) refl (has_key ordinals values x) refl
  where
    by : ((o : Option Row) → filter (has_key ordinals values) xs ≡ option_to_list o → (o ≡ Some row → ⊥) → without row xs ≡ xs)
        → (b : Bool) → same_row row x ≡ b → (d : Bool) → has_key ordinals values x ≡ d → cond (same_row row x) xs (x ∷ without row xs) ≡ x ∷ xs
    by ih true t true u =
        let f : x ∷ filter (has_key ordinals values) xs ≡ option_to_list o = rw u at e in
        absurd (differs ((some_first x (filter (has_key ordinals values) xs) o f).0 ∙ ap Some (sym (row_is row x t))))
    by ih true t false u =
        let g : has_key ordinals values x ≡ true =
        subst (λ (r : Row). same_row values (key_at ordinals r) ≡ true) (row_is row x t)
        (subst (λ (vs : Row). same_row vs (key_at ordinals row) ≡ true) (sym key) (same_self (key_at ordinals row))) in
        absurd (cc (sym g ∙ u))
    by ih false t true u =
        let f : x ∷ filter (has_key ordinals values) xs ≡ option_to_list o = rw u at e in
        let rest = ih None (some_first x (filter (has_key ordinals values) xs) o f).1 (λ n. absurd (cc n)) in
        simp t (ap (λ (z : List Row). x ∷ z) rest)
    by ih false t false u =
        let f : filter (has_key ordinals values) xs ≡ option_to_list o = rw u at e in
        let rest = ih o f differs in
        simp t (ap (λ (z : List Row). x ∷ z) rest)

pub not_there : (ordinals : List ℕ) (key : RowKey) (slots : List Slot) (row : Row) → Keyed ordinals slots → IsStrictlySortedBy row_key_cmp (keys_of slots)
    → key.values ≡ key_at ordinals row → (row_at slots key ≡ Some row → ⊥) → without row (rows_in slots) ≡ rows_in slots
not_there ordinals key slots row h up is differs =
    lacks ordinals row key.values is (rows_in slots) (row_at slots key) (found ordinals key slots h up) differs

-- a row at its key stands in the slots as the others do
pub keyed_row : (ordinals : List ℕ) (key : RowKey) (row : Option Row) (slots : List Slot) → ((r : Row) → row ≡ Some r → key.values ≡ key_at ordinals r)
    → Keyed ordinals slots → Keyed ordinals (with_row key row slots)
keyed_row ordinals key row [] fit h = tt
keyed_row ordinals key row (s ∷ slots) fit h = by (keyed_row ordinals key row slots fit h.1) (is_eq (row_key_cmp key s.0)) refl
  where
    by : Keyed ordinals (with_row key row slots) → (b : Bool) → is_eq (row_key_cmp key s.0) ≡ b
        → Keyed ordinals (cond (is_eq (row_key_cmp key s.0)) ((s.0, row) ∷ slots) (s ∷ with_row key row slots))
    by ih true t =
        let same : key ≡ s.0 = key-same key s.0 ((Equal-is (row_key_cmp key s.0)).0 t) in
        subst (λ (b : Bool). Keyed ordinals (cond b ((s.0, row) ∷ slots) (s ∷ with_row key row slots))) (sym t)
        ((λ r e. ap (λ (k : RowKey). k.values) (sym same) ∙ fit r e), h.1)
    by ih false t =
        subst (λ (b : Bool). Keyed ordinals (cond b ((s.0, row) ∷ slots) (s ∷ with_row key row slots))) (sym t) (h.0, ih)

keyed_slot : (ordinals : List ℕ) (key : RowKey) (slots : List Slot) → Keyed ordinals slots → Keyed ordinals (with_slot key slots)
keyed_slot ordinals key [] h = ((λ r e. absurd (cc e)), tt)
keyed_slot ordinals key (s ∷ slots) h = by (keyed_slot ordinals key slots h.1) (row_key_cmp key s.0) refl
  where
    by : Keyed ordinals (with_slot key slots) → (o : Ordering) → row_key_cmp key s.0 ≡ o
        → Keyed ordinals (match_ordering (row_key_cmp key s.0) ((key, None) ∷ s ∷ slots) ((s.0, None) ∷ slots) (s ∷ with_slot key slots))
    by ih Less t =
        subst (λ (o : Ordering). Keyed ordinals (match_ordering o ((key, None) ∷ s ∷ slots) ((s.0, None) ∷ slots) (s ∷ with_slot key slots))) (sym t)
        ((λ r e. absurd (cc e)), h)
    by ih Equal t =
        subst (λ (o : Ordering). Keyed ordinals (match_ordering o ((key, None) ∷ s ∷ slots) ((s.0, None) ∷ slots) (s ∷ with_slot key slots))) (sym t)
        ((λ r e. absurd (cc e)), h.1)
    by ih Greater t =
        subst (λ (o : Ordering). Keyed ordinals (match_ordering o ((key, None) ∷ s ∷ slots) ((s.0, None) ∷ slots) (s ∷ with_slot key slots))) (sym t)
        (h.0, ih)

keyed_less : (ordinals : List ℕ) (key : RowKey) (slots : List Slot) → Keyed ordinals slots → Keyed ordinals (without_slot key slots)
keyed_less ordinals key [] h = tt
keyed_less ordinals key (s ∷ slots) h = by (keyed_less ordinals key slots h.1) (is_eq (row_key_cmp key s.0)) refl
  where
    by : Keyed ordinals (without_slot key slots) → (b : Bool) → is_eq (row_key_cmp key s.0) ≡ b
        → Keyed ordinals (cond (is_eq (row_key_cmp key s.0)) slots (s ∷ without_slot key slots))
    by ih true t = subst (λ (b : Bool). Keyed ordinals (cond b slots (s ∷ without_slot key slots))) (sym t) h.1
    by ih false t = subst (λ (b : Bool). Keyed ordinals (cond b slots (s ∷ without_slot key slots))) (sym t) (h.0, ih)

keyed_either : (ordinals : List ℕ) (a b : List Slot) → Keyed ordinals a → Keyed ordinals b → (c : Bool) → Keyed ordinals (cond c a b)
keyed_either ordinals a b f g true = f
keyed_either ordinals a b f g false = g

pub keyed_reserved : (ordinals : List ℕ) (key : RowKey) (old new : List Slot) → new ≡ cond (is_some (slot_at old key)) old (with_slot key old)
    → Keyed ordinals old → Keyed ordinals new
keyed_reserved ordinals key old new is h =
    subst (Keyed ordinals) (sym is) (keyed_either ordinals old (with_slot key old) h (keyed_slot ordinals key old h) (is_some (slot_at old key)))

-- a slot that is made, unless memory is wanting
pub keyed_tried : {X E : Type 0} (ordinals : List ℕ) (key : RowKey) (old new : List Slot) (result : Result X E)
    → OnOk result (new ≡ cond (is_some (slot_at old key)) old (with_slot key old)) → OnErr result (new ≡ old) → Keyed ordinals old → Keyed ordinals new
keyed_tried ordinals key old new (Ok x) is same h = keyed_reserved ordinals key old new is h
keyed_tried ordinals key old new (Err e) is same h = subst (Keyed ordinals) (sym same) h

pub keyed_swept : (ordinals : List ℕ) (key : RowKey) (old new : List Slot) (idle : Bool) → new ≡ cond idle (without_slot key old) old → Keyed ordinals old → Keyed ordinals new
keyed_swept ordinals key old new idle is h =
    subst (Keyed ordinals) (sym is) (keyed_either ordinals (without_slot key old) old (keyed_less ordinals key old h) h idle)

pub keyed_added : (ordinals : List ℕ) (key : RowKey) (row : Row) (old new : List Slot) → new ≡ with_row key (Some row) old → key.values ≡ key_at ordinals row
    → Keyed ordinals old → Keyed ordinals new
keyed_added ordinals key row old new is at h =
    subst (Keyed ordinals) (sym is) (keyed_row ordinals key (Some row) old (λ r e. subst (λ (x : Row). key.values ≡ key_at ordinals x) (row_of e) at) h)
  where
    row_of : {a b : Row} → ◌≡◌ {A = Option Row} (Some a) (Some b) → a ≡ b
    row_of e = cc e

pub keyed_taken : (ordinals : List ℕ) (key : RowKey) (old new : List Slot) → new ≡ with_row key None old → Keyed ordinals old → Keyed ordinals new
keyed_taken ordinals key old new is h = subst (Keyed ordinals) (sym is) (keyed_row ordinals key None old (λ r e. absurd (cc e)) h)

one_row : (o : Option Row) → length (option_to_list o) ≤ 1
one_row None = omega arith
one_row (Some r) = omega arith

-- no more rows than slots
pub rows_fit : (slots : List Slot) → length (rows_in slots) ≤ length slots
rows_fit [] = omega arith
rows_fit (s ∷ slots) =
    let n = length-append (option_to_list s.1) (rows_in slots) in
    let one = one_row s.1 in
    let rest = rows_fit slots in
    omega (arith, n, one, rest)

-- the rows whose keys lie in an interval, and begin with a value, are those of a walk from its one end to the other
pub inside : (first : Option (Bor Value)) (keys : KeyInterval) (from : RowKey) (below : Option RowKey) (ordinals : List ℕ) (slots : List Slot) → from.values ≡ keys.from
    → ((k : RowKey) → is_before below k ≡ is_below keys.below k.values) → Keyed ordinals slots
    → rows_in (slots_between from (goes_on first below) slots) ≡ filter (λ row. lies_between first keys (key_at ordinals row)) (rows_in slots)
inside first keys from below ordinals slots at before keyed =
    sym (filter_slots ordinals (λ row. lies_between first keys (key_at ordinals row)) (λ k. is_le (row_key_cmp from k) && goes_on first below k) same slots keyed)
  where
    same : (k : RowKey) (row : Row) → k.values ≡ key_at ordinals row → lies_between first keys (key_at ordinals row) ≡ (is_le (row_key_cmp from k) && goes_on first below k)
    same k row is =
        sym (ap (λ (vs : Row). is_le (slice_cmp value_cmp vs k.values) && (is_before below k && may_begin first k.values)) at
        ∙ ap (λ b. is_le (slice_cmp value_cmp keys.from k.values) && (b && may_begin first k.values)) (before k)
        ∙ ap (λ (vs : Row). lies_between first keys vs) is)

-- a key that lies in an interval does so without a value that it should begin with
pub lies_inside : (keys : KeyInterval) (key : Row) → in_interval keys key ≡ true → lies_between None keys key ≡ true
lies_inside keys key e = by (is_le (slice_cmp value_cmp keys.from key)) (is_below keys.below key) e
  where
    by : (a b : Bool) → (a && b) ≡ true → (a && (b && true)) ≡ true
    by true true f = refl
    by true false f = f
    by false b f = f

-- all rows are those whose keys lie in an interval of all keys
pub all_inside : (keys : KeyInterval) (ordinals : List ℕ) (rows : List Row) → ((key : Row) → in_interval keys key ≡ true)
    → rows ≡ filter (λ row. lies_between None keys (key_at ordinals row)) rows
all_inside keys ordinals [] all = refl
all_inside keys ordinals (row ∷ rows) all =
    let is = lies_inside keys (key_at ordinals row) (all (key_at ordinals row)) in
    let rest = all_inside keys ordinals rows all in
    rw is (ap (λ (l : List Row). row ∷ l) rest)

-- ---- the rows of several values

-- a row's key begins with a value, and lies in the interval of the keys that do so, if the row has the value in its first key column
pub begun_inside : (v : Bor Value) (keys : KeyInterval) (ordinals others : List ℕ) (row : Row) → ordinals ≡ slice_index ordinals 0 ∷ others
    → in_interval keys (v.now ∷ map (value_at row) others) ≡ true → lies_between (Some v) keys (key_at ordinals row) ≡ begins_with ordinals v.now row
begun_inside v keys ordinals others row split inside = ap (λ (l : List ℕ). lies_between (Some v) keys (key_at l row)) split ∙ by (value_cmp v.now x) refl
  where
    x : Value
    x = value_at row (slice_index ordinals 0)

    rest : Row
    rest = map (value_at row) others

    none : (a b : Bool) → (a && (b && false)) ≡ false
    none true true = refl
    none true false = refl
    none false b = refl

    by : (o : Ordering) → value_cmp v.now x ≡ o
        → (is_le (slice_cmp value_cmp keys.from (x ∷ rest)) && (is_below keys.below (x ∷ rest) && is_eq (value_cmp v.now x))) ≡ is_eq (value_cmp v.now x)
    by Equal t =
        let same : v.now ≡ x = value_cmp-same v.now x t in
        let here : lies_between None keys (x ∷ rest) ≡ true = subst (λ (y : Value). lies_between None keys (y ∷ rest) ≡ true) same (lies_inside keys (v.now ∷ rest) inside) in
        ap (λ o. is_le (slice_cmp value_cmp keys.from (x ∷ rest)) && (is_below keys.below (x ∷ rest) && is_eq o)) t ∙ here ∙ sym (ap is_eq t)
    by Less t =
        ap (λ o. is_le (slice_cmp value_cmp keys.from (x ∷ rest)) && (is_below keys.below (x ∷ rest) && is_eq o)) t
        ∙ none (is_le (slice_cmp value_cmp keys.from (x ∷ rest))) (is_below keys.below (x ∷ rest)) ∙ sym (ap is_eq t)
    by Greater t =
        ap (λ o. is_le (slice_cmp value_cmp keys.from (x ∷ rest)) && (is_below keys.below (x ∷ rest) && is_eq o)) t
        ∙ none (is_le (slice_cmp value_cmp keys.from (x ∷ rest))) (is_below keys.below (x ∷ rest)) ∙ sym (ap is_eq t)

-- walks of each value, of which the same is kept as of its rows, are the rows of all
pub all_begun : (k : Row → Bool) (ordinals : List ℕ) (sorted values : List Value) (slots : List Slot) (walked_rows : List Row) → 1 ≤ length ordinals → Keyed ordinals slots
    → IsStrictlySortedBy row_key_cmp (keys_of slots) → Climbs sorted → ((x : Value) → is_among sorted x ≡ is_among values x)
    → filter k walked_rows ≡ filter k (flat_map (λ v. filter (begins_with ordinals v) (rows_in slots)) (risen None sorted))
    → filter k walked_rows ≡ filter k (filter (λ row. is_among values (value_at row (slice_index ordinals 0))) (rows_in slots))
all_begun k ordinals sorted values slots walked_rows some keyed up climbs same is =
    is
    ∙ ap (filter k) ((λ i. flat_map (λ v. sym (begun ordinals v slots some keyed) i) (risen None sorted))
    ∙ walked sorted slots climbs up
    ∙ begun_any ordinals sorted slots some keyed
    ∙ (λ i. filter (λ row. same (value_at row (slice_index ordinals 0)) i) (rows_in slots)))
