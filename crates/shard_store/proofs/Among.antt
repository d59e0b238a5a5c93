-- The rows of several values: a walk for each of them, one after the other.
use Rattle.std.proofs.Common.{◌≡◌, ℕ, zero, suc, ◌+◌, ◌<◌, length, drop, append_assoc, option_copied, Bool, true, false, cond, ◌||◌, List, [], ◌∷◌, ◌++◌, map, filter, flat_map, get_or, Option, Some, None, Bor, refl, sym, ap, ◌∙◌, subst, arith}
use Rattle.std.specs.Prelude.{MatchOption, option_to_list}
use Rattle.std.proofs.lemmas.List.{append-nil}
use Rattle.std.proofs.lemmas.List.Elements.{filter-append}
use Rattle.std.specs.List.{AllByRecursion, list_any}
use Rattle.std.specs.List.Sorted.{IsStrictlySortedBy}
use Rattle.std.specs.Map.{keys_of}
use Rattle.std.specs.Cmp.{Equal-is}
use Rattle.std.specs.Cmp.Lexicographic.{slice_cmp}
use Rattle.std.specs.Ordering.{is_eq, is_lt, is_le, ordering_then, ordering_reverse}
use Rattle.std.specs.declared.cmp.Ordering.{Ordering}
use Rattle.std.specs.declared.cmp.Ordering.TheVariants.{Less, Equal, Greater}
use Rattle.std.proofs.lemmas.Bool.{false≢true}
use Rattle.vt_value.specs.declared.value.Value.{Value}
use Rattle.vt_value.specs.Values.{Row, value_cmp}
use Rattle.sql_eval.proofs.OrderLemmas.{value_cmp-total, value_cmp-same}
use Rattle.shard_store.specs.Keys.{row_key_cmp}
use Rattle.shard_store.specs.Slots.{Slot, rows_in, begins, slots_with}
use Rattle.key_intervals.specs.Listed.{is_among, Climbs}
use Rattle.shard_store.specs.inner.Chosen.{slots_among, risen}
use Rattle.shard_store.proofs.Prefix.{Ascend, ascend, none_with, none_after}
use Rattle.shard_store.proofs.KeptRows.{none_any}

-- ---- the values that are above the last one

again : (a b : Bool) → (a || b) ≡ (a || (a || b))
again true b = refl
again false b = refl

risen_among : (l : Value) (vs : List Value) (x : Value) → Climbs (l ∷ vs)
    → (is_eq (value_cmp l x) || is_among (risen (Some l) vs) x) ≡ (is_eq (value_cmp l x) || is_among vs x)
risen_among l [] x h = refl
risen_among l (v ∷ vs) x h = by (risen_among v vs x h.1) (value_cmp l v) refl
  where
    by : (is_eq (value_cmp v x) || is_among (risen (Some v) vs) x) ≡ (is_eq (value_cmp v x) || is_among vs x) → (o : Ordering) → value_cmp l v ≡ o
        → (is_eq (value_cmp l x) || is_among (risen (Some l) (v ∷ vs)) x) ≡ (is_eq (value_cmp l x) || (is_eq (value_cmp v x) || is_among vs x))
    by ih Less t = rw t (ap (λ b. is_eq (value_cmp l x) || b) ih)
    by ih Equal t =
        rw t (subst (λ (y : Value). (is_eq (value_cmp y x) || is_among (risen (Some y) vs) x) ≡ (is_eq (value_cmp y x) || (is_eq (value_cmp v x) || is_among vs x)))
        (sym (value_cmp-same l v t)) (ih ∙ again (is_eq (value_cmp v x)) (is_among vs x)))
    by ih Greater t =
        let back : value_cmp v l ≡ Less = value_cmp-total.antisymm v l ∙ ap ordering_reverse t in
        absurd (false≢true (sym h.0 ∙ ap is_lt back))

risen_all : (vs : List Value) (x : Value) → Climbs vs → is_among (risen None vs) x ≡ is_among vs x
risen_all [] x h = refl
risen_all (v ∷ vs) x h = risen_among v vs x h

abbrev Below : Value → List Value → Type 0
Below l vs = AllByRecursion (λ w. value_cmp l w ≡ Less) vs

abbrev Rising : List Value → Type 0
Rising [] = Unit {0}
Rising (v ∷ vs) = Below v vs × Rising vs

below_more : (l v : Value) → value_cmp l v ≡ Less → (ws : List Value) → Below v ws → Below l ws
below_more l v e [] h = tt
below_more l v e (w ∷ ws) h = (value_cmp-total.trans l v w e h.0, below_more l v e ws h.1)

rises : (l : Value) (vs : List Value) → Below l (risen (Some l) vs) × Rising (risen (Some l) vs)
rises l [] = (tt, tt)
rises l (v ∷ vs) = by (rises l vs) (rises v vs) (value_cmp l v) refl
  where
    by : Below l (risen (Some l) vs) × Rising (risen (Some l) vs) → Below v (risen (Some v) vs) × Rising (risen (Some v) vs) → (o : Ordering) → value_cmp l v ≡ o
        → Below l (cond (is_lt (value_cmp l v)) (v ∷ risen (Some v) vs) (risen (Some l) vs)) × Rising (cond (is_lt (value_cmp l v)) (v ∷ risen (Some v) vs) (risen (Some l) vs))
    by here there Less t = rw t ((t, below_more l v t (risen (Some v) vs) there.0), there)
    by here there Equal t = rw t here
    by here there Greater t = rw t here

all_rise : (vs : List Value) → Rising (risen None vs)
all_rise [] = tt
all_rise (v ∷ vs) = rises v vs

-- ---- the slots of several values

-- a key that begins with a value above v is after v
less_first : (v x : Value) (ks : Row) (vs : List Value) → Below v vs → list_any (λ w. begins w (x ∷ ks)) vs ≡ true → value_cmp v x ≡ Less
less_first v x ks [] h e = absurd (false≢true e)
less_first v x ks (w ∷ vs) h e = by (less_first v x ks vs h.1) (is_eq (value_cmp w x)) refl e
  where
    by : (list_any (λ w. begins w (x ∷ ks)) vs ≡ true → value_cmp v x ≡ Less) → (b : Bool) → is_eq (value_cmp w x) ≡ b
        → (is_eq (value_cmp w x) || list_any (λ w. begins w (x ∷ ks)) vs) ≡ true → value_cmp v x ≡ Less
    by ih true t g = subst (λ (y : Value). value_cmp v y ≡ Less) (value_cmp-same w x ((Equal-is (value_cmp w x)).0 t)) h.0
    by ih false t g =
        let f : list_any (λ w. begins w (x ∷ ks)) vs ≡ true = rw t at g in
        ih f

trailing : (v : Value) (ks : Row) (vs : List Value) → Below v vs → list_any (λ w. begins w ks) vs ≡ true
    → (is_le (slice_cmp value_cmp (v ∷ []) ks) ≡ true) × (begins v ks ≡ false)
trailing v [] vs h e = absurd (false≢true (sym (none_any (λ w. begins w []) (λ w. refl) vs) ∙ e))
trailing v (x ∷ ks) vs h e =
    let less = less_first v x ks vs h e in
    (ap (λ o. is_le (ordering_then o (slice_cmp value_cmp [] ks))) less, ap is_eq less)

two : (v : Value) (vs : List Value) (slots : List Slot) → Below v vs → Ascend slots → slots_with v slots ++ slots_among vs slots ≡ slots_among (v ∷ vs) slots
two v vs [] h up = refl
two v vs (s ∷ slots) h up = by (two v vs slots h up.1) (begins v s.0.values) refl (list_any (λ w. begins w s.0.values) vs) refl
  where
    by : slots_with v slots ++ slots_among vs slots ≡ slots_among (v ∷ vs) slots → (b : Bool) → begins v s.0.values ≡ b → (d : Bool) → list_any (λ w. begins w s.0.values) vs ≡ d
        → cond (begins v s.0.values) (s ∷ slots_with v slots) (slots_with v slots) ++ cond (list_any (λ w. begins w s.0.values) vs) (s ∷ slots_among vs slots) (slots_among vs slots)
        ≡ cond (begins v s.0.values || list_any (λ w. begins w s.0.values) vs) (s ∷ slots_among (v ∷ vs) slots) (slots_among (v ∷ vs) slots)
    by ih true t true u = absurd (false≢true (sym (trailing v s.0.values vs h u).1 ∙ t))
    by ih true t false u = rw (t, u) (ap (λ (z : List Slot). s ∷ z) ih)
    by ih false t false u = rw (t, u) ih
    by ih false t true u =
        let far = trailing v s.0.values vs h u in
        let none : slots_with v slots ≡ [] = none_with v slots (none_after v s slots far.0 t up.0) in
        let rest : slots_among vs slots ≡ slots_among (v ∷ vs) slots = ap (λ (z : List Slot). z ++ slots_among vs slots) (sym none) ∙ ih in
        rw (t, u) (ap (λ (z : List Slot). z ++ s ∷ slots_among vs slots) none ∙ ap (λ (z : List Slot). s ∷ z) rest)

none_of : (slots : List Slot) → slots_among [] slots ≡ []
none_of [] = refl
none_of (s ∷ slots) = none_of slots

rows_past : (a b : List Slot) → rows_in (a ++ b) ≡ rows_in a ++ rows_in b
rows_past [] b = refl
rows_past (s ∷ a) b =
    ap (λ (z : List Row). option_to_list s.1 ++ z) (rows_past a b)
    ∙ sym (append_assoc (option_to_list s.1) (rows_in a) (rows_in b))

each_walk : (vs : List Value) (slots : List Slot) → Rising vs → Ascend slots → flat_map (λ v. rows_in (slots_with v slots)) vs ≡ rows_in (slots_among vs slots)
each_walk [] slots r up = sym (ap rows_in (none_of slots))
each_walk (v ∷ vs) slots r up =
    ap (λ (z : List Row). rows_in (slots_with v slots) ++ z) (each_walk vs slots r.1 up)
    ∙ sym (rows_past (slots_with v slots) (slots_among vs slots)) ∙ ap rows_in (two v vs slots r.0 up)

begins_same : (vs : List Value) (ks : Row) → Climbs vs → list_any (λ v. begins v ks) (risen None vs) ≡ list_any (λ v. begins v ks) vs
begins_same vs [] h = none_any (λ v. begins v []) (λ v. refl) (risen None vs) ∙ sym (none_any (λ v. begins v []) (λ v. refl) vs)
begins_same vs (x ∷ ks) h = risen_all vs x h

-- a walk for each value that is above the last one
pub walked : (vs : List Value) (slots : List Slot) → Climbs vs → IsStrictlySortedBy row_key_cmp (keys_of slots)
    → flat_map (λ v. rows_in (slots_with v slots)) (risen None vs) ≡ rows_in (slots_among vs slots)
walked vs slots h up =
    each_walk (risen None vs) slots (all_rise vs) (ascend slots up)
    ∙ (λ i. rows_in (filter (λ s. begins_same vs s.0.values h i) slots))

-- ---- a walk more

front : {X : Type 0} (xs : List X) (i : ℕ) (b : X) → i < length xs → b ≡ get_or xs i b → drop i xs ≡ b ∷ drop (i + 1) xs
front [] i b l e = absurd (omega (arith, l))
front (x ∷ xs) zero b l e = ap (λ z. z ∷ xs) (sym e)
front (x ∷ xs) (suc i) b l e =
    let same : suc i + 1 ≡ suc (i + 1) = omega arith in
    front xs i b (omega (arith, l)) e ∙ ap (λ k. b ∷ drop k (x ∷ xs)) (sym same)

taken : (last : Option (Bor Value)) (b : Bor Value) (vs : List Value) (r : Bool) → MatchOption last (r ≡ true) (λ l. r ≡ is_lt (value_cmp l.now b.now)) → r ≡ true
    → risen (option_copied last) (b.now ∷ vs) ≡ b.now ∷ risen (Some b.now) vs
taken None b vs r is t = refl
taken (Some l) b vs r is t = ap (λ c. cond c (b.now ∷ risen (Some b.now) vs) (risen (Some l.now) vs)) (sym is ∙ t)

passed : (last : Option (Bor Value)) (b : Bor Value) (vs : List Value) (r : Bool) → MatchOption last (r ≡ true) (λ l. r ≡ is_lt (value_cmp l.now b.now)) → r ≡ false
    → risen (option_copied last) (b.now ∷ vs) ≡ risen (option_copied last) vs
passed None b vs r is t = absurd (false≢true (sym t ∙ is))
passed (Some l) b vs r is t = ap (λ c. cond c (b.now ∷ risen (Some b.now) vs) (risen (Some l.now) vs)) (sym is ∙ t)

one_more : (walks : List (List Row)) (w : List Row) → flat_map (λ rows. rows) (walks ++ w ∷ []) ≡ flat_map (λ rows. rows) walks ++ w
one_more [] w = append-nil w
one_more (x ∷ walks) w = ap (λ (z : List Row). x ++ z) (one_more walks w) ∙ sym (append_assoc x (flat_map (λ rows. rows) walks) w)

-- what is kept stays the same if a part is replaced of which the same is kept
middle : (k : Row → Bool) (a w v b : List Row) → filter k w ≡ filter k v → filter k (a ++ (w ++ b)) ≡ filter k (a ++ (v ++ b))
middle k a w v b same =
    filter-append k a (w ++ b)
    ∙ ap (λ (z : List Row). filter k a ++ z) (filter-append k w b ∙ ap (λ (z : List Row). z ++ filter k b) same ∙ sym (filter-append k v b))
    ∙ sym (filter-append k a (v ++ b))

module _ (k : Row → Bool) (F : Value → List Row) (last : Option (Bor Value)) (b : Bor Value) (xs : List (Bor Value)) (i : ℕ) (walks : List (List Row)) (r : Bool) (all : List Row)
    (within : i < length xs) (is : b ≡ get_or xs i b) (tells : MatchOption last (r ≡ true) (λ l. r ≡ is_lt (value_cmp l.now b.now)))
    (so_far : filter k (flat_map (λ rows. rows) walks ++ flat_map F (risen (option_copied last) (map (λ (b : Bor Value). b.now) (drop i xs)))) ≡ all) where
  abbrev left : List Value
  left = map (λ (b : Bor Value). b.now) (drop (i + 1) xs)

  at : filter k (flat_map (λ rows. rows) walks ++ flat_map F (risen (option_copied last) (b.now ∷ left))) ≡ all
  at =
      ap (λ (l : List (Bor Value)). filter k (flat_map (λ rows. rows) walks ++ flat_map F (risen (option_copied last) (map (λ (b : Bor Value). b.now) l))))
      (sym (front xs i b within is)) ∙ so_far

  pub more_walked : (w : List Row) (now : List (List Row)) → r ≡ true → filter k w ≡ filter k (F b.now) → now ≡ walks ++ w ∷ []
      → filter k (flat_map (λ rows. rows) now ++ flat_map F (risen (Some b.now) left)) ≡ all
  more_walked w now t rows new =
      ap (λ (l : List (List Row)). filter k (flat_map (λ rows. rows) l ++ flat_map F (risen (Some b.now) left))) new
      ∙ ap (λ (z : List Row). filter k (z ++ flat_map F (risen (Some b.now) left))) (one_more walks w)
      ∙ ap (filter k) (append_assoc (flat_map (λ rows. rows) walks) w (flat_map F (risen (Some b.now) left)))
      ∙ middle k (flat_map (λ rows. rows) walks) w (F b.now) (flat_map F (risen (Some b.now) left)) rows
      ∙ ap (λ (vs : List Value). filter k (flat_map (λ rows. rows) walks ++ flat_map F vs)) (sym (taken last b left r tells t)) ∙ at

  pub none_walked : r ≡ false → filter k (flat_map (λ rows. rows) walks ++ flat_map F (risen (option_copied last) left)) ≡ all
  none_walked t = ap (λ (vs : List Value). filter k (flat_map (λ rows. rows) walks ++ flat_map F vs)) (sym (passed last b left r tells t)) ∙ at
