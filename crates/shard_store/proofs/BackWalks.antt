-- Walks from the last key on, and rows in the order of sort keys.
use Rattle.std.proofs.Common.{◌≡◌, ℕ, zero, suc, ◌+◌, ◌<◌, ◌≤◌, Bool, true, false, cond, not, ◌&&◌, List, [], ◌∷◌, ◌++◌, length, get_or, filter, reverse, option_to_list, Option, Some, None, refl, sym, ap, subst, ◌∙◌, arith}
use Rattle.std.specs.Prelude.{IsSorted, IsPermutation, IfSome}
use Rattle.std.proofs.lemmas.Bool.{false≢true}
use Rattle.std.proofs.lemmas.List.{append-nil, reverse-append}
use Rattle.std.proofs.lemmas.Grind.{flat_map-append}
use Rattle.std.proofs.lemmas.List.Elements.{filter-append}
use Rattle.std.proofs.lemmas.List.Sorted.{IsPermutation-reverse, IsPermutation-sym}
use Rattle.std.specs.List.{AllByRecursion}
use Rattle.std.specs.List.Sorted.{IsSortedBy, IsStrictlySortedBy}
use Rattle.std.specs.Map.{keys_of}
use Rattle.std.specs.BTreeMap.Range.{entries_between}
use Rattle.std.specs.declared.ops.Bound.TheVariants.{Unbounded, Excluded}
use Rattle.std.specs.Ordering.{is_lt, is_le, ordering_reverse}
use Rattle.std.specs.Cmp.Lexicographic.{slice_cmp}
use Rattle.std.specs.declared.cmp.Ordering.{Ordering}
use Rattle.std.specs.declared.cmp.Ordering.TheVariants.{Less, Equal, Greater}
use Rattle.vt_value.specs.Values.{Row, value_cmp}
use Rattle.sql_tree.specs.declared.Key.{Key}
use Rattle.sql_eval.specs.Query.{Query}
use Rattle.sql_eval.specs.Orders.{row_cmp}
use Rattle.sql_eval.specs.Conditions.{is_kept}
use Rattle.sql_eval.specs.Queries.{IsAnswer}
use Rattle.sql_eval.proofs.SameAnswers.{same_answers}
use Rattle.sql_eval.proofs.Sums.{all_push}
use Rattle.key_intervals.specs.declared.direction.Direction.{Direction}
use Rattle.key_intervals.specs.declared.direction.Direction.TheVariants.{Forward, Backward}
use Rattle.key_intervals.specs.Directions.{walked_cmp}
use Rattle.key_intervals.specs.inner.Walks.{walked}
use Rattle.key_intervals.proofs.KeyLemmas.{le_trans}
use Rattle.shard_store.specs.declared.key.RowKey.{RowKey}
use Rattle.shard_store.specs.Keys.{row_key_cmp}
use Rattle.shard_store.specs.Slots.{Slot, rows_in, is_from, goes_on, run_of}
use Rattle.shard_store.specs.Tables.{key_at, IsAtItsKey}
use Rattle.shard_store.specs.inner.Slots.{slots_between}
use Rattle.shard_store.specs.Proofs.KeyLemmas.{key_cmp-total}
use Rattle.shard_store.proofs.Prefix.{Ascend, ascend}
use Rattle.shard_store.proofs.Keyed.{Keyed}
use Rattle.shard_store.proofs.KeptRows.{filter_twice}
use Rattle.shard_store.proofs.KeptPairs.{answer_of_same_kept}

-- ---- lists turned round

reverse-cons : {X : Type 0} (x : X) (xs : List X) → reverse (x ∷ xs) ≡ reverse xs ++ x ∷ []
reverse-cons x xs = reverse-append (x ∷ []) xs

pub filter_back : {X : Type 0} (p : X → Bool) (xs : List X) → filter p (reverse xs) ≡ reverse (filter p xs)
filter_back p [] = refl
filter_back {X = X} p (x ∷ xs) =
    ap (filter p) (reverse-cons x xs) ∙ filter-append p (reverse xs) (x ∷ []) ∙ ap (λ (l : List X). l ++ filter p (x ∷ [])) (filter_back p xs) ∙ by (p x) refl
  where
    by : (b : Bool) → p x ≡ b → reverse (filter p xs) ++ cond (p x) (x ∷ []) [] ≡ reverse (cond (p x) (x ∷ filter p xs) (filter p xs))
    by true e = rw e (sym (reverse-cons x (filter p xs)))
    by false e = rw e (append-nil (reverse (filter p xs)))

slot_back : (o : Option Row) (rows : List Row) → reverse rows ++ (option_to_list o ++ []) ≡ reverse (option_to_list o ++ rows)
slot_back None rows = append-nil (reverse rows)
slot_back (Some row) rows = sym (reverse-cons row rows)

rows_turned : (slots : List Slot) → rows_in (reverse slots) ≡ reverse (rows_in slots)
rows_turned [] = refl
rows_turned (s ∷ slots) =
    ap rows_in (reverse-cons s slots) ∙ flat_map-append (λ (q : Slot). option_to_list q.1) (reverse slots) (s ∷ [])
    ∙ ap (λ (l : List Row). l ++ (option_to_list s.1 ++ [])) (rows_turned slots) ∙ slot_back s.1 (rows_in slots)

all_turned : {X : Type 0} (P : X → Type 0) (xs : List X) → AllByRecursion P xs → AllByRecursion P (reverse xs)
all_turned P [] all = tt
all_turned P (x ∷ xs) all = subst (AllByRecursion P) (sym (reverse-cons x xs)) (all_push P (reverse xs) x (all_turned P xs all.1) all.0)

-- ---- a walk that ends with the first key below another

-- once the test fails for a slot it fails for all after it
abbrev Ends : (RowKey → Bool) → List Slot → Type 0
Ends on [] = Unit {0}
Ends on (s ∷ slots) = (on s.0 ≡ false → AllByRecursion (λ q. on q.0 ≡ false) slots) × Ends on slots

none_left : (on : RowKey → Bool) (slots : List Slot) → AllByRecursion (λ q. on q.0 ≡ false) slots → filter (λ s. on s.0) slots ≡ []
none_left on [] h = refl
none_left on (s ∷ slots) h =
    let first = h.0 in
    let rest = none_left on slots h.1 in
    simp (first, rest)

run_is : (on : RowKey → Bool) (slots : List Slot) → Ends on slots → run_of on slots ≡ filter (λ s. on s.0) slots
run_is on [] h = refl
run_is on (s ∷ slots) h = by (run_is on slots h.1) (on s.0) refl
  where
    by : run_of on slots ≡ filter (λ s. on s.0) slots → (b : Bool) → on s.0 ≡ b
        → cond (on s.0) (s ∷ run_of on slots) [] ≡ cond (on s.0) (s ∷ filter (λ q. on q.0) slots) (filter (λ q. on q.0) slots)
    by ih true e = rw e (ap (λ (l : List Slot). s ∷ l) ih)
    by ih false e = rw e (sym (none_left on slots (h.0 e)))

ends_more : (on : RowKey → Bool) (slots : List Slot) (s : Slot) → Ends on slots → AllByRecursion (λ q. on q.0 ≡ false → on s.0 ≡ false) slots → Ends on (slots ++ s ∷ [])
ends_more on [] s h g = ((λ e. tt), tt)
ends_more on (q ∷ slots) s h g = ((λ e. all_push (λ p. on p.0 ≡ false) slots s (h.0 e) (g.0 e)), ends_more on slots s h.1 g.1)

below_too : (from s q : RowKey) → row_key_cmp s q ≡ Less → is_from from q ≡ false → is_from from s ≡ false
below_too from s q less e = by (is_from from s) refl
  where
    by : (b : Bool) → is_from from s ≡ b → is_from from s ≡ false
    by false t = t
    by true t = absurd (false≢true (sym e ∙ le_trans key_cmp-total from s q t (ap is_le less)))

ends_back : (from : RowKey) (slots : List Slot) → Ascend slots → Ends (is_from from) (reverse slots)
ends_back from [] up = tt
ends_back from (s ∷ slots) up =
    subst (Ends (is_from from)) (sym (reverse-cons s slots))
    (ends_more (is_from from) (reverse slots) s (ends_back from slots up.1) (all_turned (λ (q : Slot). is_from from q.0 ≡ false → is_from from s.0 ≡ false) slots (each slots up.0)))
  where
    each : (more : List Slot) → AllByRecursion (λ q. row_key_cmp s.0 q.0 ≡ Less) more → AllByRecursion (λ q. is_from from q.0 ≡ false → is_from from s.0 ≡ false) more
    each [] h = tt
    each (q ∷ more) h = ((λ e. below_too from s.0 q.0 h.0 e), each more h.1)

all_kept : {X : Type 0} (P : X → Type 0) (p : X → Bool) (xs : List X) → AllByRecursion P xs → AllByRecursion P (filter p xs)
all_kept P p [] all = tt
all_kept P p (x ∷ xs) all = by (p x) (all_kept P p xs all.1)
  where
    by : (b : Bool) → AllByRecursion P (filter p xs) → AllByRecursion P (cond b (x ∷ filter p xs) (filter p xs))
    by true rest = (all.0, rest)
    by false rest = rest

kept_ascend : (p : Slot → Bool) (slots : List Slot) → Ascend slots → Ascend (filter p slots)
kept_ascend p [] up = tt
kept_ascend p (s ∷ slots) up = by (p s) (kept_ascend p slots up.1)
  where
    by : (b : Bool) → Ascend (filter p slots) → Ascend (cond b (s ∷ filter p slots) (filter p slots))
    by true rest = (all_kept (λ q. row_key_cmp s.0 q.0 ≡ Less) p slots up.0, rest)
    by false rest = rest

both_kept : {X : Type 0} (p q : X → Bool) (xs : List X) → filter p (filter q xs) ≡ filter (λ x. p x && q x) xs
both_kept p q [] = refl
both_kept {X = X} p q (x ∷ xs) = by (both_kept p q xs) (q x) refl (p x) refl
  where
    by : filter p (filter q xs) ≡ filter (λ x. p x && q x) xs → (b : Bool) → q x ≡ b → (a : Bool) → p x ≡ a
        → filter p (cond (q x) (x ∷ filter q xs) (filter q xs)) ≡ cond (p x && q x) (x ∷ filter (λ x. p x && q x) xs) (filter (λ x. p x && q x) xs)
    by ih true e true f = simp (e, f, ih)
    by ih true e false f = simp (e, f, ih)
    by ih false e true f = simp (e, f, ih)
    by ih false e false f = simp (e, f, ih)

-- the walk back over the slots before a key has the rows between the two, turned round
pub back_walked : (from : RowKey) (below : Option RowKey) (slots range : List Slot) → range ≡ filter (λ s. goes_on None below s.0) slots
    → IsStrictlySortedBy row_key_cmp (keys_of slots) → rows_in (run_of (is_from from) (reverse range)) ≡ reverse (rows_in (slots_between from (goes_on None below) slots))
back_walked from below slots range is up =
    let before = filter (λ (s : Slot). goes_on None below s.0) slots in
    ap (λ (r : List Slot). rows_in (run_of (is_from from) (reverse r))) is
    ∙ ap rows_in (run_is (is_from from) (reverse before) (ends_back from before (kept_ascend (λ s. goes_on None below s.0) slots (ascend slots up))))
    ∙ ap rows_in (filter_back (λ (s : Slot). is_from from s.0) before)
    ∙ rows_turned (filter (λ (s : Slot). is_from from s.0) before)
    ∙ ap (λ (l : List Slot). reverse (rows_in l)) (both_kept (λ (s : Slot). is_from from s.0) (λ (s : Slot). goes_on None below s.0) slots)

-- one slot less
pub last_turned : (slots more : List Slot) (s : Slot) → slots ≡ more ++ s ∷ [] → reverse slots ≡ s ∷ reverse more
last_turned slots more s is = ap reverse is ∙ reverse-append more (s ∷ [])

-- ---- the slots before a key

alike : (p q : Slot → Bool) → ((s : Slot) → p s ≡ q s) → (slots : List Slot) → filter p slots ≡ filter q slots
alike p q h [] = refl
alike p q h (s ∷ slots) = λ i. cond (h s i) (s ∷ alike p q h slots i) (alike p q h slots i)

before_is : (below k : RowKey) → not (is_le (row_key_cmp below k)) ≡ (is_lt (row_key_cmp k below) && true)
before_is below k = by (row_key_cmp below k) refl
  where
    by : (o : Ordering) → row_key_cmp below k ≡ o → not (is_le (row_key_cmp below k)) ≡ (is_lt (row_key_cmp k below) && true)
    by o e = rw e (each o) ∙ sym (ap (λ (p : Ordering). is_lt p && true) (key_cmp-total.antisymm k below ∙ ap ordering_reverse e))
      where
        each : (o : Ordering) → not (is_le o) ≡ (is_lt (ordering_reverse o) && true)
        each Less = refl
        each Equal = refl
        each Greater = refl

pub slots_before : (o : Option RowKey) (below : RowKey) (slots : List Slot) → o ≡ Some below
    → entries_between row_key_cmp Unbounded (Excluded below) slots ≡ filter (λ s. goes_on None o s.0) slots
slots_before o below slots is =
    alike (λ s. true && not (is_le (row_key_cmp below s.0))) (λ s. goes_on None (Some below) s.0) (λ s. before_is below s.0) slots
    ∙ ap (λ (b : Option RowKey). filter (λ s. goes_on None b s.0) slots) (sym is)

pub slots_all : (o : Option RowKey) (slots : List Slot) → o ≡ None → slots ≡ filter (λ s. goes_on None o s.0) slots
slots_all o slots is = sym (each slots) ∙ ap (λ (b : Option RowKey). filter (λ s. goes_on None b s.0) slots) (sym is)
  where
    each : (slots : List Slot) → filter (λ (s : Slot). goes_on None None s.0) slots ≡ slots
    each [] = refl
    each (s ∷ slots) = ap (λ (l : List Slot). s ∷ l) (each slots)

-- ---- rows of which each earlier one may come before each later one

abbrev Pairs : {X : Type 0} → (X → X → Type 0) → List X → Type 0
Pairs R [] = Unit {0}
Pairs R (x ∷ xs) = AllByRecursion (R x) xs × Pairs R xs

pairs_more : {X : Type 0} (R : X → X → Type 0) (xs : List X) (y : X) → Pairs R xs → AllByRecursion (λ x. R x y) xs → Pairs R (xs ++ y ∷ [])
pairs_more R [] y h g = (tt, tt)
pairs_more R (x ∷ xs) y h g = (all_push (R x) xs y h.0 g.0, pairs_more R xs y h.1 g.1)

pairs_back : {X : Type 0} (R : X → X → Type 0) (xs : List X) → Pairs R xs → Pairs (λ a b. R b a) (reverse xs)
pairs_back R [] h = tt
pairs_back {X = X} R (x ∷ xs) h =
    subst (Pairs (λ (a b : X). R b a)) (sym (reverse-cons x xs)) (pairs_more (λ (a b : X). R b a) (reverse xs) x (pairs_back R xs h.1) (all_turned (R x) xs h.0))

pairs_sorted : {X : Type 0} (lt : X → X → Bool) (xs : List X) → Pairs (λ a b. lt b a ≡ false) xs → IsSortedBy lt xs
pairs_sorted lt [] h = λ k d low within. absurd (omega (arith, within))
pairs_sorted lt (x ∷ []) h = λ k d low within. absurd (omega (arith, within))
pairs_sorted {X = X} lt (x ∷ y ∷ xs) h = each (pairs_sorted lt (y ∷ xs) h.1)
  where
    each : IsSortedBy lt (y ∷ xs) → (k : ℕ) (d : X) → 0 ≤ k → k + 1 < length (x ∷ y ∷ xs) → lt (get_or (x ∷ y ∷ xs) (k + 1) d) (get_or (x ∷ y ∷ xs) k d) ≡ false
    each rest zero d low within = h.0.0
    each rest (suc k) d low within =
        let n : suc k + 1 ≡ suc (k + 1) = omega arith in
        rw n (rest k d (omega arith) (omega (arith, within)))

module _ (d : Direction) (keys : List (Key ℕ)) (kept : Row → Bool) (ordinals : List ℕ)
    (follows : (a b : Row) → kept a ≡ true → kept b ≡ true → slice_cmp value_cmp (key_at ordinals a) (key_at ordinals b) ≡ Less → is_lt (walked_cmp d keys b a) ≡ false) where
  abbrev Goes : Row → Row → Type 0
  Goes a b = is_lt (walked_cmp d keys b a) ≡ false

  later : (s q : Slot) (x y : Row) → IsAtItsKey ordinals s → IsAtItsKey ordinals q → s.1 ≡ Some x → q.1 ≡ Some y → row_key_cmp s.0 q.0 ≡ Less
      → slice_cmp value_cmp (key_at ordinals x) (key_at ordinals y) ≡ Less
  later s q x y at atq e f less =
      subst (λ (k : Row). slice_cmp value_cmp (key_at ordinals x) k ≡ Less) (atq y f)
      (subst (λ (k : Row). slice_cmp value_cmp k q.0.values ≡ Less) (at x e) less)

  row_pairs : (s : Slot) (x : Row) → IsAtItsKey ordinals s → s.1 ≡ Some x → kept x ≡ true → (slots : List Slot) → Keyed ordinals slots
      → AllByRecursion (λ q. row_key_cmp s.0 q.0 ≡ Less) slots → AllByRecursion (Goes x) (filter kept (rows_in slots))
  row_pairs s x at e in_x [] h up = tt
  row_pairs s x at e in_x (q ∷ slots) h up = by q.1 refl (row_pairs s x at e in_x slots h.1 up.1)
    where
      by : (o : Option Row) → q.1 ≡ o → AllByRecursion (Goes x) (filter kept (rows_in slots)) → AllByRecursion (Goes x) (filter kept (option_to_list q.1 ++ rows_in slots))
      by None f rest = rw f rest
      by (Some y) f rest = rw f (one (kept y) refl)
        where
          one : (b : Bool) → kept y ≡ b → AllByRecursion (Goes x) (cond (kept y) (y ∷ filter kept (rows_in slots)) (filter kept (rows_in slots)))
          one true g = rw g (follows x y in_x g (later s q x y at h.0 e f up.0), rest)
          one false g = rw g rest

  pub kept_pairs : (slots : List Slot) → Keyed ordinals slots → Ascend slots → Pairs Goes (filter kept (rows_in slots))
  kept_pairs [] h up = tt
  kept_pairs (s ∷ slots) h up = by s.1 refl (kept_pairs slots h.1 up.1)
    where
      by : (o : Option Row) → s.1 ≡ o → Pairs Goes (filter kept (rows_in slots)) → Pairs Goes (filter kept (option_to_list s.1 ++ rows_in slots))
      by None e rest = rw e rest
      by (Some x) e rest = rw e (one (kept x) refl)
        where
          one : (b : Bool) → kept x ≡ b → Pairs Goes (cond (kept x) (x ∷ filter kept (rows_in slots)) (filter kept (rows_in slots)))
          one true g = rw g (row_pairs s x h.0 e g slots h.1 up.0, rest)
          one false g = rw g rest

-- a walk in the direction meets the rows in the order of the sort keys
pub walk_sorted : (d : Direction) (keys : List (Key ℕ)) (kept : Row → Bool) (ordinals : List ℕ)
    → ((a b : Row) → kept a ≡ true → kept b ≡ true → slice_cmp value_cmp (key_at ordinals a) (key_at ordinals b) ≡ Less → is_lt (walked_cmp d keys b a) ≡ false)
    → (slots : List Slot) → Keyed ordinals slots → IsStrictlySortedBy row_key_cmp (keys_of slots)
    → IsSorted (row_cmp keys) (walked d (filter kept (rows_in slots)))
walk_sorted Forward keys kept ordinals follows slots h up =
    pairs_sorted (λ (x y : Row). is_lt (row_cmp keys x y)) (filter kept (rows_in slots)) (kept_pairs Forward keys kept ordinals follows slots h (ascend slots up))
walk_sorted Backward keys kept ordinals follows slots h up =
    pairs_sorted (λ (x y : Row). is_lt (row_cmp keys x y)) (reverse (filter kept (rows_in slots)))
    (pairs_back (λ (a b : Row). is_lt (row_cmp keys a b) ≡ false) (filter kept (rows_in slots)) (kept_pairs Backward keys kept ordinals follows slots h (ascend slots up)))

pub some_weaker : {X : Type 0} (o : Option X) (P Q : X → Type 0) → ((x : X) → P x → Q x) → IfSome o P → IfSome o Q
some_weaker None P Q f h = h
some_weaker (Some x) P Q f h = f x h

-- an answer over rows that are kept in the reverse order is one over the rows
pub answer_back : (q : Query) (back rows list : List Row) → filter (is_kept q.filter) back ≡ reverse (filter (is_kept q.filter) rows) → IsAnswer q back list → IsAnswer q rows list
answer_back q back rows list same answer =
    let k = is_kept q.filter in
    let of_kept : IsAnswer q (filter k back) list = answer_of_same_kept q back (filter k back) list (sym (filter_twice k back)) answer in
    let turned : IsPermutation (filter k back) (filter k rows) =
    subst (λ (l : List Row). IsPermutation l (filter k rows)) (sym same) (IsPermutation-sym (filter k rows) (reverse (filter k rows)) (IsPermutation-reverse (filter k rows))) in
    answer_of_same_kept q (filter k rows) rows list (filter_twice k rows) (same_answers q (filter k back) (filter k rows) list turned of_kept)
