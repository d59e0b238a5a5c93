-- Each item once: what the loop that finds them keeps, and that rows with each item once are shown as those of the whole query.
use Rattle.std.proofs.Common.{Option, ◌≡◌, ℕ, zero, suc, ◌+◌, ◌*◌, ◌<◌, ◌≤◌, ◌==◌, Bool, true, false, not, cond, ◌||◌, ◌&&◌, List, [], ◌∷◌, ◌++◌, length, map, filter, slice_get, Some, None, refl, sym, ap, subst, ◌∙◌, arith, eqb-true, eq-eqb, nat_cmp, is_eq}
use Rattle.std.specs.Prelude.{IsPermutation, IsSorted}
use Rattle.std.specs.List.{list_any}
use Rattle.std.specs.BTreeMap.{BTreeMap, get}
use Rattle.std.proofs.lemmas.List.Folds.{list_any-append}
use Rattle.std.proofs.lemmas.Grind.{common_steps}
use Rattle.std.proofs.lemmas.List.{get_or-map, length-map, map-append, append-nil}
use Rattle.std.proofs.lemmas.List.Elements.{filter-append}
use Rattle.std.proofs.lemmas.List.Sorted.{IsPermutation-map}
use Rattle.vt_value.specs.declared.value.Value.{Value}
use Rattle.vt_value.specs.Values.{Row, value_at}
use Rattle.sql_tree.specs.declared.Item.{Item}
use Rattle.sql_tree.specs.declared.Item.TheVariants.{Column, CountRows, Count, Sum, Min, Max}
use Rattle.aggregate.specs.Orders.{keys_cmp}
use Rattle.aggregate.specs.Slices.{sliced, columns_of}
use Rattle.vschema.specs.declared.schema.Query.{Query}
use Rattle.vschema.specs.Checks.{is_aggregate, is_aggregated}
use Rattle.sql_eval.specs.Conditions.{is_kept}
use Rattle.sql_eval.specs.Groups.{group_values, group_rows, item_value}
use Rattle.sql_eval.specs.Queries.{Keyed, shown_value, keyed_row, keyed_group, kept_rows, IsAnswer}
use Rattle.sql_eval.specs.Narrowing.{item_code, same_item, distinct_items, narrowed, whole_items, whole_ordinals, ShowsAt}
use Rattle.sql_eval.specs.inner.Narrowings.{has_item, are_apart, IsSeen, whole_query, IsNarrowing}
use Rattle.sql_eval.specs.declared.narrowed.Whole.{Whole}
use Rattle.sql_eval.specs.declared.narrowed.Seen.{Seen}
use Rattle.sql_eval.proofs.AnswerLemmas.{sliced_map, kept_plain, kept_grouped}
use Rattle.sql_eval.proofs.GroupLemmas.{filter_short}

-- ---- an item is known by its number

abbrev kind : Item ℕ → ℕ
kind (Column n) = 0
kind CountRows = 1
kind (Count n) = 2
kind (Sum n) = 3
kind (Min n) = 4
kind (Max n) = 5

abbrev ordinal : Item ℕ → ℕ
ordinal (Column n) = n
ordinal CountRows = 0
ordinal (Count n) = n
ordinal (Sum n) = n
ordinal (Min n) = n
ordinal (Max n) = n

abbrev item_of : ℕ → ℕ → Item ℕ
item_of zero n = Column n
item_of (suc zero) n = CountRows
item_of (suc (suc zero)) n = Count n
item_of (suc (suc (suc zero))) n = Sum n
item_of (suc (suc (suc (suc zero)))) n = Min n
item_of k n = Max n

is_item : (i : Item ℕ) → item_of (kind i) (ordinal i) ≡ i
is_item (Column n) = refl
is_item CountRows = refl
is_item (Count n) = refl
is_item (Sum n) = refl
is_item (Min n) = refl
is_item (Max n) = refl

code_is : (i : Item ℕ) → (item_code i ≡ 6 * ordinal i + kind i) × (kind i < 6)
code_is (Column n) = (omega arith, omega arith)
code_is CountRows = (omega arith, omega arith)
code_is (Count n) = (omega arith, omega arith)
code_is (Sum n) = (omega arith, omega arith)
code_is (Min n) = (omega arith, omega arith)
code_is (Max n) = (omega arith, omega arith)

pub by_number : (i j : Item ℕ) → item_code i ≡ item_code j → i ≡ j
by_number i j e =
    let a = code_is i in
    let b = code_is j in
    let ordinals : ordinal i ≡ ordinal j = omega (arith, a.0, a.1, b.0, b.1, e) in
    let kinds : kind i ≡ kind j = omega (arith, a.0, a.1, b.0, b.1, e) in
    sym (is_item i) ∙ ap (λ k. item_of k (ordinal i)) kinds ∙ ap (item_of (kind j)) ordinals ∙ is_item j

-- ---- each item once, from the last one on

differs : Item ℕ → Item ℕ → Bool
differs i j = not (same_item i j)

-- what is looked for is not what is left out
others_stay : (i x : Item ℕ) → same_item i x ≡ false → (items : List (Item ℕ)) → has_item i (filter (λ j. not (same_item x j)) items) ≡ has_item i items
others_stay i x apart [] = refl
others_stay i x apart (y ∷ items) = by (same_item x y) refl (others_stay i x apart items)
  where
    by : (b : Bool) → same_item x y ≡ b → has_item i (filter (λ j. not (same_item x j)) items) ≡ has_item i items
        → has_item i (cond (not b) (y ∷ filter (λ j. not (same_item x j)) items) (filter (λ j. not (same_item x j)) items)) ≡ (same_item i y || has_item i items)
    by true same rest = rw (subst (λ z. same_item i z ≡ false) (by_number x y (eqb-true _ _ same)) apart) rest
    by false same rest = ap (λ b. same_item i y || b) rest

same_as_itself : (n : ℕ) → (n == n) ≡ true
same_as_itself n = eq-eqb n n refl

turned : (m n : ℕ) → (m == n) ≡ (n == m)
turned m n = grind (arith, common_steps)

-- the items but for those that are this one
abbrev others : Item ℕ → List (Item ℕ) → List (Item ℕ)
others x = filter (λ j. not (same_item x j))

not_again : (i x : Item ℕ) → same_item i x ≡ true → filter (λ j. not (same_item x j)) (i ∷ []) ≡ []
not_again i x same = rw (by_number i x (eqb-true _ _ same), same_as_itself (item_code x)) refl

again : (i x : Item ℕ) → same_item i x ≡ false → filter (λ j. not (same_item x j)) (i ∷ []) ≡ i ∷ []
again i x apart = rw (turned (item_code x) (item_code i), apart) refl

-- an item that was there goes nowhere, and a new one goes after the others
pub one_item_more : (i : Item ℕ) (items : List (Item ℕ)) (b : Bool) → has_item i (distinct_items items) ≡ b
    → distinct_items (items ++ i ∷ []) ≡ cond b (distinct_items items) (distinct_items items ++ i ∷ [])
one_item_more i [] true is = absurd cc
one_item_more i [] false is = refl
one_item_more i (x ∷ items) b is = by (same_item i x) refl (has_item i (distinct_items items)) refl (one_item_more i items)
  where
    trailing : others x (distinct_items items ++ i ∷ []) ≡ others x (distinct_items items) ++ others x (i ∷ [])
    trailing = filter-append (λ j. not (same_item x j)) (distinct_items items) (i ∷ [])

    by : (same : Bool) → same_item i x ≡ same → (there : Bool) → has_item i (distinct_items items) ≡ there
        → ((c : Bool) → has_item i (distinct_items items) ≡ c → distinct_items (items ++ i ∷ []) ≡ cond c (distinct_items items) (distinct_items items ++ i ∷ []))
        → x ∷ others x (distinct_items (items ++ i ∷ [])) ≡ cond b (x ∷ others x (distinct_items items)) (x ∷ others x (distinct_items items) ++ i ∷ [])
    by true same true there more = let yes : b ≡ true = cc in rw (yes, more true there) refl
    by true same false there more = let yes : b ≡ true = cc in rw (yes, more false there, trailing, not_again i x same, append-nil (others x (distinct_items items))) refl
    by false same true there more =
        let yes : b ≡ true = sym is ∙ ap (λ s. s || has_item i (others x (distinct_items items))) same ∙ others_stay i x same (distinct_items items) ∙ there in
        rw (yes, more true there) refl
    by false same false there more =
        let no : b ≡ false = sym is ∙ ap (λ s. s || has_item i (others x (distinct_items items))) same ∙ others_stay i x same (distinct_items items) ∙ there in
        rw (no, more false there, trailing, again i x same) refl

-- ---- places in a list that grows

pub kept_ordinal : {X : Type 0} (xs ys : List X) (k : ℕ) (x : X) → slice_get xs k ≡ Some x → slice_get (xs ++ ys) k ≡ Some x
kept_ordinal [] ys k x e = absurd cc
kept_ordinal (y ∷ xs) ys zero x e = e
kept_ordinal (y ∷ xs) ys (suc k) x e = kept_ordinal xs ys k x e

pub last_ordinal : {X : Type 0} (xs : List X) (y : X) → slice_get (xs ++ y ∷ []) (length xs) ≡ Some y
last_ordinal [] y = refl
last_ordinal (x ∷ xs) y = last_ordinal xs y

-- what was found is found among more
pub found_among : {X : Type 0} (xs ys : List X) (ordinals : List ℕ) (wanted : List X) → map (slice_get xs) ordinals ≡ map Some wanted → map (slice_get (xs ++ ys)) ordinals ≡ map Some wanted
found_among xs ys [] [] e = refl
found_among xs ys [] (w ∷ wanted) e = absurd cc
found_among xs ys (p ∷ ordinals) [] e = absurd cc
found_among {X} xs ys (p ∷ ordinals) (w ∷ wanted) e =
    let head : slice_get xs p ≡ Some w = cc in
    let tail : map (slice_get xs) ordinals ≡ map Some wanted = cc in
    rw (kept_ordinal xs ys p w head, found_among xs ys ordinals wanted tail) refl

pub one_more : {X : Type 0} (xs : List X) (ordinals : List ℕ) (wanted : List X) (p : ℕ) (w : X) → map (slice_get xs) ordinals ≡ map Some wanted → slice_get xs p ≡ Some w
    → map (slice_get xs) (ordinals ++ p ∷ []) ≡ map Some (wanted ++ w ∷ [])
one_more xs ordinals wanted p w e last = map-append (slice_get xs) ordinals (p ∷ []) ∙ rw (e, last) (sym (map-append Some wanted (w ∷ [])))

-- ---- the loop's step

or_true : (b : Bool) → (b || true) ≡ true
or_true true = refl
or_true false = refl

same_number : (x n : ℕ) → is_eq (nat_cmp x n) ≡ (x == n)
same_number x n = grind (arith, common_steps)

has_at : (i : Item ℕ) (items : List (Item ℕ)) (p : ℕ) → slice_get items p ≡ Some i → has_item i items ≡ true
has_at i [] p e = absurd cc
has_at i (x ∷ items) zero e = let same : x ≡ i = cc in rw (same, same_as_itself (item_code i)) refl
has_at i (x ∷ items) (suc p) e = rw (has_at i items p e) (or_true (same_item i x))

pub seen_again : (before : List (Item ℕ)) (s : Seen) (i : Item ℕ) (p : ℕ) → IsSeen before s → get nat_cmp s.by_code (item_code i) ≡ Some p
    → IsSeen (before ++ i ∷ []) (record s { ordinals = s.ordinals ++ p ∷ [] })
seen_again before s i p is found =
    let at : slice_get s.items p ≡ Some i = is.known i p found in
    record {
      distinct = is.distinct ∙ sym (one_item_more i before true (ap (has_item i) (sym is.distinct) ∙ has_at i s.items p at));
      shown = one_more s.items s.ordinals before p i is.shown at;
      known = is.known;
      unknown = is.unknown;
    }

pub seen_first : (before : List (Item ℕ)) (s : Seen) (i : Item ℕ) (by_code : BTreeMap ℕ ℕ) → IsSeen before s → get nat_cmp s.by_code (item_code i) ≡ None
    → ((n : ℕ) → get nat_cmp by_code n ≡ cond (is_eq (nat_cmp (item_code i) n)) (Some (length s.items)) (get nat_cmp s.by_code n))
    → IsSeen (before ++ i ∷ []) (record { items = s.items ++ i ∷ []; ordinals = s.ordinals ++ length s.items ∷ []; by_code = by_code })
seen_first before s i by_code is none updates =
    record {
      distinct = ap (λ l. l ++ i ∷ []) is.distinct ∙ sym (one_item_more i before false (ap (has_item i) (sym is.distinct) ∙ is.unknown i none));
      shown =
          one_more (s.items ++ i ∷ []) s.ordinals before (length s.items) i (found_among s.items (i ∷ []) s.ordinals before is.shown) (last_ordinal s.items i);
      known = λ j p found. known j p (same_item i j) refl (sym (at_code j) ∙ found);
      unknown = λ j none. list_any-append (same_item j) s.items (i ∷ []) ∙ unknown j (same_item i j) refl (sym (at_code j) ∙ none);
    }
  where
    at_code : (j : Item ℕ) → get nat_cmp by_code (item_code j) ≡ cond (same_item i j) (Some (length s.items)) (get nat_cmp s.by_code (item_code j))
    at_code j = updates (item_code j) ∙ ap (λ b. cond b (Some (length s.items)) (get nat_cmp s.by_code (item_code j))) (same_number (item_code i) (item_code j))

    known : (j : Item ℕ) (p : ℕ) (b : Bool) → same_item i j ≡ b → cond b (Some (length s.items)) (get nat_cmp s.by_code (item_code j)) ≡ Some p
        → slice_get (s.items ++ i ∷ []) p ≡ Some j
    known j p true same found =
        let here : length s.items ≡ p = cc in
        ap (slice_get (s.items ++ i ∷ [])) (sym here) ∙ last_ordinal s.items i ∙ ap Some (by_number i j (eqb-true _ _ same))
    known j p false same found = kept_ordinal s.items (i ∷ []) p j (is.known j p found)

    unknown : (j : Item ℕ) (b : Bool) → same_item i j ≡ b → cond b (Some (length s.items)) (get nat_cmp s.by_code (item_code j)) ≡ None
        → (has_item j s.items || (same_item j i || false)) ≡ false
    unknown j true same none = absurd cc
    unknown j false same none = rw (is.unknown j none, turned (item_code j) (item_code i), same) refl

-- ---- lists whose items are all different

and_both : (a b : Bool) → (a && b) ≡ true → (a ≡ true) × (b ≡ true)
and_both true b e = (refl, e)
and_both false b e = absurd cc

pub all_apart : (items : List (Item ℕ)) → are_apart items ≡ true → distinct_items items ≡ items
all_apart [] e = refl
all_apart (i ∷ items) e =
    let halves = and_both (not (has_item i items)) (are_apart items) e in
    ap (λ l. i ∷ others i l) (all_apart items halves.1) ∙ ap (λ l. i ∷ l) (nothing_out i items halves.0)
  where
    nothing_out : (i : Item ℕ) (items : List (Item ℕ)) → not (has_item i items) ≡ true → others i items ≡ items
    nothing_out i [] none = refl
    nothing_out i (y ∷ items) none = by (same_item i y) refl (nothing_out i items)
      where
        by : (b : Bool) → same_item i y ≡ b → (not (has_item i items) ≡ true → others i items ≡ items) → cond (not b) (y ∷ others i items) (others i items) ≡ y ∷ items
        by true same rest = absurd cc
        by false same rest = ap (λ l. y ∷ l) (rest (ap (λ b. not (b || has_item i items)) (sym same) ∙ none))

fewer : (items : List (Item ℕ)) → length (distinct_items items) ≤ length items
fewer [] = omega arith
fewer (i ∷ items) = let short = filter_short (λ j. not (same_item i j)) (distinct_items items) in let rest = fewer items in omega (arith, short, rest)

all_kept : (p : Item ℕ → Bool) (items : List (Item ℕ)) → length items ≤ length (filter p items) → filter p items ≡ items
all_kept p [] e = refl
all_kept p (y ∷ items) e = by (p y) refl (all_kept p items) (filter_short p items)
  where
    by : (b : Bool) → p y ≡ b → (length items ≤ length (filter p items) → filter p items ≡ items) → length (filter p items) ≤ length items
        → cond b (y ∷ filter p items) (filter p items) ≡ y ∷ items
    by true is rest short = let there : length (y ∷ items) ≤ length (y ∷ filter p items) = subst (λ b. length (y ∷ items) ≤ length (cond b (y ∷ filter p items) (filter p items))) is e in ap (λ l. y ∷ l) (rest (omega (arith, there)))
    by false is rest short = let there : length (y ∷ items) ≤ length (filter p items) = subst (λ b. length (y ∷ items) ≤ length (cond b (y ∷ filter p items) (filter p items))) is e in absurd (omega (arith, there, short))

pub as_many : (items : List (Item ℕ)) → length (distinct_items items) ≡ length items → distinct_items items ≡ items
as_many [] e = refl
as_many (i ∷ items) e =
    let short = filter_short (λ j. not (same_item i j)) (distinct_items items) in
    let rest = fewer items in
    ap (λ l. i ∷ l) (all_kept (λ j. not (same_item i j)) (distinct_items items) (omega (arith, e, short, rest)) ∙ as_many items (omega (arith, e, short, rest)))

-- ---- rows with each item once, and the whole rows

any_others : (f : Item ℕ → Bool) (i : Item ℕ) → f i ≡ false → (items : List (Item ℕ)) → list_any f (others i items) ≡ list_any f items
any_others f i not_it [] = refl
any_others f i not_it (y ∷ items) = by (same_item i y) refl (any_others f i not_it items)
  where
    by : (b : Bool) → same_item i y ≡ b → list_any f (others i items) ≡ list_any f items → list_any f (cond (not b) (y ∷ others i items) (others i items)) ≡ (f y || list_any f items)
    by true same rest = rw (subst (λ z. f z ≡ false) (by_number i y (eqb-true _ _ same)) not_it) rest
    by false same rest = ap (λ b. f y || b) rest

any_distinct : (f : Item ℕ → Bool) (items : List (Item ℕ)) → list_any f (distinct_items items) ≡ list_any f items
any_distinct f [] = refl
any_distinct f (i ∷ items) = by (f i) refl (any_distinct f items)
  where
    by : (b : Bool) → f i ≡ b → list_any f (distinct_items items) ≡ list_any f items → (f i || list_any f (others i (distinct_items items))) ≡ (f i || list_any f items)
    by true is rest = rw is refl
    by false is rest = ap (λ b. f i || b) (any_others f i is (distinct_items items) ∙ rest)

pub narrowed_aggregated : (q : Query) → is_aggregated (narrowed q) ≡ is_aggregated q
narrowed_aggregated q = rw (any_distinct is_aggregate q.items) refl

value_there : (f : Item ℕ → Value) (items : List (Item ℕ)) (p : ℕ) (i : Item ℕ) → slice_get items p ≡ Some i → value_at (map f items) p ≡ f i
value_there f [] p i e = absurd cc
value_there f (x ∷ items) zero i e = let same : x ≡ i = cc in ap f same
value_there f (x ∷ items) (suc p) i e = value_there f items p i e

values_there : (f : Item ℕ → Value) (items : List (Item ℕ)) (ordinals : List ℕ) (wanted : List (Item ℕ)) → map (slice_get items) ordinals ≡ map Some wanted
    → columns_of ordinals (map f items) ≡ map f wanted
values_there f items [] [] e = refl
values_there f items [] (w ∷ wanted) e = absurd cc
values_there f items (p ∷ ordinals) [] e = absurd cc
values_there f items (p ∷ ordinals) (w ∷ wanted) e =
    let head : slice_get items p ≡ Some w = cc in
    let tail : map (slice_get items) ordinals ≡ map Some wanted = cc in
    rw (value_there f items p w head, values_there f items ordinals wanted tail) refl

abbrev widened : List ℕ → Keyed → Keyed
widened ordinals r = (columns_of ordinals r.0, r.1)

map_same : {X Y Z : Type 0} (f : X → Z) (g : X → Y) (h : Y → Z) → ((x : X) → f x ≡ h (g x)) → (xs : List X) → map f xs ≡ map h (map g xs)
map_same f g h same [] = refl
map_same f g h same (x ∷ xs) = rw (same x, map_same f g h same xs) refl

module _ (q : Query) (ordinals : List ℕ) (at : map (slice_get (distinct_items q.items)) ordinals ≡ map Some q.items) where
  row_widened : (row : Row) → keyed_row q row ≡ widened ordinals (keyed_row (narrowed q) row)
  row_widened row = ap (λ (r : Row). (r, (keyed_row q row).1)) (sym (values_there (shown_value row) (distinct_items q.items) ordinals q.items at))

  group_widened : (rows : List Row) (values : Row) → keyed_group q rows values ≡ widened ordinals (keyed_group (narrowed q) rows values)
  group_widened rows values =
      ap (λ (r : Row). (r, (keyed_group q rows values).1))
      (sym (values_there (item_value q.group_by values (group_rows q.group_by values rows)) (distinct_items q.items) ordinals q.items at))

  kept_widened : (rows : List Row) → kept_rows q rows ≡ map (widened ordinals) (kept_rows (narrowed q) rows)
  kept_widened rows = by (is_aggregated q) refl
    where
      by : (b : Bool) → is_aggregated q ≡ b → kept_rows q rows ≡ map (widened ordinals) (kept_rows (narrowed q) rows)
      by true grouped =
          kept_grouped q rows grouped ∙ map_same (keyed_group q (filter (is_kept q.filter) rows)) (keyed_group (narrowed q) (filter (is_kept q.filter) rows)) (widened ordinals)
          (group_widened (filter (is_kept q.filter) rows)) (group_values q.group_by (filter (is_kept q.filter) rows))
          ∙ ap (map (widened ordinals)) (sym (kept_grouped (narrowed q) rows (narrowed_aggregated q ∙ grouped)))
      by false plain =
          kept_plain q rows plain ∙ map_same (keyed_row q) (keyed_row (narrowed q)) (widened ordinals) row_widened (filter (is_kept q.filter) rows)
          ∙ ap (map (widened ordinals)) (sym (kept_plain (narrowed q) rows (narrowed_aggregated q ∙ plain)))

  sorted_widened : (rows : List Keyed) → IsSorted (λ (a : Keyed) (b : Keyed). keys_cmp q.order_by a.1 b.1) rows
      → IsSorted (λ (a : Keyed) (b : Keyed). keys_cmp q.order_by a.1 b.1) (map (widened ordinals) rows)
  sorted_widened rows sorted k d low within =
      let len = length-map rows (widened ordinals) in
      let next : k + 1 < length rows = omega (arith, len, within) in
      let this : k < length rows = omega (arith, next) in
      let none : Keyed = ([], []) in
      rw (get_or-map (widened ordinals) rows (k + 1) none d next, get_or-map (widened ordinals) rows k none d this) (sorted k none low next)

  first_of : (list : List Keyed) → map (columns_of ordinals) (map (λ (r : Keyed). r.0) list) ≡ map (λ (r : Keyed). r.0) (map (widened ordinals) list)
  first_of [] = refl
  first_of (r ∷ list) = ap (λ l. columns_of ordinals r.0 ∷ l) (first_of list)

  pub answer_whole : (rows list : List Row) → IsAnswer (narrowed q) rows list → IsAnswer q rows (map (columns_of ordinals) list)
  answer_whole rows list (arranged, permuted, sorted, is) = (
    map (widened ordinals) arranged,
    subst (λ ks. IsPermutation ks (map (widened ordinals) arranged)) (sym (kept_widened rows)) (IsPermutation-map (widened ordinals) (kept_rows (narrowed q) rows) arranged permuted),
    sorted_widened arranged sorted,
    ap (map (columns_of ordinals)) is ∙ first_of (sliced q.limit arranged) ∙ ap (map (λ (r : Keyed). r.0)) (sym (sliced_map (widened ordinals) q.limit arranged)),
  )

  pub shown_whole : ShowsAt q (Some ordinals)
  shown_whole = record { answers = answer_whole }

-- a query that shows each item once is run as it is
pub shown_as_it_is : (q : Query) → distinct_items q.items ≡ q.items → ShowsAt q None
shown_as_it_is q same = record { answers = λ rows list answer. subst (λ items. IsAnswer (record q { items = items }) rows list) same answer }

pub narrowing : (q narrow : Query) (w : Option Whole) → narrow ≡ narrowed q → whole_items w narrow.items ≡ q.items → ShowsAt q (whole_ordinals w) → IsNarrowing narrow w
narrowing q narrow w narrow_is whole shows =
    let same : whole_query narrow w ≡ q = ap (λ (n : Query). record n { items = whole_items w narrow.items }) narrow_is ∙ ap (λ l. record q { items = l }) whole in
    record {
      narrow = narrow_is ∙ ap narrowed (sym same);
      shows = subst (λ (v : Query). ShowsAt v (whole_ordinals w)) (sym same) shows;
    }
