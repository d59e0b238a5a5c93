-- Where in a list of changes those of a key are.
use Rattle.std.proofs.Common.{◌≡◌, ℕ, ◌+◌, ◌<◌, ◌≤◌, Bool, true, false, cond, not, ◌&&◌, ◌||◌, ◌==◌, List, [], ◌∷◌, ◌++◌, length, map, take, get_or, refl, sym, ap, ◌∙◌, subst, arith}
use Rattle.std.specs.Prelude.{nat_lt}
use Rattle.std.specs.List.{list_any}
use Rattle.std.specs.Map.{keys_of}
use Rattle.std.specs.BTreeMap.{insert_entry}
use Rattle.std.specs.BTreeMap.Range.{entries_between}
use Rattle.std.specs.Cmp.{Equal-is, nat_cmp_is}
use Rattle.std.specs.Cmp.Lexicographic.{slice_cmp}
use Rattle.std.specs.Ordering.{is_eq, is_lt, is_le, is_gt, ordering_then, match_ordering, nat_cmp}
use Rattle.std.specs.declared.cmp.Ordering.{Ordering}
use Rattle.std.specs.declared.cmp.Ordering.TheVariants.{Less, Equal, Greater}
use Rattle.std.specs.declared.ops.Bound.TheVariants.{Included}
use Rattle.std.proofs.lemmas.Bool.{false≢true, true≢false, eqb-true, eq-eqb, ltb-true, ltb-false}
use Rattle.std.proofs.lemmas.List.{take_more, map-append}
use Rattle.std.proofs.lemmas.List.Folds.{list_any-append}
use Rattle.std.proofs.lemmas.Map.Lookups.{exact_unsigned}
use Rattle.vt_value.specs.declared.value.Value.{Value}
use Rattle.vt_value.specs.Values.{Row, value_at, value_cmp}
use Rattle.vschema.specs.Checks.{has_number}
use Rattle.vschema.specs.Database.{same_row}
use Rattle.shard_store.specs.declared.key.RowKey.{RowKey}
use Rattle.shard_store.specs.Keys.{row_key_cmp}
use Rattle.shard_store.specs.Tables.{key_at}
use Rattle.shard_store.proofs.Rows.{row_is}
use Rattle.shard_store.proofs.OrderLemmas.{value_cmp-same}
use Rattle.shard_law.proofs.Counts.{same_self}
use Rattle.shard_contents.specs.inner.OwnChanges.{is_key_among}

-- ---- tests

pub yes_or : (a b : Bool) → b ≡ true → (a || b) ≡ true
yes_or true b h = refl
yes_or false b h = h

pub or_yes : (a b : Bool) → a ≡ true → (a || b) ≡ true
or_yes true b h = refl
or_yes false b h = absurd (false≢true h)

pub both_yes : (a b : Bool) → a ≡ true → b ≡ true → (a && b) ≡ true
both_yes true b s t = t
both_yes false b s t = absurd (false≢true s)

pub two_yes : (a b : Bool) → (a && b) ≡ true → (a ≡ true) × (b ≡ true)
two_yes true b h = (refl, h)
two_yes false b h = absurd (false≢true h)

from_or : (a b : Bool) → a ≡ false → (a || b) ≡ true → b ≡ true
from_or true b s t = absurd (true≢false s)
from_or false b s t = t

equal_self : (n : ℕ) → (n == n) ≡ true
equal_self n = eq-eqb n n refl

-- ---- keys with positions, in their order

abbrev pub Entry : Type 0
Entry = (RowKey × ℕ) × Unit {0}

abbrev pub entry_cmp : RowKey × ℕ → RowKey × ℕ → Ordering
entry_cmp a b = ordering_then (row_key_cmp a.0 b.0) (nat_cmp a.1 b.1)

abbrev pub is_it : Row → ℕ → RowKey × ℕ → Bool
is_it key n p = same_row key p.0.values && (p.1 == n)

both_equal : (a b : Ordering) → ordering_then a b ≡ Equal → (a ≡ Equal) × (b ≡ Equal)
both_equal Less b e = absurd (false≢true (ap is_eq e))
both_equal Equal b e = (refl, e)
both_equal Greater b e = absurd (false≢true (ap is_eq e))

self : (k : RowKey × ℕ) → is_it k.0.values k.1 k ≡ true
self k = both_yes (same_row k.0.values k.0.values) (k.1 == k.1) (same_self k.0.values) (equal_self k.1)

pub still_there : (key : Row) (n : ℕ) (k : RowKey × ℕ) (es : List Entry) → list_any (is_it key n) (keys_of es) ≡ true
    → list_any (is_it key n) (keys_of (insert_entry entry_cmp es k tt)) ≡ true
still_there key n k [] h = absurd (false≢true h)
still_there key n k (e ∷ es) h = by (still_there key n k es) (is_it key n e.0) refl (entry_cmp k e.0) refl
  where
    by : (list_any (is_it key n) (keys_of es) ≡ true → list_any (is_it key n) (keys_of (insert_entry entry_cmp es k tt)) ≡ true)
        → (b : Bool) → is_it key n e.0 ≡ b → (o : Ordering) → entry_cmp k e.0 ≡ o
        → list_any (is_it key n) (keys_of (match_ordering (entry_cmp k e.0) ((k, tt) ∷ e ∷ es) ((e.0, tt) ∷ es) (e ∷ insert_entry entry_cmp es k tt))) ≡ true
    by ih b t Less u = simp u (yes_or (is_it key n k) (list_any (is_it key n) (keys_of (e ∷ es))) h)
    by ih b t Equal u = simp u h
    by ih true t Greater u = simp u (or_yes (is_it key n e.0) (list_any (is_it key n) (keys_of (insert_entry entry_cmp es k tt))) t)
    by ih false t Greater u =
        let f = from_or (is_it key n e.0) (list_any (is_it key n) (keys_of es)) t h in
        simp u (yes_or (is_it key n e.0) (list_any (is_it key n) (keys_of (insert_entry entry_cmp es k tt))) (ih f))

pub now_there : (k : RowKey × ℕ) (es : List Entry) → list_any (is_it k.0.values k.1) (keys_of (insert_entry entry_cmp es k tt)) ≡ true
now_there k [] = or_yes (is_it k.0.values k.1 k) false (self k)
now_there k (e ∷ es) = by (now_there k es) (entry_cmp k e.0) refl
  where
    by : list_any (is_it k.0.values k.1) (keys_of (insert_entry entry_cmp es k tt)) ≡ true → (o : Ordering) → entry_cmp k e.0 ≡ o
        → list_any (is_it k.0.values k.1) (keys_of (match_ordering (entry_cmp k e.0) ((k, tt) ∷ e ∷ es) ((e.0, tt) ∷ es) (e ∷ insert_entry entry_cmp es k tt))) ≡ true
    by ih Less u = simp u (or_yes (is_it k.0.values k.1 k) (list_any (is_it k.0.values k.1) (keys_of (e ∷ es))) (self k))
    by ih Equal u =
        let h = both_equal (row_key_cmp k.0 e.0.0) (nat_cmp k.1 e.0.1) u in
        let same = exact_unsigned k.1 e.0.1 h.1 in
        let here : is_it k.0.values k.1 e.0 ≡ true =
        both_yes (same_row k.0.values e.0.0.values) (e.0.1 == k.1) (ap is_eq h.0) (eq-eqb e.0.1 k.1 (sym same)) in
        simp u (or_yes (is_it k.0.values k.1 e.0) (list_any (is_it k.0.values k.1) (keys_of es)) here)
    by ih Greater u = simp u (yes_or (is_it k.0.values k.1 e.0) (list_any (is_it k.0.values k.1) (keys_of (insert_entry entry_cmp es k tt))) ih)

-- ---- positions of a key

le_is : (a b : ℕ) → a ≤ b → is_le (nat_cmp a b) ≡ true
le_is a b h = by (nat_lt a b) refl
  where
    by : (d : Bool) → nat_lt a b ≡ d → is_le (nat_cmp a b) ≡ true
    by true e = sym (ap is_le (nat_cmp_is a b Less (ltb-true a b e)))
    by false e =
        let over = ltb-false a b e in
        sym (ap is_le (nat_cmp_is a b Equal (omega (arith, over, h))))

not_lt : (a b : ℕ) → b ≤ a → is_lt (nat_cmp a b) ≡ false
not_lt a b h = by (nat_lt b a) refl
  where
    by : (d : Bool) → nat_lt b a ≡ d → is_lt (nat_cmp a b) ≡ false
    by true e = sym (ap is_lt (nat_cmp_is a b Greater (ltb-true b a e)))
    by false e =
        let over = ltb-false b a e in
        sym (ap is_lt (nat_cmp_is a b Equal (omega (arith, over, h))))

abbrev pub entries_of : RowKey → ℕ → List Entry → List Entry
entries_of key most es = entries_between entry_cmp (Included (key, 0)) (Included (key, most)) es

abbrev pub positions_of : List Entry → List ℕ
positions_of es = map (λ (e : Entry). e.0.1) es

module _ (key : RowKey) (most n : ℕ) (within : n ≤ most) where
  lies_there : (e : Entry) → is_it key.values n e.0 ≡ true → (is_le (entry_cmp (key, 0) e.0) && not (is_lt (entry_cmp (key, most) e.0))) ≡ true
  lies_there e h =
      let t = two_yes (same_row key.values e.0.0.values) (e.0.1 == n) h in
      let same : row_key_cmp key e.0.0 ≡ Equal = (Equal-is (slice_cmp value_cmp key.values e.0.0.values)).0 t.0 in
      let at = eqb-true e.0.1 n t.1 in
      both_yes (is_le (entry_cmp (key, 0) e.0)) (not (is_lt (entry_cmp (key, most) e.0)))
      (ap (λ o. is_le (ordering_then o (nat_cmp 0 e.0.1))) same ∙ le_is 0 e.0.1 (omega arith))
      (ap (λ o. not (is_lt (ordering_then o (nat_cmp most e.0.1)))) same ∙ ap not (not_lt most e.0.1 (omega (arith, at, within))))

  pub found_there : (es : List Entry) → list_any (is_it key.values n) (keys_of es) ≡ true → has_number (positions_of (entries_of key most es)) n ≡ true
  found_there [] h = absurd (false≢true h)
  found_there (e ∷ es) h = by (found_there es) (is_it key.values n e.0) refl (is_le (entry_cmp (key, 0) e.0) && not (is_lt (entry_cmp (key, most) e.0))) refl
    where
      by : (list_any (is_it key.values n) (keys_of es) ≡ true → has_number (positions_of (entries_of key most es)) n ≡ true)
          → (b : Bool) → is_it key.values n e.0 ≡ b → (d : Bool) → (is_le (entry_cmp (key, 0) e.0) && not (is_lt (entry_cmp (key, most) e.0))) ≡ d
          → has_number (positions_of (cond (is_le (entry_cmp (key, 0) e.0) && not (is_lt (entry_cmp (key, most) e.0))) (e ∷ entries_of key most es) (entries_of key most es))) n ≡ true
      by ih true t true u = simp u (or_yes (e.0.1 == n) (has_number (positions_of (entries_of key most es)) n) (two_yes (same_row key.values e.0.0.values) (e.0.1 == n) t).1)
      by ih true t false u = absurd (true≢false (sym (lies_there e t) ∙ u))
      by ih false t true u =
          let f = from_or (is_it key.values n e.0) (list_any (is_it key.values n) (keys_of es)) t h in
          simp u (yes_or (e.0.1 == n) (has_number (positions_of (entries_of key most es)) n) (ih f))
      by ih false t false u =
          let f = from_or (is_it key.values n e.0) (list_any (is_it key.values n) (keys_of es)) t h in
          simp u (ih f)

-- what is found stays found where more is appended, and what is appended is found
pub kept_found : (found more : List ℕ) (n : ℕ) → has_number found n ≡ true → has_number (found ++ more) n ≡ true
kept_found found more n h = list_any-append (λ m. m == n) found more ∙ or_yes (has_number found n) (has_number more n) h

pub more_found : (found more : List ℕ) (n : ℕ) → has_number more n ≡ true → has_number (found ++ more) n ≡ true
more_found found more n h = list_any-append (λ m. m == n) found more ∙ yes_or (has_number found n) (has_number more n) h

not_gt : (a b : ℕ) → a ≤ b → is_gt (nat_cmp a b) ≡ false
not_gt a b h = by (nat_lt a b) refl
  where
    by : (d : Bool) → nat_lt a b ≡ d → is_gt (nat_cmp a b) ≡ false
    by true e = sym (ap is_gt (nat_cmp_is a b Less (ltb-true a b e)))
    by false e =
        let over = ltb-false a b e in
        sym (ap is_gt (nat_cmp_is a b Equal (omega (arith, over, h))))

-- the positions of a key go up
pub forward : (key one two : RowKey) (most : ℕ) → one ≡ key → two ≡ key → is_gt (entry_cmp (one, 0) (two, most)) ≡ false
forward key one two most a b =
    let same : row_key_cmp one two ≡ Equal =
    ap (λ k. row_key_cmp k two) a ∙ ap (row_key_cmp key) b ∙ (Equal-is (slice_cmp value_cmp key.values key.values)).0 (same_self key.values) in
    ap (λ o. is_gt (ordering_then o (nat_cmp 0 most))) same ∙ not_gt 0 most (omega arith)

pub found_between : (key one two : RowKey) (most n : ℕ) (es entries : List Entry) → one ≡ key → two ≡ key
    → entries ≡ entries_between entry_cmp (Included (one, 0)) (Included (two, most)) es
    → n ≤ most → list_any (is_it key.values n) (keys_of es) ≡ true → has_number (positions_of entries) n ≡ true
found_between key one two most n es entries a b is within h =
    let same : entries ≡ entries_of key most es =
    is ∙ ap (λ k. entries_between entry_cmp (Included (k, 0)) (Included (two, most)) es) a ∙ ap (λ k. entries_between entry_cmp (Included (key, 0)) (Included (k, most)) es) b in
    ap (λ l. has_number (positions_of l) n) same ∙ found_there key most n within es h

-- ---- one more of a list that is gone through

module _ {X : Type 0} (p : X → Bool) (xs : List X) (i : ℕ) (x : X) (within : i < length xs) (is : x ≡ get_or xs i x) where
  one_more : list_any p (take (i + 1) xs) ≡ (list_any p (take i xs) || p x)
  one_more =
      ap (list_any p) (take_more xs i x within ∙ ap (λ y. take i xs ++ y ∷ []) (sym is))
      ∙ list_any-append p (take i xs) (x ∷ []) ∙ ap (λ b. list_any p (take i xs) || b) (or_none (p x))
    where
      or_none : (b : Bool) → (b || false) ≡ b
      or_none true = refl
      or_none false = refl

  -- it passes, or one before it does
  pub of_one_more : (C : Type 0) → (list_any p (take i xs) ≡ true → C) → (p x ≡ true → C) → list_any p (take (i + 1) xs) ≡ true → C
  of_one_more C before here h = by (list_any p (take i xs)) refl
    where
      by : (b : Bool) → list_any p (take i xs) ≡ b → C
      by true t = before t
      by false t = here (sym (ap (λ b. b || p x) t) ∙ sym one_more ∙ h)

-- ---- keys of rows, and of values

pub value_is : (a b : Value) → is_eq (value_cmp a b) ≡ true → a ≡ b
value_is a b h = value_cmp-same a b ((Equal-is (value_cmp a b)).0 h)

-- one more column's value
pub key_more : (columns : List ℕ) (i : ℕ) (row values more : Row) (v : Value) → i < length columns → more ≡ values ++ v ∷ []
    → values ≡ key_at (take i columns) row → v ≡ value_at row (get_or columns i 0) → more ≡ key_at (take (i + 1) columns) row
key_more columns i row values more v within is so_far here =
    is ∙ ap (λ l. l ++ v ∷ []) so_far ∙ ap (λ w. key_at (take i columns) row ++ w ∷ []) here
    ∙ sym (ap (map (value_at row)) (take_more columns i 0 within) ∙ map-append (value_at row) (take i columns) (get_or columns i 0 ∷ []))

any_mapped : {X Y : Type 0} (p : Y → Bool) (f : X → Y) (xs : List X) → list_any p (map f xs) ≡ list_any (λ x. p (f x)) xs
any_mapped p f [] = refl
any_mapped p f (x ∷ xs) = ap (λ b. p (f x) || b) (any_mapped p f xs)

key_among : (keys : List RowKey) (key : Row) → is_key_among keys key ≡ list_any (λ (vs : Row). same_row vs key) (map (λ (k : RowKey). k.values) keys)
key_among keys key = sym (any_mapped (λ (vs : Row). same_row vs key) (λ (k : RowKey). k.values) keys)

alone : (v x : Value) → is_eq (value_cmp v x) ≡ true → same_row (v ∷ []) (x ∷ []) ≡ true
alone v x h = by (value_cmp v x) refl h
  where
    by : (o : Ordering) → value_cmp v x ≡ o → is_eq o ≡ true → is_eq (ordering_then (value_cmp v x) Equal) ≡ true
    by Less t e = absurd (false≢true e)
    by Equal t e = ap (λ o. is_eq (ordering_then o Equal)) t
    by Greater t e = absurd (false≢true e)

weaker : (x : Value) (values : List Value) → list_any (λ v. is_eq (value_cmp v x)) values ≡ true → list_any (λ v. same_row (v ∷ []) (x ∷ [])) values ≡ true
weaker x [] h = h
weaker x (v ∷ values) h = by (weaker x values) (is_eq (value_cmp v x)) refl h
  where
    by : (list_any (λ v. is_eq (value_cmp v x)) values ≡ true → list_any (λ v. same_row (v ∷ []) (x ∷ [])) values ≡ true)
        → (b : Bool) → is_eq (value_cmp v x) ≡ b → (b || list_any (λ v. is_eq (value_cmp v x)) values) ≡ true
        → (same_row (v ∷ []) (x ∷ []) || list_any (λ v. same_row (v ∷ []) (x ∷ [])) values) ≡ true
    by ih true t e = or_yes (same_row (v ∷ []) (x ∷ [])) (list_any (λ v. same_row (v ∷ []) (x ∷ [])) values) (alone v x t)
    by ih false t e = yes_or (same_row (v ∷ []) (x ∷ [])) (list_any (λ v. same_row (v ∷ []) (x ∷ [])) values) (ih e)

pub among_each : (keys : List RowKey) (values : List Value) (x : Value) → map (λ (k : RowKey). k.values) keys ≡ map (λ v. v ∷ []) values
    → list_any (λ v. is_eq (value_cmp v x)) values ≡ true → is_key_among keys (x ∷ []) ≡ true
among_each keys values x is h =
    key_among keys (x ∷ []) ∙ ap (list_any (λ (vs : Row). same_row vs (x ∷ []))) is ∙ any_mapped (λ (vs : Row). same_row vs (x ∷ [])) (λ v. v ∷ []) values
    ∙ weaker x values h

pub among_rows : (keys : List RowKey) (columns : List ℕ) (rows : List Row) (key : Row) → map (λ (k : RowKey). k.values) keys ≡ map (key_at columns) rows
    → is_key_among keys key ≡ list_any (λ (r : Row). same_row (key_at columns r) key) rows
among_rows keys columns rows key is =
    key_among keys key ∙ ap (list_any (λ (vs : Row). same_row vs key)) is ∙ any_mapped (λ (vs : Row). same_row vs key) (key_at columns) rows

pub among_one : (keys : List RowKey) (values key : Row) → map (λ (k : RowKey). k.values) keys ≡ values ∷ [] → values ≡ key → is_key_among keys key ≡ true
among_one keys values key is same =
    key_among keys key ∙ ap (list_any (λ (vs : Row). same_row vs key)) is
    ∙ or_yes (same_row values key) false (ap (λ (vs : Row). same_row vs key) same ∙ same_self key)

-- one more key
pub of_one_more_key : (keys : List RowKey) (i : ℕ) (k : RowKey) → i < length keys → k ≡ get_or keys i k → (key : Row) (C : Type 0)
    → (is_key_among (take i keys) key ≡ true → C) → (k.values ≡ key → C) → is_key_among (take (i + 1) keys) key ≡ true → C
of_one_more_key keys i k within is key C before here h =
    of_one_more (λ (x : RowKey). same_row x.values key) keys i k within is C before (λ t. here (row_is k.values key t)) h
