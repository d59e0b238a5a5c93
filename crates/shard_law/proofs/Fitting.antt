-- The rows and values of a typed write are storable.
use Rattle.std.proofs.Common.{◌≡◌, ℕ, suc, ◌+◌, Bool, true, false, not, cond, ◌&&◌, ◌||◌, ◌==◌, List, [], ◌∷◌, ◌++◌, length, map, flat_map, zip, get_or, slice_get, Option, Some, None, option_map, option_and_then, option_to_list, unwrap_or, refl, sym, ap, ◌∙◌, subst, inl, inr, arith}
use Rattle.std.specs.List.{AllByRecursion, list_any}
use Rattle.std.proofs.lemmas.Bool.{true≢false, or_parts, and_from, not_from_false}
use Rattle.std.proofs.lemmas.Option.{get_or_from_slice_get}
use Rattle.vt_value.specs.declared.value.Value.{Value}
use Rattle.vt_value.specs.declared.value.Value.TheVariants.{Null}
use Rattle.vt_value.specs.declared.refusal.Refusal.TheVariants.{WrongValueCount, NotSupported, NoDefaultValue, NullNotAllowed, OutOfRange, TooLong}
use Rattle.vt_value.specs.Values.{is_null}
use Rattle.sql_tree.specs.declared.Assignment.{Assignment}
use Rattle.sql_eval.specs.Column.{Column}
use Rattle.sql_eval.specs.ColumnType.{ColumnType}
use Rattle.sql_eval.specs.ColumnType.TheVariants.{BigInt, BigIntUnsigned, VarBinary}
use Rattle.sql_eval.specs.Table.{Table}
use Rattle.sql_eval.specs.VSchema.{VSchema}
use Rattle.sql_eval.specs.Write.{Write}
use Rattle.sql_eval.specs.Write.TheVariants.{Insert, Update, Delete}
use Rattle.sql_eval.specs.Schema.{no_table, ordinal_from}
use Rattle.sql_eval.specs.Resolved.{Name, ordinal, ordinals_from}
use Rattle.sql_eval.specs.Scopes.{only}
use Rattle.sql_eval.specs.Checks.{has_number, filter_has, condition_mixes, is_text_type, value_is_text, differ}
use Rattle.sql_eval.specs.WriteChecks.{Stored, with_column, insert_ordinals, has_wrong_count, inserted_values, assigned_values, has_other_kind, has_wrong_null, has_out_of_range, has_too_long, is_out_of_range, is_too_long, leaves_out_column, sets_key, update_is_not_supported}
use Rattle.sql_eval.specs.TypedWrites.{IsTypedWrite, insert, update, delete, unless_refused, insert_checks, update_checks, delete_checks, insert_over, update_over, delete_over, value_for, whole_row, resolved_assignment}
use Rattle.sql_eval.specs.Storable.{is_storable, is_storable_value, are_storable_values}
use Rattle.shard_law.proofs.Typed.{found, unrefused, passed}

-- a value for a column that the table has is one that it may hold
unfoldable pub value_fits : Option Column → Value → Bool
value_fits None v = true
value_fits (Some c) v = is_storable_value c v

-- a write stores only what its table may hold
abbrev pub Fits : VSchema → Write → Type 0
Fits schema (Insert n new) = AllByRecursion (λ row. is_storable (get_or schema.tables n no_table) row ≡ true) new
Fits schema (Update n assignments filter') =
    AllByRecursion (λ a. value_fits (slice_get (get_or schema.tables n no_table).columns a.column) a.value ≡ true) assignments
Fits schema (Delete n filter') = Unit {0}

-- ---- what passed the checks

nullable_or : (a b : Bool) → (b && not a) ≡ false → (a || not b) ≡ true
nullable_or true b e = refl
nullable_or false true e = absurd (true≢false e)
nullable_or false false e = refl

storable_from_checks : (c : Column) (v : Value) → differ (Some (is_text_type c.kind)) (value_is_text v) ≡ false
    → (is_null v && not c.nullable) ≡ false → is_out_of_range c.kind v ≡ false → is_too_long c.kind v ≡ false
    → is_storable_value c v ≡ true
storable_from_checks c v a b d e =
    let n = nullable_or c.nullable (is_null v) b in
    simp (n, a, d, e)

all_storable : (stored : Stored) → has_other_kind stored ≡ false → has_wrong_null stored ≡ false → has_out_of_range stored ≡ false
    → has_too_long stored ≡ false → AllByRecursion (λ p. is_storable_value p.0 p.1 ≡ true) stored
all_storable [] a b c d = tt
all_storable (p ∷ stored) a b c d =
    let x = or_parts (differ (Some (is_text_type p.0.kind)) (value_is_text p.1)) (has_other_kind stored) a in
    let y = or_parts (is_null p.1 && not p.0.nullable) (has_wrong_null stored) b in
    let z = or_parts (is_out_of_range p.0.kind p.1) (has_out_of_range stored) c in
    let w = or_parts (is_too_long p.0.kind p.1) (has_too_long stored) d in
    (storable_from_checks p.0 p.1 x.0 y.0 z.0 w.0, all_storable stored x.1 y.1 z.1 w.1)

all-left : {X : Type 0} (P : X → Type 0) (xs ys : List X) → AllByRecursion P (xs ++ ys) → AllByRecursion P xs
all-left P [] ys h = tt
all-left P (x ∷ xs) ys h = (h.0, all-left P xs ys h.1)

all-right : {X : Type 0} (P : X → Type 0) (xs ys : List X) → AllByRecursion P (xs ++ ys) → AllByRecursion P ys
all-right P [] ys h = h
all-right P (x ∷ xs) ys h = all-right P xs ys h.1

from_flat_map : {X A : Type 0} (P : A → Type 0) (f : X → List A) (xs : List X) → AllByRecursion P (flat_map f xs)
    → AllByRecursion (λ x. AllByRecursion P (f x)) xs
from_flat_map P f [] h = tt
from_flat_map P f (x ∷ xs) h = (all-left P (f x) (flat_map f xs) h, from_flat_map P f xs (all-right P (f x) (flat_map f xs) h))

abbrev IsStorable : Column × Value → Type 0
IsStorable p = is_storable_value p.0 p.1 ≡ true

with_fits : (t : Table) (n : ℕ) (v : Value) → AllByRecursion IsStorable (with_column t n v) → value_fits (slice_get t.columns n) v ≡ true
unfolding value_fits
with_fits t n v h = by (slice_get t.columns n) h
  where
    by : (c : Option Column) → AllByRecursion IsStorable (map (λ c. (c, v)) (option_to_list c)) → value_fits c v ≡ true
    by None h = refl
    by (Some c) h = h.0

-- ---- UPDATE

assignments_fit : (t : Table) (assignments : List (Assignment Name))
    → AllByRecursion IsStorable (flat_map (λ a. with_column t (ordinal t a.column) a.value) assignments)
    → AllByRecursion (λ a. value_fits (slice_get t.columns a.column) a.value ≡ true) (map (resolved_assignment t) assignments)
assignments_fit t [] h = tt
assignments_fit t (a ∷ assignments) h =
    let f = λ (a : Assignment Name). with_column t (ordinal t a.column) a.value in (
      with_fits t (ordinal t a.column) a.value (all-left IsStorable (f a) (flat_map f assignments) h),
      assignments_fit t assignments (all-right IsStorable (f a) (flat_map f assignments) h),
    )

-- ---- INSERT

-- the first value that is named for a column, else NULL
first_value : ℕ → List ℕ → List Value → Value
first_value j [] values = Null
first_value j (m ∷ places) [] = Null
first_value j (m ∷ places) (v ∷ values) = cond (m == j) v (first_value j places values)

ordinal_later : {X : Type 0} (test : X → Bool) (n : ℕ) (xs : List X) → ordinal_from test (suc n) xs ≡ option_map suc (ordinal_from test n xs)
ordinal_later test n [] = refl
ordinal_later test n (x ∷ xs) = by (test x) (ordinal_later test (n + 1) xs)
  where
    by : (b : Bool) → ordinal_from test (suc (n + 1)) xs ≡ option_map suc (ordinal_from test (n + 1) xs)
        → cond b (Some (suc n)) (ordinal_from test (suc n + 1) xs) ≡ option_map suc (cond b (Some n) (ordinal_from test (n + 1) xs))
    by true e = refl
    by false e = let k : suc n + 1 ≡ suc (n + 1) = omega arith in ap (λ z. ordinal_from test z xs) k ∙ e

value_is_first : (j : ℕ) (places : List ℕ) (values : List Value) → value_for places values j ≡ first_value j places values
unfolding first_value
value_is_first j [] values = refl
value_is_first j (m ∷ places) [] = none (ordinal_from (λ m. m == j) 0 (m ∷ places))
  where
    none : (k : Option ℕ) → unwrap_or (option_and_then (slice_get []) k) Null ≡ Null
    none None = refl
    none (Some k) = refl
value_is_first j (m ∷ places) (v ∷ values) = by (m == j) (value_is_first j places values)
  where
    later : (k : Option ℕ) → unwrap_or (option_and_then (slice_get (v ∷ values)) (option_map suc k)) Null ≡ unwrap_or (option_and_then (slice_get values) k) Null
    later None = refl
    later (Some k) = refl

    by : (b : Bool) → value_for places values j ≡ first_value j places values
        → unwrap_or (option_and_then (slice_get (v ∷ values)) (cond b (Some 0) (ordinal_from (λ m. m == j) 1 places))) Null
        ≡ cond b v (first_value j places values)
    by true ih = refl
    by false ih =
        ap (λ k. unwrap_or (option_and_then (slice_get (v ∷ values)) k) Null) (ordinal_later (λ m. m == j) 0 places)
        ∙ (later (ordinal_from (λ m. m == j) 0 places) ∙ ih)

null_fits : (c : Column) → c.nullable ≡ true → is_storable_value c Null ≡ true
null_fits c e = by c.kind
  where
    by : (kind : ColumnType) → is_storable_value (record c { kind = kind }) Null ≡ true
    by BigInt = simp e
    by BigIntUnsigned = simp e
    by (VarBinary n) = simp e

nullable_from : (a : Bool) → (not a && true) ≡ false → a ≡ true
nullable_from true e = refl
nullable_from false e = absurd (true≢false e)

module _ (columns : List Column) (j : ℕ) (c : Column) (there : slice_get columns j ≡ Some c) where
  first_fits : (places : List ℕ) (values : List Value) → length values ≡ length places
      → AllByRecursion (λ p. value_fits (slice_get columns p.0) p.1 ≡ true) (zip places values)
      → (not c.nullable && not (has_number places j)) ≡ false → is_storable_value c (first_value j places values) ≡ true
  unfolding first_value value_fits
  first_fits [] values l h e = null_fits c (nullable_from c.nullable e)
  first_fits (m ∷ places) [] l h e = absurd (omega (arith, l))
  first_fits (m ∷ places) (v ∷ values) l h e = by (λ g. first_fits places values (omega (arith, l)) h.1 g) (m == j) refl e
    where
      by : ((not c.nullable && not (has_number places j)) ≡ false → is_storable_value c (first_value j places values) ≡ true)
          → (b : Bool) → (m == j) ≡ b → (not c.nullable && not (b || has_number places j)) ≡ false
          → is_storable_value c (cond b v (first_value j places values)) ≡ true
      by ih true i e =
          let k : m ≡ j = Rattle.std.proofs.lemmas.Bool.eqb-true m j i in
          subst (λ o. value_fits o v ≡ true) (ap (slice_get columns) k ∙ there) h.0
      by ih false i e = ih e

module _ (columns : List Column) (places : List ℕ) (values : List Value) (count : length values ≡ length places)
    (fit : AllByRecursion (λ p. value_fits (slice_get columns p.0) p.1 ≡ true) (zip places values)) where
  row_fits : (cs : List Column) (i : ℕ) → ((k : ℕ) → slice_get columns (i + k) ≡ slice_get cs k)
      → list_any (λ p. not p.1.nullable && not (has_number places p.0)) (zip (ordinals_from i cs) cs) ≡ false
      → are_storable_values cs (map (value_for places values) (ordinals_from i cs)) ≡ true
  row_fits [] i at e = refl
  row_fits (c ∷ cs) i at e =
      let g = or_parts (not c.nullable && not (has_number places i))
      (list_any (λ p. not p.1.nullable && not (has_number places p.0)) (zip (ordinals_from (i + 1) cs) cs)) e in
      let here : slice_get columns i ≡ Some c = ap (slice_get columns) (omega arith) ∙ at 0 in
      and_from (is_storable_value c (value_for places values i)) (are_storable_values cs (map (value_for places values) (ordinals_from (i + 1) cs)))
      (ap (is_storable_value c) (value_is_first i places values) ∙ first_fits columns i c here places values count fit g.0)
      (row_fits cs (i + 1) (λ k. ap (slice_get columns) (omega arith) ∙ at (suc k)) g.1)

pairs_fit : (t : Table) (pairs : List (ℕ × Value)) → AllByRecursion IsStorable (flat_map (λ p. with_column t p.0 p.1) pairs)
    → AllByRecursion (λ p. value_fits (slice_get t.columns p.0) p.1 ≡ true) pairs
pairs_fit t [] h = tt
pairs_fit t (p ∷ pairs) h =
    let f = λ (p : ℕ × Value). with_column t p.0 p.1 in (
      with_fits t p.0 p.1 (all-left IsStorable (f p) (flat_map f pairs) h),
      pairs_fit t pairs (all-right IsStorable (f p) (flat_map f pairs) h),
    )

same_count : (a b : ℕ) → not (a == b) ≡ false → a ≡ b
same_count a b e = by (a == b) refl e
  where
    by : (c : Bool) → (a == b) ≡ c → not c ≡ false → a ≡ b
    by true i e = Rattle.std.proofs.lemmas.Bool.eqb-true a b i
    by false i e = absurd (true≢false e)

rows_fit : (t : Table) (places : List ℕ) (rows : List (List Value))
    → list_any (λ row. not (length row == length places)) rows ≡ false
    → AllByRecursion (λ row. AllByRecursion IsStorable (flat_map (λ p. with_column t p.0 p.1) (zip places row))) rows
    → list_any (λ p. not p.1.nullable && not (has_number places p.0)) (zip (ordinals_from 0 t.columns) t.columns) ≡ false
    → AllByRecursion (λ row. is_storable t row ≡ true) (map (whole_row t places) rows)
rows_fit t places [] c h e = tt
rows_fit t places (row ∷ rows) c h e =
    let g = or_parts (not (length row == length places)) (list_any (λ row. not (length row == length places)) rows) c in (
      row_fits t.columns places row (same_count (length row) (length places) g.0) (pairs_fit t (zip places row) h.0) t.columns 0
          (λ k. ap (slice_get t.columns) (omega arith)) e,
      rows_fit t places rows g.1 h.1 e,
    )

-- ---- a typed write

module _ (schema : VSchema) (w : Write) where
  pub fits-from_typed : IsTypedWrite schema w → Fits schema w
  fits-from_typed (delete s h) =
      let f = found schema w s.table (λ n t. unless_refused (delete_checks t s) (delete_over n t s)) h in
      subst (Fits schema) (unrefused (delete_checks f.t s) (delete_over f.n f.t s) w f.means) tt
  fits-from_typed (update s h) =
      let f = found schema w s.table (λ n t. unless_refused (update_checks t s) (update_over n t s)) h in
      let pass = passed (update_checks f.t s) (update_over f.n f.t s) w f.means in
      let kinds = (or_parts (filter_has (condition_mixes (only f.t)) s.filter) (has_other_kind (assigned_values f.t s))
      (or_parts (filter_has (condition_mixes (only f.t)) s.filter || has_other_kind (assigned_values f.t s)) (sets_key f.t s)
      (pass (update_is_not_supported f.t s) NotSupported (inr (inr (inl refl))))).0).1 in
      let nulls = pass (has_wrong_null (assigned_values f.t s)) NullNotAllowed (inr (inr (inr (inl refl)))) in
      let ranges = pass (has_out_of_range (assigned_values f.t s)) OutOfRange (inr (inr (inr (inr (inl refl))))) in
      let lengths = pass (has_too_long (assigned_values f.t s)) TooLong (inr (inr (inr (inr (inr (inl refl)))))) in
      let j : get_or schema.tables f.n no_table ≡ f.t = get_or_from_slice_get schema.tables f.n f.t no_table f.there in
      subst (Fits schema) (unrefused (update_checks f.t s) (update_over f.n f.t s) w f.means)
      (subst (λ t. AllByRecursion (λ a. value_fits (slice_get t.columns a.column) a.value ≡ true) (map (resolved_assignment f.t) s.assignments)) (sym j)
      (assignments_fit f.t s.assignments (all_storable (assigned_values f.t s) kinds nulls ranges lengths)))
  fits-from_typed (insert s h) =
      let f = found schema w s.table (λ n t. unless_refused (insert_checks t s) (insert_over n t s)) h in
      let pass = passed (insert_checks f.t s) (insert_over f.n f.t s) w f.means in
      let places = insert_ordinals f.t s.columns in
      let counts = pass (has_wrong_count f.t s) WrongValueCount (inr (inl refl)) in
      let kinds = pass (has_other_kind (inserted_values f.t s)) NotSupported (inr (inr (inr (inl refl)))) in
      let left_out = pass (leaves_out_column f.t s) NoDefaultValue (inr (inr (inr (inr (inl refl))))) in
      let nulls = pass (has_wrong_null (inserted_values f.t s)) NullNotAllowed (inr (inr (inr (inr (inr (inl refl)))))) in
      let ranges = pass (has_out_of_range (inserted_values f.t s)) OutOfRange (inr (inr (inr (inr (inr (inr (inl refl))))))) in
      let lengths = pass (has_too_long (inserted_values f.t s)) TooLong (inr (inr (inr (inr (inr (inr (inr (inl refl)))))))) in
      let j : get_or schema.tables f.n no_table ≡ f.t = get_or_from_slice_get schema.tables f.n f.t no_table f.there in
      let each = from_flat_map IsStorable (λ row. flat_map (λ p. with_column f.t p.0 p.1) (zip places row)) s.rows
      (all_storable (inserted_values f.t s) kinds nulls ranges lengths) in
      subst (Fits schema) (unrefused (insert_checks f.t s) (insert_over f.n f.t s) w f.means)
      (subst (λ t. AllByRecursion (λ row. is_storable t row ≡ true) (map (whole_row f.t places) s.rows)) (sym j)
      (rows_fit f.t places s.rows counts each left_out))
