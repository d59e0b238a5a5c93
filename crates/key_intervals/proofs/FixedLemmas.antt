-- Columns that a condition fixes.
use Rattle.std.proofs.Common.{◌≡◌, ℕ, ◌<◌, Bool, true, false, cond, ◌||◌, List, [], ◌∷◌, refl, sym, ap, ◌∙◌, subst}
use Rattle.std.specs.List.{list_any}
use Rattle.std.proofs.lemmas.Bool.{false≢true}
use Rattle.std.specs.Ordering.{is_eq, int_cmp, nat_cmp}
use Rattle.std.specs.Cmp.Lexicographic.{slice_cmp}
use Rattle.std.specs.declared.cmp.Ordering.{Ordering}
use Rattle.std.specs.declared.cmp.Ordering.TheVariants.{Less, Equal, Greater}
use Rattle.std.proofs.lemmas.Cmp.{tied_itself}
use Rattle.vt_value.specs.declared.value.Value.{Value}
use Rattle.vt_value.specs.declared.value.Value.TheVariants.{Null, Int, Bytes}
use Rattle.vt_value.specs.declared.value.Comparison.TheVariants.{Eq}
use Rattle.sql_eval.proofs.OrderLemmas.{value_cmp-same, value_cmp-total}
use Rattle.sql_tree.specs.declared.Operand.{Operand}
use Rattle.sql_tree.specs.declared.Operand.TheVariants.{Column, Literal}
use Rattle.vt_value.specs.Values.{Row, value_at, value_cmp, is_true, is_null, truth_of, fits_order, compare, in_list}
use Rattle.vt_value.specs.declared.value.Truth.TheVariants.{False, Unknown}
use Rattle.sql_eval.specs.Conditions.{operand_value}
use Rattle.sql_eval.specs.Join.{Join}
use Rattle.sql_eval.specs.Sources.{is_pair, paired}
use Rattle.sql_eval.proofs.PairValues.{left_at}
use Rattle.key_intervals.specs.declared.equalities.Fixed.{Fixed}
use Rattle.key_intervals.specs.Listed.{is_among, fits}

is_equal : (o : Ordering) → is_true (truth_of (fits_order Eq o)) ≡ true → o ≡ Equal
is_equal Less e = cc
is_equal Equal e = refl
is_equal Greater e = cc

pub same_cmp : (a b : Value) → is_true (compare Eq a b) ≡ true → value_cmp a b ≡ Equal
same_cmp Null b e = cc
same_cmp (Int m) Null e = cc
same_cmp (Int m) (Int n) e = is_equal (int_cmp m n) e
same_cmp (Int m) (Bytes t) e = cc
same_cmp (Bytes s) Null e = cc
same_cmp (Bytes s) (Int n) e = cc
same_cmp (Bytes s) (Bytes t) e = is_equal (slice_cmp nat_cmp s t) e

equal_turned : (a b : Value) → is_true (compare Eq a b) ≡ true → is_eq (value_cmp b a) ≡ true
equal_turned a b e =
    let same = value_cmp-same a b (same_cmp a b e) in
    subst (λ (x : Value). is_eq (value_cmp b x) ≡ true) (sym same) (ap is_eq (tied_itself value_cmp-total b))

pub fixed_left : (row : Row) (a b : Operand ℕ) (p c : ℕ) (v : Value) → a ≡ Column p → b ≡ Literal v → p ≡ c
    → is_true (compare Eq (operand_value row a) (operand_value row b)) ≡ true → is_eq (value_cmp v (value_at row c)) ≡ true
fixed_left row a b p c v is_a is_b same h =
    let g : is_true (compare Eq (value_at row p) v) ≡ true =
    subst (λ (x : Operand ℕ). is_true (compare Eq (value_at row p) (operand_value row x)) ≡ true) is_b
    (subst (λ (x : Operand ℕ). is_true (compare Eq (operand_value row x) (operand_value row b)) ≡ true) is_a h) in
    subst (λ n. is_eq (value_cmp v (value_at row n)) ≡ true) same (equal_turned (value_at row p) v g)

either : (a b : Bool) → b ≡ true → (a || b) ≡ true
either true b e = refl
either false b e = e

unlisted : (x : Value) (members : List Value) → list_any (λ m. is_true (compare Eq x m)) members ≡ false → is_true (in_list x members) ≡ false
unlisted x members none = by (is_null x || list_any is_null members) (simp none)
  where
    by : (b : Bool) → in_list x members ≡ cond b Unknown False → is_true (in_list x members) ≡ false
    by true e = ap is_true e
    by false e = ap is_true e

equal_each : (x : Value) (ms : List Value) → list_any (λ m. is_true (compare Eq x m)) ms ≡ true → is_among ms x ≡ true
equal_each x [] e = absurd (false≢true e)
equal_each x (m ∷ ms) e = by (equal_each x ms) (is_true (compare Eq x m)) refl e
  where
    by : (list_any (λ m. is_true (compare Eq x m)) ms ≡ true → is_among ms x ≡ true) → (b : Bool) → is_true (compare Eq x m) ≡ b
        → (is_true (compare Eq x m) || list_any (λ m. is_true (compare Eq x m)) ms) ≡ true → (is_eq (value_cmp m x) || is_among ms x) ≡ true
    by ih true t g =
        let f : is_eq (value_cmp m x) ≡ true = equal_turned x m t in
        ap (λ b. b || is_among ms x) f
    by ih false t g =
        let f : list_any (λ m. is_true (compare Eq x m)) ms ≡ true = rw t at g in
        either (is_eq (value_cmp m x)) (is_among ms x) (ih f)

equal_among : (x : Value) (members : List Value) → is_true (in_list x members) ≡ true → is_among members x ≡ true
equal_among x members h = by (list_any (λ m. is_true (compare Eq x m)) members) refl
  where
    by : (b : Bool) → list_any (λ m. is_true (compare Eq x m)) members ≡ b → is_among members x ≡ true
    by true t = equal_each x members t
    by false t = absurd (false≢true (sym (unlisted x members t) ∙ h))

pub listed : (row : Row) (a : Operand ℕ) (p c : ℕ) (members : List Value) → a ≡ Column p → p ≡ c
    → is_true (in_list (operand_value row a) members) ≡ true → is_among members (value_at row c) ≡ true
listed row a p c members is same h =
    subst (λ n. is_among members (value_at row n) ≡ true) same
    (equal_among (value_at row p) members (subst (λ (x : Operand ℕ). is_true (in_list (operand_value row x) members) ≡ true) is h))

-- ---- the first rows of pairs

-- a column of the first row that the condition on pairs fixes
pub fixed_of_first : (j : Join) (f : Fixed) (a b : Row) (c : ℕ) → c < j.width → fits f (value_at (paired j a b) c) ≡ true → fits f (value_at a c) ≡ true
fixed_of_first j f a b c within e = subst (λ (v : Value). fits f v ≡ true) (left_at j.width a b c within) e

-- and that of the second row that it is equal to
pub fixed_of_second : (j : Join) (f : Fixed) (a b : Row) (c : ℕ) → c < j.width → c ≡ j.first → is_pair j a b ≡ true
    → fits f (value_at (paired j a b) j.second) ≡ true → fits f (value_at a c) ≡ true
fixed_of_second j f a b c within is pair e =
    let same = value_cmp-same (value_at (paired j a b) j.first) (value_at (paired j a b) j.second) (same_cmp (value_at (paired j a b) j.first) (value_at (paired j a b) j.second) pair) in
    fixed_of_first j f a b c within (subst (λ n. fits f (value_at (paired j a b) n) ≡ true) (sym is) (subst (λ (v : Value). fits f v ≡ true) (sym same) e))
