-- A value among members in order, and tests in place of a condition.
use Rattle.std.proofs.Common.{Option, Some, None, if◌then◌else◌, ◌≡◌, ℕ, Bool, true, false, ◌&&◌, ◌||◌, List, [], ◌∷◌, map, refl, sym, ap, ◌∙◌}
use Rattle.std.specs.Prelude.{IfSome}
use Rattle.std.specs.List.{list_any, list_all}
use Rattle.std.specs.Ordering.{is_eq, int_cmp, nat_cmp, ordering_reverse}
use Rattle.std.specs.Cmp.Lexicographic.{slice_cmp}
use Rattle.std.specs.declared.cmp.Ordering.{Ordering}
use Rattle.std.specs.declared.cmp.Ordering.TheVariants.{Less, Equal, Greater}
use Rattle.aggregate.proofs.OrderLemmas.{value_cmp-total}
use denote.Ref.{Bor}
use Rattle.vt_value.specs.declared.value.Value.{Value}
use Rattle.vt_value.specs.declared.value.Value.TheVariants.{Null, Int, Bytes}
use Rattle.vt_value.specs.declared.value.Truth.{Truth}
use Rattle.vt_value.specs.declared.value.Truth.TheVariants.{True, False, Unknown}
use Rattle.vt_value.specs.declared.value.Comparison.TheVariants.{Eq}
use Rattle.vt_value.specs.Values.{Row, value_cmp, compare, is_true, is_null, truth_of, truth_and, all_true, fits_order, in_list}
use Rattle.sql_tree.specs.declared.Condition.{Condition}
use Rattle.sql_eval.specs.Conditions.{truth_at}
use Rattle.sql_eval.specs.declared.filters.Test.{Test}
use Rattle.sql_eval.specs.inner.Tests.{passes, AreTestsOf}

equal_order : (o : Ordering) → is_true (truth_of (fits_order Eq o)) ≡ is_eq o
equal_order Less = refl
equal_order Equal = refl
equal_order Greater = refl

-- a value that is there equals what has its place in the order
equal_value : (m v : Value) → is_null v ≡ false → is_true (compare Eq v m) ≡ is_eq (value_cmp v m)
equal_value m Null e = cc
equal_value Null (Int n) e = refl
equal_value (Int m) (Int n) e = equal_order (int_cmp n m)
equal_value (Bytes s) (Int n) e = refl
equal_value Null (Bytes t) e = refl
equal_value (Int m) (Bytes t) e = refl
equal_value (Bytes s) (Bytes t) e = equal_order (slice_cmp nat_cmp t s)

pub null_is_none : (v : Value) → is_null v ≡ true → (ms : List Value) → list_any (λ m. is_true (compare Eq v m)) ms ≡ false
null_is_none v e [] = refl
null_is_none Null e (m ∷ ms) = null_is_none Null e ms
null_is_none (Int n) e (m ∷ ms) = cc
null_is_none (Bytes t) e (m ∷ ms) = cc

-- whichever comes first
equal_turned : (o : Ordering) → is_eq (ordering_reverse o) ≡ is_eq o
equal_turned Less = refl
equal_turned Equal = refl
equal_turned Greater = refl

turned : (v m : Value) → is_eq (value_cmp m v) ≡ is_eq (value_cmp v m)
turned v m = ap is_eq (value_cmp-total.antisymm m v) ∙ equal_turned (value_cmp v m)

pub equal_among : (v : Value) → is_null v ≡ false → (bs : List (Bor Value))
    → list_any (λ (b : Bor Value). is_eq (value_cmp b.now v)) bs ≡ list_any (λ m. is_true (compare Eq v m)) (map (λ (b : Bor Value). b.now) bs)
equal_among v e [] = refl
equal_among v e (b ∷ bs) = λ i. (turned v b.now ∙ sym (equal_value b.now v e)) i || equal_among v e bs i

true_then : (t u : Truth) → is_true (truth_and t u) ≡ (is_true t && is_true u)
true_then True u = refl
true_then False u = refl
true_then Unknown True = refl
true_then Unknown False = refl
true_then Unknown Unknown = refl

-- AND is true where each member is
pub all_are_true : (row : Row) (cs : List (Condition ℕ)) → is_true (all_true (map (truth_at row) cs)) ≡ list_all (λ c. is_true (truth_at row c)) cs
all_are_true row [] = refl
all_are_true row (c ∷ cs) = true_then (truth_at row c) (all_true (map (truth_at row) cs)) ∙ ap (λ z. is_true (truth_at row c) && z) (all_are_true row cs)

-- IN is true where a member equals the value
pub true_in : (v : Value) (ms : List Value) → is_true (in_list v ms) ≡ list_any (λ m. is_true (compare Eq v m)) ms
true_in v ms = by (list_any (λ m. is_true (compare Eq v m)) ms) (is_null v || list_any is_null ms)
  where
    by : (b c : Bool) → is_true (if b then True else if c then Unknown else False) ≡ b
    by true c = refl
    by false true = refl
    by false false = refl

-- the tests of a tree are those of a WHERE with it
pub tests_of_some : (c : Condition ℕ) (tests : Option (List Test)) → IfSome tests (λ list. (row : Row) → is_true (truth_at row c) ≡ list_all (passes row) list)
    → AreTestsOf (Some c) tests
tests_of_some c None h = h
tests_of_some c (Some list) h = h
