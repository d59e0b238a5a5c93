-- What a comparison says of a value, as an interval.
use Rattle.std.proofs.Common.{◌≡◌, ℕ, Bool, true, false, refl, sym, subst}
use Rattle.std.specs.Prelude.{◌&&◌}
use Rattle.std.specs.Borrow.{Bor}
use Rattle.std.specs.Ordering.{ordering_reverse, int_cmp, nat_cmp, is_eq}
use Rattle.std.specs.Cmp.{Equal-is}
use Rattle.std.specs.Cmp.Lexicographic.{slice_cmp}
use Rattle.std.specs.declared.ops.Bound.{Bound}
use Rattle.std.specs.declared.ops.Bound.TheVariants.{Included}
use Rattle.std.specs.declared.cmp.Ordering.{Ordering}
use Rattle.std.specs.declared.cmp.Ordering.TheVariants.{Less, Equal, Greater}
use Rattle.vt_value.specs.declared.value.Value.{Value}
use Rattle.vt_value.specs.declared.value.Value.TheVariants.{Null, Int, Bytes}
use Rattle.vt_value.specs.declared.value.Comparison.{Comparison}
use Rattle.vt_value.specs.declared.value.Comparison.TheVariants.{Eq, Ne, Lt, Le, Gt, Ge}
use Rattle.vt_value.specs.Values.{Row, value_at, value_cmp, is_true, truth_of, fits_order, compare}
use Rattle.sql_tree.specs.declared.Operand.{Operand}
use Rattle.sql_tree.specs.declared.Operand.TheVariants.{Column, Literal}
use Rattle.sql_eval.specs.Conditions.{operand_value}
use Rattle.sql_eval.proofs.OrderLemmas.{value_cmp-total, value_cmp-same}
use Rattle.key_intervals.specs.declared.column.Interval.{Interval}
use Rattle.key_intervals.specs.Intervals.{is_above, is_under, is_inside}
use Rattle.key_intervals.specs.inner.Turned.{turned}

told : (b : Bool) → is_true (truth_of b) ≡ true → b ≡ true
told true e = refl
told false e = cc

-- a comparison that is true is one of two values in the order of values
pub compared : (op : Comparison) (x y : Value) → is_true (compare op x y) ≡ true → fits_order op (value_cmp x y) ≡ true
compared op (Int m) (Int n) e = told (fits_order op (int_cmp m n)) e
compared op (Bytes s) (Bytes t) e = told (fits_order op (slice_cmp nat_cmp s t)) e
compared op Null y e = cc
compared op (Int m) Null e = cc
compared op (Int m) (Bytes t) e = cc
compared op (Bytes s) Null e = cc
compared op (Bytes s) (Int n) e = cc

equal_fits : (o : Ordering) → fits_order Eq o ≡ true → (fits_order Ge o && fits_order Le o) ≡ true
equal_fits Equal e = refl
equal_fits Less e = cc
equal_fits Greater e = cc

pub equal_inside : (x v : Value) → fits_order Eq (value_cmp x v) ≡ true → (fits_order Ge (value_cmp x v) && fits_order Le (value_cmp x v)) ≡ true
equal_inside x v e = equal_fits (value_cmp x v) e

and_true : (b : Bool) → b ≡ true → (b && true) ≡ true
and_true true e = refl
and_true false e = cc

pub greater_inside : (op : Comparison) (x v : Value) → fits_order op (value_cmp x v) ≡ true → (fits_order op (value_cmp x v) && true) ≡ true
greater_inside op x v e = and_true (fits_order op (value_cmp x v)) e

pub less_inside : (op : Comparison) (x v : Value) → fits_order op (value_cmp x v) ≡ true → (true && fits_order op (value_cmp x v)) ≡ true
less_inside op x v e = e

turned_order : (op : Comparison) (o : Ordering) → fits_order op o ≡ true → fits_order (turned op) (ordering_reverse o) ≡ true
turned_order Eq Equal e = refl
turned_order Eq Less e = cc
turned_order Eq Greater e = cc
turned_order Ne Less e = refl
turned_order Ne Greater e = refl
turned_order Ne Equal e = cc
turned_order Lt Less e = refl
turned_order Lt Equal e = cc
turned_order Lt Greater e = cc
turned_order Le Less e = refl
turned_order Le Equal e = refl
turned_order Le Greater e = cc
turned_order Gt Greater e = refl
turned_order Gt Equal e = cc
turned_order Gt Less e = cc
turned_order Ge Greater e = refl
turned_order Ge Equal e = refl
turned_order Ge Less e = cc

-- the same of the two values in turn
pub turned_fits : (op : Comparison) (x y : Value) → fits_order op (value_cmp x y) ≡ true → fits_order (turned op) (value_cmp y x) ≡ true
turned_fits op x y e =
    subst (λ (o : Ordering). fits_order (turned op) o ≡ true) (sym (value_cmp-total.antisymm y x)) (turned_order op (value_cmp x y) e)

pub first_of : (a b : Bool) → (a && b) ≡ true → a ≡ true
first_of true b e = refl
first_of false b e = e

pub second_of : (a b : Bool) → (a && b) ≡ true → b ≡ true
second_of true b e = e
second_of false b e = absurd cc

pub both_of : (a b : Bool) → a ≡ true → b ≡ true → (a && b) ≡ true
both_of true b e f = f
both_of false b e f = e

-- a comparison of a column with a literal, and of a literal with a column
pub left_fits : (row : Row) (op : Comparison) (a b : Operand ℕ) (p c : ℕ) (v : Value) → a ≡ Column p → b ≡ Literal v → p ≡ c
    → is_true (compare op (operand_value row a) (operand_value row b)) ≡ true → fits_order op (value_cmp (value_at row c) v) ≡ true
left_fits row op a b p c v is_a is_b same h =
    let g : is_true (compare op (value_at row p) v) ≡ true =
    subst (λ (x : Operand ℕ). is_true (compare op (value_at row p) (operand_value row x)) ≡ true) is_b
    (subst (λ (x : Operand ℕ). is_true (compare op (operand_value row x) (operand_value row b)) ≡ true) is_a h) in
    subst (λ n. fits_order op (value_cmp (value_at row n) v) ≡ true) same (compared op (value_at row p) v g)

pub right_fits : (row : Row) (op : Comparison) (a b : Operand ℕ) (p c : ℕ) (v : Value) → a ≡ Literal v → b ≡ Column p → p ≡ c
    → is_true (compare op (operand_value row a) (operand_value row b)) ≡ true → fits_order (turned op) (value_cmp (value_at row c) v) ≡ true
right_fits row op a b p c v is_a is_b same h =
    let g : is_true (compare op v (value_at row p)) ≡ true =
    subst (λ (x : Operand ℕ). is_true (compare op v (operand_value row x)) ≡ true) is_b
    (subst (λ (x : Operand ℕ). is_true (compare op (operand_value row x) (operand_value row b)) ≡ true) is_a h) in
    subst (λ n. fits_order (turned op) (value_cmp (value_at row n) v) ≡ true) same (turned_fits op v (value_at row p) (compared op v (value_at row p) g))

equal_of : (o : Ordering) → (fits_order Ge o && fits_order Le o) ≡ true → o ≡ Equal
equal_of Less e = cc
equal_of Equal e = refl
equal_of Greater e = cc

-- between two bounds that are one value lies that value alone
pub alone : (i : Interval) (v w : Bor Value) → i.low ≡ Included v → i.high ≡ Included w → is_eq (value_cmp v.now w.now) ≡ true
    → (x : Value) → is_inside i x ≡ true → x ≡ v.now
alone i v w low high same x e =
    let is : v.now ≡ w.now = value_cmp-same v.now w.now ((Equal-is (value_cmp v.now w.now)).0 same) in
    let f : (fits_order Ge (value_cmp x v.now) && fits_order Le (value_cmp x w.now)) ≡ true =
    subst (λ (b : Bound (Bor Value)). (fits_order Ge (value_cmp x v.now) && is_under b x) ≡ true) high
    (subst (λ (b : Bound (Bor Value)). (is_above b x && is_under i.high x) ≡ true) low e) in
    let g : (fits_order Ge (value_cmp x v.now) && fits_order Le (value_cmp x v.now)) ≡ true =
    subst (λ (y : Value). (fits_order Ge (value_cmp x v.now) && fits_order Le (value_cmp x y)) ≡ true) (sym is) f in
    value_cmp-same x v.now (equal_of (value_cmp x v.now) g)
