-- What a condition that is true at a row says of its conjuncts.
use Rattle.std.proofs.Common.{◌≡◌, ℕ, Bool, true, false, cond, List, [], ◌∷◌, ◌++◌, map, Option, Some, None, refl, sym, ap, subst, ◌∙◌}
use Rattle.std.specs.Prelude.{◌||◌}
use Rattle.std.specs.List.{AllByRecursion, list_any, list_all}
use Rattle.std.specs.declared.cmp.Ordering.{Ordering}
use Rattle.std.specs.declared.cmp.Ordering.TheVariants.{Less, Equal, Greater}
use Rattle.std.specs.Ordering.{int_cmp, nat_cmp}
use Rattle.std.specs.Cmp.Lexicographic.{slice_cmp}
use Rattle.vt_value.specs.declared.value.Value.{Value}
use Rattle.vt_value.specs.declared.value.Value.TheVariants.{Null, Int, Bytes}
use Rattle.vt_value.specs.declared.value.Truth.{Truth}
use Rattle.vt_value.specs.declared.value.Truth.TheVariants.{True, False, Unknown}
use Rattle.vt_value.specs.declared.value.Comparison.{Comparison}
use Rattle.vt_value.specs.declared.value.Comparison.TheVariants.{Eq, Ne, Lt, Le, Gt, Ge}
use Rattle.vt_value.specs.Values.{Row, value_at, value_cmp, truth_and, is_true, truth_of, is_null, fits_order, compare, in_list}
use Rattle.sql_tree.specs.declared.Operand.{Operand}
use Rattle.sql_tree.specs.declared.Operand.TheVariants.{Column, Literal}
use Rattle.sql_tree.specs.declared.Condition.{Condition, Condition-F, roll-Condition, map-Condition, fold-roll-Condition}
use Rattle.sql_tree.specs.declared.Condition.TheOpen.{Compare, In, IsNull, Not, And, Or}
use Rattle.sql_tree.specs.declared.Condition.TheFolds.{ind-Condition}
use Rattle.operators.proofs.OrderLemmas.{value_cmp-same}
use Rattle.sql_eval.specs.Conditions.{truth_at, node_truth, operand_value}
use Rattle.vschema.specs.ColumnType.{ColumnType}
use Rattle.planner.specs.declared.keys.Keys.{Keys}
use Rattle.planner.specs.Routes.{is_null_literal, node_never, is_never, is_equality, kind_in, of_kind, literal_with, node_equals, equals, members_with, node_among, among}

abbrev pub equals_one : Value → List Value → Bool
equals_one v members = list_any (λ m. is_true (compare Eq v m)) members

-- a deciding column of this type has the literal's value
pub record IsSaid (row : Row) (keys : Keys) (p : ColumnType × Value) : Type 0 where
  pub column : ℕ
  pub is : kind_in keys column ≡ Some p.0
  pub equal : is_true (compare Eq (value_at row column) p.1) ≡ true

-- a deciding column of this type has the value of a member
pub record IsSaidAmong (row : Row) (keys : Keys) (p : ColumnType × List Value) : Type 0 where
  pub column : ℕ
  pub is : kind_in keys column ≡ Some p.0
  pub inside : equals_one (value_at row column) p.1 ≡ true

-- what holds of a row for which the condition is true
pub record Facts (row : Row) (never : Bool) (literals : Keys → List (ColumnType × Value)) (lists : Keys → List (ColumnType × List Value)) : Type 0 where
  pub possible : never ≡ false
  pub equal : (keys : Keys) → AllByRecursion (IsSaid row keys) (literals keys)
  pub inside : (keys : Keys) → AllByRecursion (IsSaidAmong row keys) (lists keys)

abbrev pub Says : Row → Condition ℕ → Type 0
Says row c = is_true (truth_at row c) ≡ true → Facts row (is_never c) (λ keys. equals keys c) (λ keys. among keys c)

null_right : (op : Comparison) (v : Value) → compare op v Null ≡ Unknown
null_right op Null = refl
null_right op (Int n) = refl
null_right op (Bytes t) = refl

is_equal : (o : Ordering) → is_true (truth_of (fits_order Eq o)) ≡ true → o ≡ Equal
is_equal Less e = cc
is_equal Equal e = refl
is_equal Greater e = cc

same_cmp : (a b : Value) → is_true (compare Eq a b) ≡ true → value_cmp a b ≡ Equal
same_cmp Null b e = cc
same_cmp (Int m) Null e = cc
same_cmp (Int m) (Int n) e = is_equal (int_cmp m n) e
same_cmp (Int m) (Bytes t) e = cc
same_cmp (Bytes s) Null e = cc
same_cmp (Bytes s) (Int n) e = cc
same_cmp (Bytes s) (Bytes t) e = is_equal (slice_cmp nat_cmp s t) e

-- values that compare as equal are one
pub same_values : (a b : Value) → is_true (compare Eq a b) ≡ true → a ≡ b
same_values a b e = value_cmp-same a b (same_cmp a b e)

turned : (a b : Value) → is_true (compare Eq a b) ≡ true → is_true (compare Eq b a) ≡ true
turned a b e =
    let same = same_values a b e in
    subst (λ z. is_true (compare Eq z a) ≡ true) same (subst (λ z. is_true (compare Eq a z) ≡ true) (sym same) e)

left_null : (row : Row) (op : Comparison) (a : Operand ℕ) (v : Value) → is_true (compare op (operand_value row a) v) ≡ true → is_null_literal a ≡ false
left_null row op (Column c) v e = refl
left_null row op (Literal Null) v e = cc
left_null row op (Literal (Int n)) v e = refl
left_null row op (Literal (Bytes t)) v e = refl

right_null : (row : Row) (op : Comparison) (v : Value) (b : Operand ℕ) → is_true (compare op v (operand_value row b)) ≡ true → is_null_literal b ≡ false
right_null row op v (Column c) e = refl
right_null row op v (Literal Null) e = let unknown = null_right op v in cc
right_null row op v (Literal (Int n)) e = refl
right_null row op v (Literal (Bytes t)) e = refl

neither : (a b : Bool) → a ≡ false → b ≡ false → (a || b) ≡ false
neither true b e f = e
neither false b e f = f

-- one literal, where the column decides
alongside : (row : Row) (c : ℕ) (keys : Keys) (x : Value) → is_true (compare Eq (value_at row c) x) ≡ true → AllByRecursion (IsSaid row keys) (of_kind (kind_in keys c) x)
alongside row c keys x e = by (kind_in keys c) refl
  where
    by : (kind : Option ColumnType) → kind_in keys c ≡ kind → AllByRecursion (IsSaid row keys) (of_kind kind x)
    by None is = tt
    by (Some kind) is = (record { column = c; is = is; equal = e }, tt)

literals : (row : Row) (a b : Operand ℕ) (keys : Keys) → is_true (compare Eq (operand_value row a) (operand_value row b)) ≡ true
    → AllByRecursion (IsSaid row keys) (literal_with keys a b)
literals row (Column c) (Column d) keys e = tt
literals row (Column c) (Literal x) keys e = alongside row c keys x e
literals row (Literal x) (Column c) keys e = alongside row c keys x (turned x (value_at row c) e)
literals row (Literal x) (Literal y) keys e = tt

by_operator : (row : Row) (op : Comparison) (a b : Operand ℕ) (keys : Keys) → is_true (compare op (operand_value row a) (operand_value row b)) ≡ true
    → AllByRecursion (IsSaid row keys) (cond (is_equality op) (literal_with keys a b) [])
by_operator row Eq a b keys e = literals row a b keys e
by_operator row Ne a b keys e = tt
by_operator row Lt a b keys e = tt
by_operator row Le a b keys e = tt
by_operator row Gt a b keys e = tt
by_operator row Ge a b keys e = tt

in_true : (v : Value) (members : List Value) → is_true (in_list v members) ≡ true → equals_one v members ≡ true
in_true v members e = by (equals_one v members) (is_null v || list_any is_null members) e
  where
    by : (b c : Bool) → is_true (cond b True (cond c Unknown False)) ≡ true → b ≡ true
    by true c e = refl
    by false true e = cc
    by false false e = cc

one_more : (a b : Bool) → (a || b) ≡ true → a ≡ false → b ≡ true
one_more true b e f = cc
one_more false b e f = e

nulls : (v : Value) (members : List Value) → equals_one v members ≡ true → list_all is_null members ≡ false
nulls v [] e = cc
nulls v (Null ∷ members) e = nulls v members (one_more _ _ e (ap is_true (null_right Eq v)))
nulls v (Int n ∷ members) e = refl
nulls v (Bytes t ∷ members) e = refl

lists : (row : Row) (a : Operand ℕ) (members : List Value) (keys : Keys) → equals_one (operand_value row a) members ≡ true
    → AllByRecursion (IsSaidAmong row keys) (members_with keys a members)
lists row (Literal x) members keys e = tt
lists row (Column c) members keys e = by (kind_in keys c) refl
  where
    by : (kind : Option ColumnType) → kind_in keys c ≡ kind → AllByRecursion (IsSaidAmong row keys) (of_kind kind members)
    by None is = tt
    by (Some kind) is = (record { column = c; is = is; inside = e }, tt)

all_join : {X : Type 0} (P : X → Type 0) (xs ys : List X) → AllByRecursion P xs → AllByRecursion P ys → AllByRecursion P (xs ++ ys)
all_join P [] ys a b = b
all_join P (x ∷ xs) ys a b = (a.0, all_join P xs ys a.1 b)

both_true : (s t : Truth) → is_true (truth_and s t) ≡ true → (is_true s ≡ true) × (is_true t ≡ true)
both_true True t e = (refl, e)
both_true False t e = cc
both_true Unknown True e = cc
both_true Unknown False e = cc
both_true Unknown Unknown e = cc

module _ (row : Row) where
  abbrev Entry : Type 0
  Entry = (c : Condition ℕ) × Says row c

  abbrev layer : Condition-F ℕ Entry → Condition-F ℕ (Condition ℕ)
  layer y = map-Condition ℕ Entry (Condition ℕ) (λ e. e.0) y

  abbrev FactsOf : Condition-F ℕ (Condition ℕ) → Type 0
  FactsOf x =
      is_true (node_truth row (map-Condition ℕ (Condition ℕ) Truth (truth_at row) x)) ≡ true
      → Facts row (node_never (map-Condition ℕ (Condition ℕ) Bool is_never x))
      (λ keys. node_equals keys (map-Condition ℕ (Condition ℕ) (List (ColumnType × Value)) (equals keys) x))
      (λ keys. node_among keys (map-Condition ℕ (Condition ℕ) (List (ColumnType × List Value)) (among keys) x))

  rolled : (x : Condition-F ℕ (Condition ℕ)) → FactsOf x → Says row (roll-Condition ℕ x)
  rolled x f h =
      let facts = f (subst (λ t. is_true t ≡ true) (fold-roll-Condition ℕ Truth (node_truth row) x) h) in
      record {
        possible = fold-roll-Condition ℕ Bool node_never x ∙ facts.possible;
        equal = λ keys. subst (AllByRecursion (IsSaid row keys)) (sym (fold-roll-Condition ℕ (List (ColumnType × Value)) (node_equals keys) x)) (facts.equal keys);
        inside = λ keys.
            subst (AllByRecursion (IsSaidAmong row keys)) (sym (fold-roll-Condition ℕ (List (ColumnType × List Value)) (node_among keys) x))
            (facts.inside keys);
      }

  nothing : Facts row false (λ n. []) (λ n. [])
  nothing = record { possible = refl; equal = λ n. tt; inside = λ n. tt }

  members : (es : List Entry) → FactsOf (And (map (λ e. e.0) es))
  members [] h = nothing
  members (e ∷ es) h =
      let both = both_true (truth_at row e.0) _ h in
      let this = e.1 both.0 in
      let rest = members es both.1 in
      record {
        possible = neither _ _ this.possible rest.possible;
        equal = λ keys. all_join (IsSaid row keys) (equals keys e.0) _ (this.equal keys) (rest.equal keys);
        inside = λ keys. all_join (IsSaidAmong row keys) (among keys e.0) _ (this.inside keys) (rest.inside keys);
      }

  node : (y : Condition-F ℕ Entry) → FactsOf (layer y)
  node (Compare op a b) h = record {
    possible = neither _ _ (left_null row op a _ h) (right_null row op _ b h);
    equal = λ keys. by_operator row op a b keys h;
    inside = λ n. tt;
  }
  node (In a ms) h =
      let one = in_true (operand_value row a) ms h in
      record { possible = nulls (operand_value row a) ms one; equal = λ n. tt; inside = λ keys. lists row a ms keys one }
  node (IsNull a) h = nothing
  node (Not e) h = nothing
  node (And es) h = members es h
  node (Or es) h = nothing

  pub says : (c : Condition ℕ) → Says row c
  says = ind-Condition ℕ (Says row) (λ x y is. subst (λ z. Says row (roll-Condition ℕ z)) is (rolled (layer y) (node y)))
