-- The cut condition is true where the whole one is.
use Rattle.std.proofs.Common.{◌≡◌, ℕ, Bool, true, false, cond, List, [], ◌∷◌, map, filter, Option, Some, None, refl, sym, ap, subst, ◌∙◌}
use Rattle.std.specs.Prelude.{◌||◌, ◌&&◌}
use Rattle.std.specs.List.{list_any}
use Rattle.vt_value.specs.declared.value.Value.{Value}
use Rattle.vt_value.specs.declared.value.Truth.{Truth}
use Rattle.vt_value.specs.declared.value.Truth.TheVariants.{True, False, Unknown}
use Rattle.vt_value.specs.declared.value.Comparison.TheVariants.{Eq}
use Rattle.vt_value.specs.Values.{Row, value_at, truth_and, all_true, is_true, is_null, compare, in_list}
use Rattle.sql_tree.specs.declared.Operand.{Operand}
use Rattle.sql_tree.specs.declared.Operand.TheVariants.{Column, Literal}
use Rattle.sql_tree.specs.declared.Condition as N
use Rattle.sql_tree.specs.declared.Condition.{Condition, Condition-F, roll-Condition, map-Condition}
use Rattle.sql_tree.specs.declared.Condition.TheVariants.{rolls-Compare, rolls-In, rolls-IsNull, rolls-Not, rolls-And, rolls-Or}
use Rattle.sql_tree.specs.declared.Condition.TheOpen.{Compare, In, IsNull, Not, And, Or}
use Rattle.sql_tree.specs.declared.Condition.TheFolds.{ind-Condition}
use Rattle.sql_eval.specs.Conditions.{truth_at, operand_value}
use Rattle.sql_eval.proofs.ConditionLemmas.{truth_at-In, truth_at-And}
use Rattle.vschema.specs.ColumnType.{ColumnType}
use Rattle.planner.specs.declared.keys.Keys.{Keys}
use Rattle.planner.specs.Routes.{kind_in}
use Rattle.planner.specs.Plans.{has_among, first_cut, cut_members, cut_in, cut_by, cut_of}
use Rattle.planner.proofs.TrueConditions.{equals_one, same_values}
use Rattle.planner.proofs.Skips.{not_null}
use Rattle.planner.proofs.Cuts.{first_cut-cons, cut_of-Compare, cut_of-In, cut_of-IsNull, cut_of-Not, cut_of-And, cut_of-Or}

in_true : (v : Value) (members : List Value) → is_true (in_list v members) ≡ equals_one v members
in_true v members = by (equals_one v members) (is_null v || list_any is_null members)
  where
    by : (b c : Bool) → is_true (cond b True (cond c Unknown False)) ≡ b
    by true c = refl
    by false true = refl
    by false false = refl

and_true : (s t : Truth) → is_true (truth_and s t) ≡ (is_true s && is_true t)
and_true True t = refl
and_true False t = refl
and_true Unknown True = refl
and_true Unknown False = refl
and_true Unknown Unknown = refl

-- the members that are left out aren't equal to the value
same_members : (kept : Value → Bool) (v : Value) → (is_null v ≡ false → kept v ≡ true) → (members : List Value)
    → equals_one v (filter kept members) ≡ equals_one v members
same_members kept v h [] = refl
same_members kept v h (m ∷ members) = by (kept m) refl (is_true (compare Eq v m)) refl (same_members kept v h members)
  where
    by : (k : Bool) → kept m ≡ k → (e : Bool) → is_true (compare Eq v m) ≡ e → equals_one v (filter kept members) ≡ equals_one v members
        → equals_one v (cond k (m ∷ filter kept members) (filter kept members)) ≡ (is_true (compare Eq v m) || equals_one v members)
    by true is e same rest = ap (λ b. is_true (compare Eq v m) || b) rest
    by false is true same rest =
        let yes : kept m ≡ true = subst (λ x. kept x ≡ true) (same_values v m same) (h (not_null v m same)) in
        let wrong : true ≡ false = sym yes ∙ is in
        cc
    by false is false same rest = rw same rest

module _ (row : Row) (keys : Keys) (kept : ColumnType → Value → Bool)
    (h : (c : ℕ) (kind : ColumnType) → kind_in keys c ≡ Some kind → is_null (value_at row c) ≡ false → kept kind (value_at row c) ≡ true) where
  abbrev Keeps : Condition ℕ → Type 0
  Keeps c = is_true (truth_at row (cut_of keys kept c)) ≡ is_true (truth_at row c)

  abbrev Entry : Type 0
  Entry = (c : Condition ℕ) × Keeps c

  keeps-same : (c : Condition ℕ) → cut_of keys kept c ≡ c → Keeps c
  keeps-same c e = ap (λ d. is_true (truth_at row d)) e

  in_true_at : (a : Operand ℕ) (members : List Value) → is_true (truth_at row (N.In a members)) ≡ equals_one (operand_value row a) members
  in_true_at a members = ap is_true (truth_at-In row a members) ∙ in_true (operand_value row a) members

  keeps-In : (a : Operand ℕ) (members : List Value) → is_true (truth_at row (cut_in keys kept a members)) ≡ is_true (truth_at row (N.In a members))
  keeps-In (Literal x) members = refl
  keeps-In (Column c) members = by (kind_in keys c) refl
    where
      by : (kind : Option ColumnType) → kind_in keys c ≡ kind
          → is_true (truth_at row (N.In (Column c) (cut_members kind kept members))) ≡ is_true (truth_at row (N.In (Column c) members))
      by None e = refl
      by (Some kind) e =
          in_true_at (Column c) (filter (kept kind) members) ∙ same_members (kept kind) (value_at row c) (h c kind e) members ∙ sym (in_true_at (Column c) members)

  and_true_at : (c : Condition ℕ) (cs : List (Condition ℕ)) →
      is_true (all_true (map (truth_at row) (c ∷ cs))) ≡ (is_true (truth_at row c) && is_true (all_true (map (truth_at row) cs)))
  and_true_at c cs = and_true (truth_at row c) (all_true (map (truth_at row) cs))

  members : (es : List Entry) →
      is_true (all_true (map (truth_at row) (first_cut keys (map (cut_by keys kept) (map (λ e. e.0) es))))) ≡ is_true (all_true (map (truth_at row) (map (λ e. e.0) es)))
  members [] = refl
  members (e ∷ es) =
      ap (λ l. is_true (all_true (map (truth_at row) l))) (first_cut-cons keys kept e.0 (map (λ e. e.0) es))
      ∙ by (has_among keys e.0) (members es) ∙ sym (and_true_at e.0 (map (λ e. e.0) es))
    where
      by : (b : Bool)
          → is_true (all_true (map (truth_at row) (first_cut keys (map (cut_by keys kept) (map (λ e. e.0) es))))) ≡ is_true (all_true (map (truth_at row) (map (λ e. e.0) es)))
          → is_true (all_true (map (truth_at row) (cond b (cut_of keys kept e.0 ∷ map (λ e. e.0) es) (e.0 ∷ first_cut keys (map (cut_by keys kept) (map (λ e. e.0) es))))))
          ≡ (is_true (truth_at row e.0) && is_true (all_true (map (truth_at row) (map (λ e. e.0) es))))
      by true rest =
          and_true_at (cut_of keys kept e.0) (map (λ e. e.0) es) ∙ ap (λ b. b && is_true (all_true (map (truth_at row) (map (λ e. e.0) es)))) e.1
      by false rest =
          and_true_at e.0 (first_cut keys (map (cut_by keys kept) (map (λ e. e.0) es))) ∙ ap (λ b. is_true (truth_at row e.0) && b) rest

  node : (y : Condition-F ℕ Entry) → Keeps (roll-Condition ℕ (map-Condition ℕ Entry (Condition ℕ) (λ e. e.0) y))
  node (Compare op a b) = subst Keeps (sym (rolls-Compare op a b)) (keeps-same (N.Compare op a b) (cut_of-Compare keys kept op a b))
  node (In a ms) = subst Keeps (sym (rolls-In a ms)) (ap (λ d. is_true (truth_at row d)) (cut_of-In keys kept a ms) ∙ keeps-In a ms)
  node (IsNull a) = subst Keeps (sym (rolls-IsNull a)) (keeps-same (N.IsNull a) (cut_of-IsNull keys kept a))
  node (Not e) = subst Keeps (sym (rolls-Not e.0)) (keeps-same (N.Not e.0) (cut_of-Not keys kept e.0))
  node (And es) =
      let cs = map (λ (e : Entry). e.0) es in
      subst Keeps (sym (rolls-And cs))
      (ap (λ d. is_true (truth_at row d)) (cut_of-And keys kept cs) ∙ ap is_true (truth_at-And row (first_cut keys (map (cut_by keys kept) cs)))
      ∙ members es ∙ ap is_true (sym (truth_at-And row cs)))
  node (Or es) = let cs = map (λ (e : Entry). e.0) es in subst Keeps (sym (rolls-Or cs)) (keeps-same (N.Or cs) (cut_of-Or keys kept cs))

  pub keeps : (c : Condition ℕ) → Keeps c
  keeps = ind-Condition ℕ Keeps (λ x y is. subst (λ z. Keeps (roll-Condition ℕ z)) is (node y))
