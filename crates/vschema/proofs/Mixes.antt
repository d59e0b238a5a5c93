-- A condition mixes kinds where it does so with its columns by their ordinals.
use Rattle.std.proofs.Common.{◌≡◌, ℕ, Bool, List, [], ◌∷◌, map, Option, Some, None, refl, sym, ap, subst, ◌∙◌}
use Rattle.std.specs.Prelude.{option_map, ◌||◌}
use Rattle.std.specs.List.{list_any}
use Rattle.vt_value.specs.declared.value.Value.{Value}
use Rattle.sql_tree.specs.declared.ColumnName.{ColumnName}
use Rattle.sql_tree.specs.declared.Operand.{Operand}
use Rattle.sql_tree.specs.declared.Operand.TheVariants.{Column, Literal}
use Rattle.sql_tree.specs.declared.Condition as N
use Rattle.sql_tree.specs.declared.Condition.{Condition, Condition-F, roll-Condition, map-Condition, fold-roll-Condition}
use Rattle.sql_tree.specs.declared.Condition.TheVariants.{rolls-Compare, rolls-In, rolls-IsNull, rolls-Not, rolls-And, rolls-Or}
use Rattle.sql_tree.specs.declared.Condition.TheOpen.{Compare, In, IsNull, Not, And, Or}
use Rattle.sql_tree.specs.declared.Condition.TheFolds.{ind-Condition}
use Rattle.vschema.specs.Scopes.{Scope}
use Rattle.vschema.specs.Resolved.{resolved_operand, resolved_node, resolved_condition}
use Rattle.vschema.specs.Checks.{operand_is_text, value_is_text, differ, node_mixes, condition_mixes, filter_has}
use Rattle.vschema.specs.inner.Mixes.{operand_is_text_at, node_mixes_at, condition_mixes_at, filter_mixes_at}

module _ (s : Scope) where
  abbrev Same : Condition ColumnName → Type 0
  Same c = condition_mixes_at s (resolved_condition s c) ≡ condition_mixes s c

  abbrev Entry : Type 0
  Entry = (c : Condition ColumnName) × Same c

  operand : (a : Operand ColumnName) → operand_is_text_at s (resolved_operand s a) ≡ operand_is_text s a
  operand (Column name) = refl
  operand (Literal v) = refl

  at : (x : Condition-F ℕ (Condition ℕ)) (c : Condition ℕ) → roll-Condition ℕ x ≡ c
      → condition_mixes_at s c ≡ node_mixes_at s (map-Condition ℕ (Condition ℕ) Bool (condition_mixes_at s) x)
  at x c e = ap (condition_mixes_at s) (sym e) ∙ fold-roll-Condition ℕ Bool (node_mixes_at s) x

  members : (es : List Entry)
      → list_any (λ b. b) (map (condition_mixes_at s) (map (resolved_condition s) (map (λ e. e.0) es)))
      ≡ list_any (λ b. b) (map (condition_mixes s) (map (λ e. e.0) es))
  members [] = refl
  members (e ∷ es) = λ i. e.1 i || members es i

  abbrev layer : Condition-F ColumnName Entry → Condition-F ColumnName (Condition ColumnName)
  layer y = map-Condition ColumnName Entry (Condition ColumnName) (λ e. e.0) y

  node : (y : Condition-F ColumnName Entry) →
      condition_mixes_at s (resolved_node s (map-Condition ColumnName (Condition ColumnName) (Condition ℕ) (resolved_condition s) (layer y)))
      ≡ node_mixes s (map-Condition ColumnName (Condition ColumnName) Bool (condition_mixes s) (layer y))
  node (Compare op a b) =
      at (Compare op (resolved_operand s a) (resolved_operand s b)) _ (rolls-Compare op (resolved_operand s a) (resolved_operand s b))
      ∙ (λ i. differ (operand a i) (operand b i))
  node (In a ms) =
      at (In (resolved_operand s a) ms) _ (rolls-In (resolved_operand s a) ms)
      ∙ (λ i. list_any (λ (m : Value). differ (operand a i) (value_is_text m)) ms)
  node (IsNull a) = at (IsNull (resolved_operand s a)) _ (rolls-IsNull (resolved_operand s a))
  node (Not e) = at (Not (resolved_condition s e.0)) _ (rolls-Not (resolved_condition s e.0)) ∙ e.1
  node (And es) =
      let cs = map (resolved_condition s) (map (λ (e : Entry). e.0) es) in
      at (And cs) _ (rolls-And cs) ∙ members es
  node (Or es) =
      let cs = map (resolved_condition s) (map (λ (e : Entry). e.0) es) in
      at (Or cs) _ (rolls-Or cs) ∙ members es

  rolled : (y : Condition-F ColumnName Entry) → Same (roll-Condition ColumnName (layer y))
  rolled y =
      ap (condition_mixes_at s) (fold-roll-Condition ColumnName (Condition ℕ) (resolved_node s) (layer y)) ∙ node y
      ∙ sym (fold-roll-Condition ColumnName Bool (node_mixes s) (layer y))

  pub mixes_same : (c : Condition ColumnName) → Same c
  mixes_same = ind-Condition ColumnName Same (λ x y is. subst (λ z. Same (roll-Condition ColumnName z)) is (rolled y))

  pub filter_same : (f : Option (Condition ColumnName)) → filter_mixes_at s (option_map (resolved_condition s) f) ≡ filter_has (condition_mixes s) f
  filter_same None = refl
  filter_same (Some c) = mixes_same c
