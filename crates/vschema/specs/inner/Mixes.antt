-- Kinds that a condition mixes, whose columns are given by their ordinals.
use Rattle.std.specs.Prelude.{ℕ, Bool, false, Option, Some, None}
use Rattle.std.specs.List.{list_any}
use Rattle.sql_tree.specs.declared.Operand.{Operand}
use Rattle.sql_tree.specs.declared.Operand.TheVariants as operand
use Rattle.sql_tree.specs.declared.Condition.{Condition, Condition-F, fold-Condition}
use Rattle.sql_tree.specs.declared.Condition.TheOpen.{Compare, In, IsNull, Not, And, Or}
use Rattle.vschema.specs.Scopes.{Scope}
use Rattle.vschema.specs.Checks.{column_is_text, value_is_text, differ}

abbrev pub operand_is_text_at : Scope → Operand ℕ → Option Bool
operand_is_text_at s (operand.Column n) = column_is_text s n
operand_is_text_at s (operand.Literal v) = value_is_text v

abbrev pub node_mixes_at : Scope → Condition-F ℕ Bool → Bool
node_mixes_at s (Compare op a b) = differ (operand_is_text_at s a) (operand_is_text_at s b)
node_mixes_at s (In a members) = list_any (λ m. differ (operand_is_text_at s a) (value_is_text m)) members
node_mixes_at s (IsNull a) = false
node_mixes_at s (Not b) = b
node_mixes_at s (And bs) = list_any (λ b. b) bs
node_mixes_at s (Or bs) = list_any (λ b. b) bs

-- a comparison has a number on one side and a text on the other
abbrev pub condition_mixes_at : Scope → Condition ℕ → Bool
condition_mixes_at s c = fold-Condition ℕ Bool (node_mixes_at s) c

abbrev pub filter_mixes_at : Scope → Option (Condition ℕ) → Bool
filter_mixes_at s None = false
filter_mixes_at s (Some c) = condition_mixes_at s c
