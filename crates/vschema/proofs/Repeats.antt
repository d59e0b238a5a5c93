-- The names that SET gives, as a list.
use Rattle.std.proofs.Common.{◌≡◌, ◌<◌, List, [], ◌∷◌, length, map, bytes_eq, false, refl, arith}
use Rattle.sql_tree.specs.declared.Assignment.{Assignment}
use Rattle.vschema.specs.Resolved.{Name}
use Rattle.vschema.specs.WriteChecks.{has_twice, sets_twice}
use Rattle.vschema_json.proofs.Lists.{list_any_map}

pub sets_same : (assignments : List (Assignment Name)) → has_twice (map (λ a. a.column) assignments) ≡ sets_twice assignments
sets_same [] = refl
sets_same (a ∷ assignments) = rw (list_any_map (bytes_eq a.column) (λ b. b.column) assignments, sets_same assignments) refl

-- one column isn't named twice
pub one_once : (assignments : List (Assignment Name)) → length assignments < 2 → false ≡ sets_twice assignments
one_once [] short = refl
one_once (a ∷ []) short = refl
one_once (a ∷ b ∷ assignments) short = absurd (omega (arith, short))
