-- Which check of a query fails.
use Rattle.std.proofs.Common.{◌≡◌, ℕ, true, false, Ok, Err, Option, ap, sym, refl, ◌∙◌}
use Rattle.vt_value.specs.declared.refusal.Refusal.TheVariants.{NotGrouped}
use Rattle.sql_tree.specs.declared.Select.{Select}
use Rattle.vschema.specs.declared.schema.Query.{Query}
use Rattle.vschema.specs.Scopes.{Scope}
use Rattle.vschema.specs.Checks.{names_unknown_column, select_is_not_supported, shows_ungrouped}
use Rattle.vschema.specs.Joins.{join_is_refused}
use Rattle.vschema.specs.TypedStatement.{over, checked}

-- the last checks, of the query that the others let through
module _ (n : ℕ) (m : Option ℕ) (scope : Scope) (s : Select) (q : Query) (known : names_unknown_column scope s ≡ false) (is : q ≡ over n m scope s)
    (supported : select_is_not_supported scope s ≡ false) (joined : join_is_refused scope q ≡ false) where
  pub not_grouped : shows_ungrouped q ≡ true → checked n m scope s ≡ Err NotGrouped
  not_grouped ungrouped = rw (known, supported, (sym (ap (join_is_refused scope) is) ∙ joined), (sym (ap shows_ungrouped is) ∙ ungrouped)) refl

  pub is_query : shows_ungrouped q ≡ false → checked n m scope s ≡ Ok q
  is_query grouped = rw (known, supported, (sym (ap (join_is_refused scope) is) ∙ joined), (sym (ap shows_ungrouped is) ∙ grouped)) (ap Ok (sym is))
