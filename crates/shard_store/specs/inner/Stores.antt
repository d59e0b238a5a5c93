-- Changes that do the same.
use Rattle.std.specs.Prelude.{◌≡◌, ◌<◌, ℕ, List}
use Rattle.std.specs.List.{AllByRecursion}
use Rattle.vt_value.specs.Values.{Row}
use Rattle.sql_eval.specs.RowChange.{RowChange}
use Rattle.sql_eval.specs.Write.{Write}
use Rattle.sql_eval.specs.Write.TheVariants.{Insert}
use Rattle.sql_eval.specs.Database.{Database, changed_table, all_applied}

-- changes that do in any database what others do, in no table beyond those of the others
pub record DoTheSame (changes others : List RowChange) : Type 0 where
  pub same : (db : Database) → all_applied changes db ≡ all_applied others db
  pub there : (n : ℕ) → AllByRecursion (λ c. changed_table c < n) others → AllByRecursion (λ c. changed_table c < n) changes

-- a write that adds these rows
abbrev pub IsInsertOf : ℕ → List Row → Write → Type 0
IsInsertOf n new w = w ≡ Insert n new
