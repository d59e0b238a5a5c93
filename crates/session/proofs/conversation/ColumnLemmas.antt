-- One more column is defined.
use Rattle.std.proofs.Common.{◌≡◌, ℕ, suc, ◌+◌, ◌-◌, ◌<◌, ◌≤◌, Bool, true, false, Option, Some, List, [], ◌∷◌, ◌++◌, length, refl, rules, subst, arith}
use Rattle.std.specs.Prelude.{nat_lt, slice_index_or}
use Rattle.sql_tree.specs.declared.Item.{Item}
use Rattle.sql_tree.specs.declared.Item.TheVariants as item
use Rattle.vschema.specs.declared.schema.Join.{Join}
use Rattle.vschema.specs.declared.schema.Table.{Table}
use Rattle.vschema.specs.declared.schema.VSchema.{VSchema}
use Rattle.vschema.specs.Schema.{no_table}
use Rattle.resultset.specs.declared.Column.{Column}
use Rattle.session.specs.conversation.Columns.{owner_of, DefinesAggregate, DefinesItem, AllDefined}

pub AllDefined-push : (schema : VSchema) (t : Table) (join : Option Join) (qualified : List Bool) (n : ℕ) (items : List (Item ℕ)) (columns : List Column)
    (item : Item ℕ) (column : Column) → AllDefined schema t join qualified n items columns
    → DefinesItem schema t join (slice_index_or qualified (n + length columns) false) item column
    → AllDefined schema t join qualified n (items ++ item ∷ []) (columns ++ column ∷ [])
AllDefined-push schema t join qualified n [] [] item column all one =
    let same : n + 0 ≡ n = omega arith in
    (subst (λ k. DefinesItem schema t join (slice_index_or qualified k false) item column) same one, tt)
AllDefined-push schema t join qualified n [] (c ∷ columns) item column all one = absurd all
AllDefined-push schema t join qualified n (i ∷ items) [] item column all one = absurd all
AllDefined-push schema t join qualified n (i ∷ items) (c ∷ columns) item column all one =
    let same : n + suc (length columns) ≡ (n + 1) + length columns = omega arith in (
      all.0,
      AllDefined-push schema t join qualified (n + 1) items columns item column all.1
          (subst (λ k. DefinesItem schema t join (slice_index_or qualified k false) item column) same one),
    )

-- what isn't a column is an aggregate
pub defines_other : (schema : VSchema) (t : Table) (join : Option Join) (qualified : Bool) (shown : Item ℕ) (column : Column) → ((n : ℕ) → shown ≡ item.Column n → ⊥)
    → DefinesAggregate t qualified shown column → DefinesItem schema t join qualified shown column
defines_other schema t join qualified (item.Column n) column other is = absurd (other n refl)
defines_other schema t join qualified item.CountRows column other is = is
defines_other schema t join qualified (item.Count n) column other is = is
defines_other schema t join qualified (item.Sum n) column other is = is
defines_other schema t join qualified (item.Min n) column other is = is
defines_other schema t join qualified (item.Max n) column other is = is

-- which table of a pair has a column
pub owner_first : (schema : VSchema) (t : Table) (j : Join) (n : ℕ) → n < j.width → owner_of schema t (Some j) n ≡ (t, n)
owner_first schema t j n first = let is : nat_lt n j.width ≡ true = search rules in rw is refl

pub owner_second : (schema : VSchema) (t : Table) (j : Join) (n : ℕ) → j.width ≤ n
    → owner_of schema t (Some j) n ≡ (slice_index_or schema.tables j.table no_table, n - j.width)
owner_second schema t j n second = let is : nat_lt n j.width ≡ false = search rules in rw is refl
