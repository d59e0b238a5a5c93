-- A shard that a route skips holds no row for which the condition is true.
use Rattle.std.proofs.Common.{◌≡◌, ℕ, Bool, true, false, cond, List, [], ◌∷◌, filter, Option, Some, None, refl, sym, subst, ◌∙◌}
use Rattle.std.specs.Prelude.{◌||◌}
use Rattle.std.specs.List.{AllByRecursion, list_any}
use Rattle.vt_value.specs.declared.value.Value.{Value}
use Rattle.vt_value.specs.declared.value.Value.TheVariants.{Null, Int, Bytes}
use Rattle.vt_value.specs.declared.value.Comparison.TheVariants.{Eq}
use Rattle.vt_value.specs.Values.{Row, value_at, is_null, is_true, compare}
use Rattle.keyrange.specs.declared.KeyRange.{KeyRange}
use Rattle.keyrange.specs.Ranges.{has_id}
use Rattle.sql_tree.specs.declared.Condition.{Condition}
use Rattle.vschema.specs.ColumnType.{ColumnType}
use Rattle.vschema.specs.declared.schema.Join.{Join}
use Rattle.vschema.specs.declared.schema.Query.{Query}
use Rattle.vschema.specs.declared.schema.Table.{Table}
use Rattle.vschema.specs.declared.schema.VSchema.{VSchema}
use Rattle.vschema.specs.Sources.{source_rows}
use Rattle.sql_eval.specs.Conditions.{truth_at, is_kept}
use Rattle.planner.specs.declared.plans.Plan.{Plan}
use Rattle.planner.specs.declared.keys.Keys.{Keys}
use Rattle.planner.specs.Routes.{equals, among, first_of, is_held, route_among, route_by, filter_route, keys_of, route_through, route_of, id_of, takes, table_at}
use Rattle.planner.specs.Plans.{ShardRows}
use Rattle.planner.specs.Right.{SkipsNothing}
use Rattle.planner.proofs.TrueConditions.{equals_one, IsSaid, IsSaidAmong, says, same_values}
use Rattle.planner.proofs.Placed.{at_contains, AreKeysHome, IsHome, key_home, sources_home}

pub not_null : (a b : Value) → is_true (compare Eq a b) ≡ true → is_null a ≡ false
not_null Null b e = cc
not_null (Int n) b e = refl
not_null (Bytes t) b e = refl

some_not_null : (v : Value) (members : List Value) → equals_one v members ≡ true → is_null v ≡ false
some_not_null v [] e = cc
some_not_null v (m ∷ members) e = by (is_true (compare Eq v m)) refl (some_not_null v members) e
  where
    by : (b : Bool) → is_true (compare Eq v m) ≡ b → (equals_one v members ≡ true → is_null v ≡ false) → (b || equals_one v members) ≡ true → is_null v ≡ false
    by true same rest e = not_null v m same
    by false same rest e = rest e

-- a value that is a member, and that passes both tests, is found among the members that pass the first
found : (p f : Value → Bool) (v : Value) (members : List Value) → p v ≡ true → f v ≡ true → equals_one v members ≡ true → list_any f (filter p members) ≡ true
found p f v [] pv fv e = cc
found p f v (m ∷ members) pv fv e = by (is_true (compare Eq v m)) refl (found p f v members pv fv) e
  where
    here : v ≡ m → list_any f (filter p (m ∷ members)) ≡ true
    here same =
        let pm : p m ≡ true = subst (λ x. p x ≡ true) same pv in
        let fm : f m ≡ true = subst (λ x. f x ≡ true) same fv in
        rw (pm, fm) refl

    later : (b : Bool) → list_any f (filter p members) ≡ true → list_any f (cond b (m ∷ filter p members) (filter p members)) ≡ true
    later true e = by_first (f m) e
      where
        by_first : (b : Bool) → list_any f (filter p members) ≡ true → (b || list_any f (filter p members)) ≡ true
        by_first true e = refl
        by_first false e = e
    later false e = e

    by : (b : Bool) → is_true (compare Eq v m) ≡ b → (equals_one v members ≡ true → list_any f (filter p members) ≡ true)
        → (b || equals_one v members) ≡ true → list_any f (filter p (m ∷ members)) ≡ true
    by true same rest e = here (same_values v m same)
    by false same rest e = later (p m) (rest e)

takes_some : (t : Table) (range : KeyRange) (values : List Value) → list_any (λ v. has_id range (id_of t v)) values ≡ true
    → takes t (route_among values) range ≡ true
takes_some t range [] e = cc
takes_some t range (v ∷ values) e = e

module _ (t : Table) (shard : ShardRows) (row : Row) (keys : Keys) (home : AreKeysHome t shard row keys) where
  by_literal : (p : ColumnType × Value) (lists : Option (ColumnType × List Value)) → IsSaid row keys p → takes t (route_by (Some p) lists) shard.0 ≡ true
  by_literal p lists said =
      let key = key_home t shard row keys home said.column p.0 said.is in
      let same = same_values (value_at row said.column) p.1 said.equal in
      let held : is_held p.0 p.1 ≡ true =
      subst (λ y. is_held p.0 y ≡ true) same (key.holds (not_null (value_at row said.column) p.1 said.equal)) in
      let inside : has_id shard.0 (id_of t p.1) ≡ true = subst (λ y. has_id shard.0 (id_of t y) ≡ true) same key.lies in
      rw held inside

  by_members : (p : ColumnType × List Value) → IsSaidAmong row keys p → takes t (route_by None (Some p)) shard.0 ≡ true
  by_members p said =
      let key = key_home t shard row keys home said.column p.0 said.is in
      takes_some t shard.0 (filter (is_held p.0) p.1)
      (found (is_held p.0) (λ x. has_id shard.0 (id_of t x)) (value_at row said.column) p.1
      (key.holds (some_not_null (value_at row said.column) p.1 said.inside)) key.lies said.inside)

  by_conjuncts : (literals : List (ColumnType × Value)) (lists : List (ColumnType × List Value)) → AllByRecursion (IsSaid row keys) literals
      → AllByRecursion (IsSaidAmong row keys) lists → takes t (route_by (first_of literals) (first_of lists)) shard.0 ≡ true
  by_conjuncts [] [] equal inside = refl
  by_conjuncts [] (p ∷ lists) equal inside = by_members p inside.0
  by_conjuncts (p ∷ literals) lists equal inside = by_literal p (first_of lists) equal.0

  by_condition : (c : Condition ℕ) → is_true (truth_at row c) ≡ true → takes t (filter_route keys (Some c)) shard.0 ≡ true
  by_condition c e =
      let facts = says row c e in
      let possible = facts.possible in
      rw possible (by_conjuncts (equals keys c) (among keys c) (facts.equal keys) (facts.inside keys))

  by_filter : (filter' : Option (Condition ℕ)) → is_kept filter' row ≡ true → takes t (filter_route keys filter') shard.0 ≡ true
  by_filter None e = refl
  by_filter (Some c) e = by_condition c e

-- a shard with a row that is kept is taken
taken : (t : Table) (keys : Option Keys) (shard : ShardRows) (row : Row) → IsHome t keys shard row → (filter' : Option (Condition ℕ)) → is_kept filter' row ≡ true
    → takes t (route_through keys filter') shard.0 ≡ true
taken t None shard row home filter' e = home
taken t (Some keys) shard row home filter' e = by_filter t shard row keys home filter' e

none_kept : (kept taken : Bool) → (kept ≡ true → taken ≡ true) → taken ≡ false → kept ≡ false
none_kept true taken h e = sym (h refl) ∙ e
none_kept false taken h e = refl

pub skipped : (t : Table) (join : Option Join) (shard : ShardRows) (filter' : Option (Condition ℕ)) (row : Row) → IsHome t (keys_of t join) shard row
    → takes t (route_of t join filter') shard.0 ≡ false → is_kept filter' row ≡ false
skipped t join shard filter' row home e =
    none_kept (is_kept filter' row) (takes t (route_of t join filter') shard.0) (taken t (keys_of t join) shard row home filter') e

pub skips : (schema : VSchema) (q : Query) (p : Plan) → p.route ≡ route_of (table_at schema q.table) q.join q.filter → SkipsNothing schema q p
skips schema q p by joins shard placed e row h =
    skipped (table_at schema q.table) q.join shard q.filter row
    (at_contains (IsHome (table_at schema q.table) (keys_of (table_at schema q.table) q.join) shard) (source_rows q shard.1) row (sources_home schema q joins shard placed) h)
    (subst (λ r. takes (table_at schema q.table) r shard.0 ≡ false) by e)
