-- Routes of conditions on t and u.
use Rattle.std.proofs.Common.{◌≡◌, ℕ, List, [], ◌∷◌, refl, Option, Some, None, pos, negsuc, rules, false}
use Rattle.std.specs.Int.{reverse_bits_onto}
use Rattle.vt_value.specs.declared.value.Value.{Value}
use Rattle.vt_value.specs.declared.value.Value.TheVariants.{Null, Int, Bytes}
use Rattle.vt_value.specs.declared.value.Comparison.TheVariants.{Eq}
use Rattle.keyrange.specs.declared.KeyRange.{KeyRange}
use Rattle.sql_tree.specs.declared.Operand.TheVariants.{Column, Literal}
use Rattle.sql_tree.specs.declared.Condition.{Condition, Compare, In, Not, And, Or, the_lemmas}
use Rattle.sql_tree.specs.declared.Item.{Item}
use Rattle.sql_tree.specs.declared.Item.TheVariants as item
use Rattle.sql_tree.specs.declared.Key.{Key}
use Rattle.sql_tree.specs.declared.LimitClause.{LimitClause}
use Rattle.vschema.specs.ColumnType.TheVariants.{VarBinary}
use Rattle.vschema.specs.declared.schema.Join.{Join}
use Rattle.vschema.specs.declared.schema.Query.{Query}
use Rattle.vschema.specs.declared.changes.Write.TheVariants.{Insert, Update, Delete}
use Rattle.vschema.proofs.Example.{schema, t, u}
use Rattle.planner.specs.declared.routes.Route.TheVariants as route
use Rattle.planner.specs.Plans.{pushed, finish_of}
use Rattle.planner.specs.Routes.{route_of, write_route, taken_ordinals}

abbrev n : ℕ → Value
n k = Int (pos k)

abbrev id_is : Value → Condition ℕ
id_is v = Compare Eq (Column 0) (Literal v)

abbrev c_is : Value → Condition ℕ
c_is v = Compare Eq (Column 1) (Literal v)

-- id = 5 OR c = 1; NOT id = 5; id = 5 AND id = 6; 5 = id
either : route_of t None (Some (Or (id_is (n 5) ∷ c_is (n 1) ∷ []))) ≡ route.Scatter
either = search (rules, the_lemmas)

negated : route_of t None (Some (Not (id_is (n 5)))) ≡ route.Scatter
negated = search (rules, the_lemmas)

both : route_of t None (Some (And (id_is (n 5) ∷ id_is (n 6) ∷ []))) ≡ route.EqualUnique (n 5)
both = search (rules, the_lemmas)

turned : route_of t None (Some (Compare Eq (Literal (n 5)) (Column 0))) ≡ route.EqualUnique (n 5)
turned = search (rules, the_lemmas)

-- c = 1 AND (id IN (1, 2) AND id = 6): nested ANDs are opened, and an equality goes before an IN
nested : route_of t None (Some (And (c_is (n 1) ∷ And (In (Column 0) (n 1 ∷ n 2 ∷ []) ∷ id_is (n 6) ∷ []) ∷ []))) ≡ route.EqualUnique (n 6)
nested = search (rules, the_lemmas)

-- id = NULL, id = -1, c = NULL OR id = 1
null_key : route_of t None (Some (id_is Null)) ≡ route.None
null_key = search (rules, the_lemmas)

negative : route_of t None (Some (id_is (Int (negsuc 0)))) ≡ route.None
negative = search (rules, the_lemmas)

null_or : route_of t None (Some (Or (c_is Null ∷ id_is (n 1) ∷ []))) ≡ route.Scatter
null_or = search (rules, the_lemmas)

-- id IN (1, NULL, 2), id IN (NULL), id IN (-1)
members : route_of t None (Some (In (Column 0) (n 1 ∷ Null ∷ n 2 ∷ []))) ≡ route.In (n 1 ∷ n 2 ∷ [])
members = search (rules, the_lemmas)

null_members : route_of t None (Some (In (Column 0) (Null ∷ []))) ≡ route.None
null_members = search (rules, the_lemmas)

negative_members : route_of t None (Some (In (Column 0) (Int (negsuc 0) ∷ []))) ≡ route.None
negative_members = search (rules, the_lemmas)

-- tables without a condition, and without a vindex
all_of_t : route_of t None None ≡ route.Scatter
all_of_t = refl

unsharded : route_of u None (Some (c_is Null)) ≡ route.Unsharded
unsharded = refl

inserted : write_route schema (Insert 0 ((n 7 ∷ n 1 ∷ []) ∷ (n 8 ∷ Null ∷ []) ∷ [])) ≡ route.In (n 7 ∷ n 8 ∷ [])
inserted = refl

inserted_unsharded : write_route schema (Insert 2 ((n 7 ∷ Null ∷ []) ∷ [])) ≡ route.Unsharded
inserted_unsharded = refl

deleted : write_route schema (Delete 0 (Some (id_is (n 3)))) ≡ route.EqualUnique (n 3)
deleted = search (rules, the_lemmas)

updated : write_route schema (Update 0 [] None) ≡ route.Scatter
updated = refl

abbrev low : KeyRange
low = record { begin = []; end = Some (0x80 ∷ []) }

abbrev high : KeyRange
high = record { begin = 0x80 ∷ []; end = None }

-- odd ids lie in the high half, even ids in the low one
five : taken_ordinals t (route.EqualUnique (n 5)) (low ∷ high ∷ []) ≡ 1 ∷ []
unfolding reverse_bits_onto
five = refl

odd_members : taken_ordinals t (route.In (n 1 ∷ n 3 ∷ [])) (low ∷ high ∷ []) ≡ 1 ∷ []
unfolding reverse_bits_onto
odd_members = refl

each : taken_ordinals t route.Scatter (low ∷ high ∷ []) ≡ 0 ∷ 1 ∷ []
each = refl

no_shard : taken_ordinals t route.None (low ∷ high ∷ []) ≡ []
no_shard = refl

-- SELECT c, COUNT(*) FROM t GROUP BY c ORDER BY c LIMIT 1: each shard gives all its groups, and the limit is the finish's
abbrev counts : List (Item ℕ) → List (Key ℕ) → Option LimitClause → Query
counts items order_by limit = record { table = 0; join = None; items = items; qualified = []; filter = None; group_by = 1 ∷ []; order_by = order_by; limit = limit }

abbrev by_c : Query
by_c = counts (item.Column 1 ∷ item.CountRows ∷ []) (record { column = 1; descending = false } ∷ []) (Some (record { count = 1; offset = 0 }))

shard_counts : pushed by_c ≡ counts (item.Column 1 ∷ item.CountRows ∷ []) [] None
shard_counts = refl

joined_counts : finish_of by_c
    ≡ record {
      grouping = Some (record { width = 1; aggregates = item.CountRows ∷ []; hashing = tt });
      columns = 0 ∷ 1 ∷ [];
      order_by = record { column = 0; descending = false } ∷ [];
      limit = Some (record { count = 1; offset = 0 });
    }
joined_counts = refl

-- the unsharded keyspace's own shard is none of these
apart : taken_ordinals t route.Unsharded (low ∷ high ∷ []) ≡ []
apart = refl

-- a join of t with a table whose key column, of texts of at most 2 bytes, is the third of a pair
abbrev with_texts : Join
with_texts = record { table = 1; width = 2; first = 0; second = 2; kind = VarBinary 2 }

abbrev other_is : Value → Condition ℕ
other_is v = Compare Eq (Column 2) (Literal v)

-- the leftmost conjunct on either column decides, by that column's type
first_key : route_of t (Some with_texts) (Some (And (id_is (n 5) ∷ other_is (Bytes (1 ∷ [])) ∷ []))) ≡ route.EqualUnique (n 5)
first_key = search (rules, the_lemmas)

second_key_first : route_of t (Some with_texts) (Some (And (other_is (Bytes (1 ∷ [])) ∷ id_is (n 5) ∷ []))) ≡ route.EqualUnique (Bytes (1 ∷ []))
second_key_first = search (rules, the_lemmas)

too_long_for_it : route_of t (Some with_texts) (Some (other_is (Bytes (1 ∷ 2 ∷ 3 ∷ [])))) ≡ route.None
too_long_for_it = search (rules, the_lemmas)
