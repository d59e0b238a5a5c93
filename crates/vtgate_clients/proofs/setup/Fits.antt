-- Ranges that a word tells fit the VSchema.
use Rattle.std.proofs.Common.{◌≡◌, ℕ, zero, suc, ◌+◌, ◌≤◌, ◌<◌, Bool, true, false, not, ◌||◌, cond, List, [], ◌∷◌, ◌++◌, length, Option, Some, None, refl, ap, arith}
use Rattle.std.specs.List.{All, AllByRecursion, list_any}
use Rattle.std.proofs.lemmas.Bool.{true≢false}
use Rattle.std.proofs.lemmas.List.Sorted.{All-permutation}
use Rattle.keyrange.specs.declared.KeyRange.{KeyRange}
use Rattle.keyrange.specs.Names.{IsNamed}
use Rattle.vschema.specs.declared.schema.Keyspace.{Keyspace}
use Rattle.vschema.specs.declared.schema.VSchema.{VSchema}
use Rattle.vschema.specs.Schema.{ordinal_from}
use Rattle.shard_run.specs.opening.Empty.{unsharded_keyspace, sharded_keyspace, full_range, shards_from, keyspace_shards, empty_shards, FitRanges}
use Rattle.shard_run.proofs.opening.Opens.{fit_from}
use Rattle.vtgate_lines.specs.Partitions.{IsListOf, NamesPartition}
use Rattle.vtgate_lines.specs.Partitions as p

named_list : (text : List ℕ) (ranges : List KeyRange) → IsListOf text ranges → AllByRecursion IsNamed ranges
named_list _ _ (p.last named) = (named.0, tt)
named_list _ _ (p.more {rest} {ranges} named others) = (named.0, named_list rest ranges others)

-- ---- how many shards there are

length_from : (n keyspace : ℕ) (ranges : List KeyRange) → length (shards_from n keyspace ranges) ≡ length ranges
length_from n keyspace [] = refl
length_from n keyspace (r ∷ ranges) = ap suc (length_from (n + 1) keyspace ranges)

length_of : (n : ℕ) (k : Option ℕ) (ranges : List KeyRange) → length (keyspace_shards n k ranges) ≤ length ranges
length_of n None ranges = omega arith
length_of n (Some k) ranges = let e = length_from n k ranges in omega (arith, e)

none_placed : (p : Keyspace → Bool) (n : ℕ) (ks : List Keyspace) → list_any p ks ≡ false → ordinal_from p n ks ≡ None
none_placed p n [] e = refl
none_placed p n (k ∷ ks) e = by (p k) e (none_placed p (n + 1) ks)
  where
    by : (b : Bool) → (b || list_any p ks) ≡ false → (list_any p ks ≡ false → ordinal_from p (n + 1) ks ≡ None)
        → cond b (Some n) (ordinal_from p (n + 1) ks) ≡ None
    by true i f = absurd (true≢false i)
    by false i f = f i

-- fewer than 64 ranges leave a slot for one shard more
pub one_more_fits : (schema : VSchema) (ranges : List KeyRange) → length ranges < 64 → length (empty_shards schema ranges) ≤ 64
one_more_fits schema ranges few = by (unsharded_keyspace schema)
  where
    by : (k : Option ℕ) → length (keyspace_shards 0 k (full_range ∷ []) ++ keyspace_shards (length (keyspace_shards 0 k (full_range ∷ []))) (sharded_keyspace schema) ranges) ≤ 64
    by None = let l = length_of 0 (sharded_keyspace schema) ranges in omega (arith, l, few)
    by (Some k) = let l = length_of 1 (sharded_keyspace schema) ranges in omega (arith, l, few)

-- without an unsharded keyspace each range has a shard, and there is no other
pub sharded_fits : (schema : VSchema) (ranges : List KeyRange) → list_any (λ k. not k.sharded) schema.keyspaces ≡ false → length ranges ≤ 64
    → length (empty_shards schema ranges) ≤ 64
sharded_fits schema ranges none few = by (unsharded_keyspace schema) (none_placed (λ k. not k.sharded) 0 schema.keyspaces none)
  where
    by : (k : Option ℕ) → k ≡ None
        → length (keyspace_shards 0 k (full_range ∷ []) ++ keyspace_shards (length (keyspace_shards 0 k (full_range ∷ []))) (sharded_keyspace schema) ranges) ≤ 64
    by None e = let l = length_of 0 (sharded_keyspace schema) ranges in omega (arith, l, few)
    by (Some k) e = absurd (cc e)

-- ---- ranges that a word tells

module _ {X : Type 0} (P : X → Type 0) where
  to_all : (xs : List X) → AllByRecursion P xs → All P xs
  to_all [] h k d l = absurd (omega (arith, l))
  to_all (x ∷ xs) h zero d l = h.0
  to_all (x ∷ xs) h (suc k) d l = to_all xs h.1 k d (omega (arith, l))

  from_all : (xs : List X) → All P xs → AllByRecursion P xs
  from_all [] h = tt
  from_all (x ∷ xs) h = (h zero x (omega arith), from_all xs (λ k d l. h (suc k) d (omega (arith, l))))

pub fits : (schema : VSchema) (word : List ℕ) (ranges : List KeyRange) → NamesPartition word ranges → length (empty_shards schema ranges) ≤ 64
    → FitRanges schema ranges
fits schema word ranges told slots =
    fit_from schema ranges
    (from_all IsNamed ranges (All-permutation IsNamed told.written ranges told.same (to_all IsNamed told.written (named_list word told.written told.named))))
    told.cover slots
