-- The small world of the tests begins rightly, and its writes are typed and lie on its shard.
use Rattle.std.proofs.Common.{◌≡◌, ℕ, zero, suc, ◌<◌, [], ◌∷◌, length, refl, sym, lit<, inl, inr, arith, None, pos, codes, Contains}
use Rattle.keyrange.specs.Ranges.{Cover}
use Rattle.keyrange.specs.Names.{IsNamed}
use Rattle.keyrange.proofs.CoverExample.{full_covers}
use Rattle.vt_value.specs.declared.value.Value.TheVariants.{Null, Int}
use Rattle.vschema.specs.TypedWrites.{IsTypedWrite, insert, update, delete}
use Rattle.shard_run.specs.declared.ShardRecord.{ShardRecord}
use Rattle.shard_run.specs.Openings.{IsOpening, shards_in}
use Rattle.shard_contents.proofs.Lists.{In-from_Contains}
use Rattle.shard_contents.specs.Entries.{opening_shards}
use Rattle.test_engine.specs.shard_limits.SmallWorld.{small_schema, small_shard, small_opening}
use Rattle.test_engine.specs.shard_limits.inner.SmallWorld.{insert_of, update_all, delete_all}

named : IsNamed small_shard.place.range
named = ((refl, omega arith, inl refl), tt)

covers : (keyspace : ℕ) → keyspace < length small_schema.keyspaces → Cover (Rattle.std.specs.Prelude.map (λ (s : ShardRecord). s.place.range) (shards_in small_opening keyspace))
covers zero l = full_covers
covers (suc k) l = absurd (omega (arith, l))

pub opens : IsOpening small_opening
opens = record {
  each = (record { slot = lit< tt; keyspace = omega arith; range = named; no_sources = refl; rows = refl; inside = refl; room = omega arith }, tt);
  slots = λ i j d before within. absurd (omega (arith, before, within));
  ranges = covers;
}

pub typed_insert : (id : ℕ) → id < 4 → IsTypedWrite small_schema (insert_of id)
typed_insert id l = by id l
  where
    by : (id : ℕ) → id < 4 → IsTypedWrite small_schema (insert_of id)
    by zero l = insert (record { table = codes "t"; columns = None; rows = (Int (pos 0) ∷ Null ∷ []) ∷ [] }) refl
    by (suc zero) l = insert (record { table = codes "t"; columns = None; rows = (Int (pos 1) ∷ Null ∷ []) ∷ [] }) refl
    by (suc (suc zero)) l = insert (record { table = codes "t"; columns = None; rows = (Int (pos 2) ∷ Null ∷ []) ∷ [] }) refl
    by (suc (suc (suc zero))) l = insert (record { table = codes "t"; columns = None; rows = (Int (pos 3) ∷ Null ∷ []) ∷ [] }) refl
    by (suc (suc (suc (suc k)))) l = absurd (omega (arith, l))

pub typed_update : IsTypedWrite small_schema update_all
typed_update = update (record { table = codes "t"; assignments = record { column = codes "c"; value = Int (pos 7) } ∷ []; filter = None }) refl

pub typed_delete : IsTypedWrite small_schema delete_all
typed_delete = delete (record { table = codes "t"; filter = None }) refl

-- the one shard
pub only_shard : (s : ShardRecord) → Contains (opening_shards small_opening) s → s ≡ small_shard
only_shard s h = by (In-from_Contains s (opening_shards small_opening) h)
  where
    by : Rattle.shard_contents.proofs.Lists.In s (opening_shards small_opening) → s ≡ small_shard
    by (inl e) = sym e
    by (inr h) = absurd h
