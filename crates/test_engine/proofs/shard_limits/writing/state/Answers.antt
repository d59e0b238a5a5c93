use Rattle.std.proofs.Common.{[], refl}
use Rattle.shard_contents.proofs.Lists.{Contains-from_In}
use Rattle.shard_contents.proofs.Legality.{on_its_slot}
use Rattle.shard_contents.specs.Entries.{opening_shards}
use Rattle.std.proofs.Common.{inl}
use Rattle.test_engine.specs.shard_limits.SmallWorld.{small_opening, small_shard}
use Rattle.test_engine.proofs.shard_limits.SmallWorld.{opens}
use Rattle.test_engine.proofs.shard_limits.writing.state.Goals as goal

pub new-requires-clause-opens : goal.new-requires-clause-opens
new-requires-clause-opens g c = opens

pub new-requires-clause-stands : goal.new-requires-clause-stands
new-requires-clause-stands g c =
    rw (c.requires, c.shard.ensures)
    (on_its_slot small_opening opens small_shard (Contains-from_In small_shard (opening_shards small_opening) (inl refl)) [] tt)
