use Rattle.shard_contents.proofs.Typed.{table_there}
use Rattle.std.proofs.Common.{refl}
use Rattle.test_engine.specs.shard_limits.SmallWorld.{small_schema, small_shard}
use Rattle.test_engine.proofs.shard_limits.Here.{here_written}
use Rattle.test_engine.proofs.shard_limits.playing.Session.write_in.Goals as goal

pub returns : goal.returns
returns g c =
    record {
      tied =
          here_written c.args.tx.now c.write_in.new.tx c.args.self.now.pass c.write_in.new.pass small_shard.place refl c.requires.tied c.args.write
          c.write_in.result c.requires.typed c.requires.placed (rw c.args.self.now.here at c.write_in.ensures.written);
    }

pub write_in-requires-clause-there : goal.write_in-requires-clause-there
write_in-requires-clause-there g c = table_there small_schema c.args.write c.requires.typed
