use Rattle.std.proofs.Common.{refl}
use Rattle.test_engine.specs.shard_limits.SmallWorld.{small_shard}
use Rattle.test_engine.proofs.shard_limits.Here.{here_read}
use Rattle.test_engine.proofs.shard_limits.playing.Session.rows_by.Goals as goal

pub returns-in-Ok : goal.returns-in-Ok
returns-in-Ok g c =
    record {
      tied =
          here_read c.args.tx.now c.read_in.new.tx c.args.self.now.pass c.read_in.new.pass small_shard.place refl c.requires.tied c.args.query.now
          c.read_in.result (rw c.args.self.now.here at c.read_in.ensures.read);
    }

pub returns-in-Err : goal.returns-in-Err
returns-in-Err g c =
    record {
      tied =
          here_read c.args.tx.now c.read_in.new.tx c.args.self.now.pass c.read_in.new.pass small_shard.place refl c.requires.tied c.args.query.now
          c.read_in.result (rw c.args.self.now.here at c.read_in.ensures.read);
    }
