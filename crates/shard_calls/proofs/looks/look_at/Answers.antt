use Rattle.std.proofs.Common.{refl}
use Rattle.shard_calls.proofs.Finding.{served_at}
use Rattle.shard_calls.proofs.looks.look_at.Goals as goal

pub returns : goal.returns
returns g c =
    let is = c.begin_read_for-begun.ensures.begun in
    let past = c.begin_read_for-begun.ensures.past in
    record {
      slot = c.slot-slot.ensures;
      query = refl;
      shard = is.0;
      stands = is.1;
      served = served_at g.W.World.opening c.begin_read_for-begun.new.pass.seen is.0 c.args.job.shard.now.0 is.1 is.2 past;
      on_slot = is.2;
      in_place = is.3;
      looked = is.4;
      begun = rw c.get.ensures at is.5;
    }
