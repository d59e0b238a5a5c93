use Rattle.std.proofs.Common.{subst, refl}
use Rattle.std.specs.List.{AllByRecursion}
use Rattle.std.specs.Sync.Mutex.{mutex_guard_value}
use Rattle.shard.proofs.Progress.{take_whole}
use Rattle.reshard_cutover.specs.Turns.{HasLookedAt}
use Rattle.reshard_cutover.proofs.Turns.{unlooked}
use Rattle.reshard_cutover.proofs.Thaws.{look_next}
use Rattle.reshard_cutover.proofs.Onward.{still, onward_trans}
use Rattle.reshard_create.specs.Begun.{IsNotFollowing}
use Rattle.reshard_create.specs.Looked.{slots_of}
use Rattle.serving.specs.Partitions.{Seat}
use Rattle.reshard_create.specs.inner.Created.{HasSeen}
use Rattle.reshard_create.proofs.SeenShards.{seen_next, sighted_at}
use Rattle.reshard_create.proofs.looks.look_at_each.Goals as goal

pub loop-part-init : goal.loop-part-init
loop-part-init g c =
    record { onward = still g.W.World.opening c.args.pass.now c.requires.legal; looked = unlooked c.args.pass.now c.args.pass.now refl; seen = tt }

pub loop-part-preserved : goal.loop-part-preserved
loop-part-preserved g c =
    let o = g.W.World.opening in
    let s = (mutex_guard_value c.look_at-state.result).shard in
    let here =
    sighted_at o c.loop-part.pass c.look_at-state.new.pass c.args.keyspace IsNotFollowing c.part-item.result s c.look_at-state.ensures.onward.later
    c.look_at-state.ensures.sighted in
    record {
      onward = onward_trans o c.args.pass.now c.loop-part.pass c.look_at-state.new.pass c.loop-part.invariant.onward c.look_at-state.ensures.onward;
      looked =
          look_next (λ (x : Seat). x.0) c.args.parts.now c.loop-part.part-index c.part-item.result c.loop-part-test.true c.part-item.is c.args.pass.now
          c.loop-part.pass c.look_at-state.new.pass c.loop-part.invariant.looked c.look_at-state.ensures.looked;
      seen =
          seen_next o c.args.pass.now c.loop-part.pass c.look_at-state.new.pass c.args.keyspace IsNotFollowing c.args.parts.now c.loop-part.part-index c.part-item.result
          c.loop-part-test.true c.part-item.is c.loop-part.invariant.onward.later c.look_at-state.ensures.onward.later (s, here) c.loop-part.invariant.seen;
    }

pub returns-clause-seen : goal.returns-clause-seen
returns-clause-seen g c =
    subst (AllByRecursion (HasSeen g.W.World.opening c.args.pass.now c.loop-part.pass c.args.keyspace IsNotFollowing))
    (take_whole c.loop-part.part-index c.args.parts.now c.loop-part-test.false) c.loop-part.invariant.seen

pub returns-clause-looked : goal.returns-clause-looked
returns-clause-looked g c =
    subst (λ l. HasLookedAt (slots_of l) c.args.pass.now c.loop-part.pass) (take_whole c.loop-part.part-index c.args.parts.now c.loop-part-test.false)
    c.loop-part.invariant.looked
