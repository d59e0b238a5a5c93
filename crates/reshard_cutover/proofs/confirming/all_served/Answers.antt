use Rattle.std.proofs.Common.{map, take, refl}
use Rattle.follow.proofs.Turns.{unlooked}
use Rattle.shard_contents.proofs.Lists.{all-weaker}
use Rattle.shard_run.specs.declared.Event.TheVariants.{Serve}
use Rattle.reshard_cutover.specs.Looks.{HasBegunToServe}
use Rattle.reshard_cutover.specs.TargetSources.{TargetWithSources}
use Rattle.reshard_cutover.proofs.Onward.{still, onward_trans, entry_later}
use Rattle.reshard_cutover.proofs.Retiring.{all_map_next}
use Rattle.reshard_cutover.proofs.Thaws.{look_next_of}
use Rattle.reshard_cutover.proofs.confirming.all_served.Goals as goal

pub loop-target-init : goal.loop-target-init
loop-target-init g c =
    record { onward = still g.W.World.opening c.args.pass.now c.requires.legal; looked = unlooked c.args.pass.now c.args.pass.now refl; served = tt }

pub loop-target-preserved : goal.loop-target-preserved
loop-target-preserved g c =
    let q = c.loop-target.pass in
    let now = c.confirm_served.new.pass in
    record {
      onward = onward_trans g.W.World.opening c.args.pass.now q now c.loop-target.invariant.onward c.confirm_served.ensures.onward;
      looked =
          look_next_of (λ t. (t.member.which, map (λ s. s.which) t.sources.items)) (λ (t : TargetWithSources). t.0.slot) c.args.targets.now
          c.loop-target.target-index c.target-item.result c.loop-target-test.true c.target-item.is c.args.pass.now q now c.loop-target.invariant.looked
          c.confirm_served.ensures.looked;
      served =
          all_map_next (λ (t : TargetWithSources). HasBegunToServe now.seen t.0) (λ t. (t.member.which, map (λ s. s.which) t.sources.items)) c.args.targets.now
          c.loop-target.target-index c.target-item.result c.loop-target-test.true c.target-item.is
          (all-weaker (λ (t : TargetWithSources). HasBegunToServe q.seen t.0) (λ (t : TargetWithSources). HasBegunToServe now.seen t.0)
          (λ t h. entry_later q.seen now.seen t.0 Serve c.confirm_served.ensures.onward.later h)
          (map (λ t. (t.member.which, map (λ s. s.which) t.sources.items)) (take c.loop-target.target-index c.args.targets.now)) c.loop-target.invariant.served)
          c.confirm_served.ensures.served;
    }
