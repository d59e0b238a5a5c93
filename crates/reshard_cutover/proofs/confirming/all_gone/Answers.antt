use Rattle.std.proofs.Common.{map, take, refl}
use Rattle.shard_run.specs.declared.ShardRecord.{ShardRecord}
use Rattle.follow.proofs.Turns.{unlooked}
use Rattle.shard_contents.proofs.Lists.{all-weaker}
use Rattle.shard_run.specs.declared.Event.TheVariants.{Retire}
use Rattle.reshard_cutover.specs.Looks.{IsGone}
use Rattle.reshard_cutover.proofs.Onward.{still, onward_trans, entry_later}
use Rattle.reshard_cutover.proofs.Retiring.{all_map_next}
use Rattle.reshard_cutover.proofs.Thaws.{look_next_of}
use Rattle.reshard_cutover.proofs.confirming.all_gone.Goals as goal

pub loop-source-init : goal.loop-source-init
loop-source-init g c =
    record { onward = still g.W.World.opening c.args.pass.now c.requires.legal; looked = unlooked c.args.pass.now c.args.pass.now refl; gone = tt }

pub loop-source-preserved : goal.loop-source-preserved
loop-source-preserved g c =
    let q = c.loop-source.pass in
    let now = c.confirm_gone.new.pass in
    record {
      onward = onward_trans g.W.World.opening c.args.pass.now q now c.loop-source.invariant.onward c.confirm_gone.ensures.onward;
      looked =
          look_next_of (λ s. s.member.which) (λ (s : ShardRecord). s.slot) c.args.sources.now c.loop-source.source-index c.source-item.result
          c.loop-source-test.true c.source-item.is c.args.pass.now q now c.loop-source.invariant.looked c.confirm_gone.ensures.looked;
      gone =
          all_map_next (IsGone now.seen) (λ s. s.member.which) c.args.sources.now c.loop-source.source-index c.source-item.result c.loop-source-test.true
          c.source-item.is
          (all-weaker (IsGone q.seen) (IsGone now.seen) (λ s h. (h.0, entry_later q.seen now.seen s (Retire h.0) c.confirm_gone.ensures.onward.later h.1))
          (map (λ s. s.member.which) (take c.loop-source.source-index c.args.sources.now)) c.loop-source.invariant.gone)
          c.confirm_gone.ensures.gone;
    }
