use Rattle.std.proofs.Common.{map, take, List}
use Rattle.std.specs.Prelude.{IsTrue, Contains}
use Rattle.shard_contents.proofs.Legality.{legal_is}
use Rattle.shard_run.specs.declared.ShardRecord.{ShardRecord}
use Rattle.reshard_cutover.specs.Steps.{Looked, has_source, IsRetired}
use Rattle.follow.specs.Turns as turns
use Rattle.follow.proofs.Turns.{one_more_turn, all_took_turns}
use Rattle.reshard_cutover.specs.Looks.{HasLookedOnlyAt}
use Rattle.reshard_cutover.proofs.Onward.{still, onward_trans}
use Rattle.reshard_cutover.proofs.Retiring.{all_map_next, are_retired_later}
use Rattle.reshard_cutover.proofs.confirming.confirm_retired.Goals as goal

pub loop-source-preserved : goal.loop-source-preserved
loop-source-preserved g c =
    let o = g.W.World.opening in
    let q = c.loop-source.pass in
    let now = c.confirm_own.new.pass in
    let t = c.args.target.now in
    record {
      onward = onward_trans o c.args.pass.now q now c.loop-source.invariant.onward c.confirm_own.ensures.onward;
      retired =
          all_map_next (λ (s : Looked). IsTrue (has_source s.0.slot t) → (targets : List ShardRecord) × IsRetired now.seen s targets × Contains targets t)
          (λ s. (s.member.which, s.stored)) c.args.sources.now c.loop-source.source-index c.source-item.result c.loop-source-test.true c.source-item.is
          (are_retired_later o c.requires.opens q.seen now.seen c.confirm_own.ensures.onward.later (legal_is o now.seen c.confirm_own.ensures.onward.legal) t
          (map (λ s. (s.member.which, s.stored)) (take c.loop-source.source-index c.args.sources.now)) c.loop-source.invariant.retired)
          c.confirm_own.ensures.retired;
      looked =
          one_more_turn (λ s. s.member.which) c.args.sources.now c.loop-source.source-index c.source-item.result c.loop-source-test.true c.source-item.is
          (λ s. HasLookedOnlyAt s.slot) c.args.pass.now q now c.loop-source.invariant.looked c.confirm_own.ensures.alone;
    }

pub loop-source-init : goal.loop-source-init
loop-source-init g c =
    record { onward = still g.W.World.opening c.args.pass.now c.requires.legal; retired = tt; looked = turns.none }

pub returns-clause-looked : goal.returns-clause-looked
returns-clause-looked g c =
    all_took_turns (λ s. s.member.which) c.args.sources.now c.loop-source.source-index c.loop-source-test.false (λ s. HasLookedOnlyAt s.slot) c.args.pass.now
    c.loop-source.pass c.loop-source.invariant.looked
