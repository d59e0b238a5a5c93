use Rattle.std.proofs.Common.{map}
use Rattle.shard_contents.proofs.Lists.{all-weaker}
use Rattle.shard_run.specs.declared.Event.TheVariants.{Retire}
use Rattle.shard_run.specs.declared.ShardRecord.{ShardRecord}
use Rattle.follow.proofs.Turns.{looked_then}
use Rattle.reshard_cutover.specs.TargetSources.{TargetWithSources}
use Rattle.reshard_cutover.specs.Looks.{IsGone}
use Rattle.reshard_cutover.proofs.Onward.{entry_later}
use Rattle.reshard_cutover.proofs.confirming.confirm_cutover.Goals as goal

pub returns-clause-through : goal.returns-clause-through
returns-clause-through g c =
    let q = c.all_gone.new.pass in
    let now = c.all_served.new.pass in
    record {
      gone =
          all-weaker (IsGone q.seen) (IsGone now.seen) (λ s h. (h.0, entry_later q.seen now.seen s (Retire h.0) c.all_served.ensures.onward.later h.1))
          (map (λ s. s.member.which) c.args.sources.now) c.all_gone.ensures.gone;
      served = c.all_served.ensures.served;
    }

pub returns-clause-looked : goal.returns-clause-looked
returns-clause-looked g c =
    looked_then (map (λ (s : ShardRecord). s.slot) (map (λ s. s.member.which) c.args.sources.now))
    (map (λ (t : TargetWithSources). t.0.slot) (map (λ t. (t.member.which, map (λ s. s.which) t.sources.items)) c.args.targets.now)) c.args.pass.now
    c.all_gone.new.pass c.all_served.new.pass c.all_gone.ensures.looked c.all_served.ensures.looked
