use Rattle.std.proofs.Common.{◌≡◌, sym, ap, ◌∙◌, subst}
use Rattle.std.specs.Sync.Mutex.{mutex_guard_value}
use Rattle.shard_run.specs.Runs.{Run, mode}
use Rattle.shard_law.specs.Entries.{ShardView}
use Rattle.reshard_create.specs.Begun.{IsServing, IsAway}
use Rattle.reshard_create.specs.inner.Created.{IsSeenAt}
use Rattle.reshard_create.proofs.SeenShards.{sighted_at}
use Rattle.reshard_create.proofs.targets.source_of.Goals as goal

pub returns-then-not-serves-clause-found : goal.returns-then-not-serves-clause-found
returns-then-not-serves-clause-found g c =
    let o = g.W.World.opening in
    let now = c.look_at-state.new.pass in
    let v = mutex_guard_value c.look_at-state.result in
    let is = c.look_at-state.ensures.sighted in (
      v.shard,
      sighted_at o c.args.pass.now now c.args.keyspace IsAway c.args.part.now v.shard c.look_at-state.ensures.onward.later
          (record {
            on = is.on;
            at = is.at;
            of_run = is.of_run;
            such = (
              is.such,
              λ serving. c.serves.ensures.no c.if-not-serves.true
                  (ap (λ (x : ShardView). mode o x.seen x.shard.slot) c.deref.ensures ∙ ap (λ (r : Run). mode o r v.shard.slot) c.look_at-state.ensures.now ∙ serving),
            );
          }),
    )

pub returns-clause-found : goal.returns-clause-found
returns-clause-found g c =
    let o = g.W.World.opening in
    let p = c.args.pass.now in
    let now = c.look_at-state.new.pass in
    let v = mutex_guard_value c.look_at-state.result in
    let is = c.look_at-state.ensures.sighted in
    let same : c.in_ok-member.member.which ≡ v.shard =
    c.in_ok-member.ensures.ok ∙ c.in_ok-which.ensures.ok ∙ c.shard.ensures.shard ∙ ap (λ (x : ShardView). x.shard) c.deref-2.ensures in
    subst (IsSeenAt o p now c.args.keyspace IsServing c.args.part.now) (sym same)
    (sighted_at o p now c.args.keyspace IsServing c.args.part.now v.shard c.look_at-state.ensures.onward.later
    (record {
      on = is.on;
      at = is.at;
      of_run = is.of_run;
      such =
          ap (λ (r : Run). mode o r v.shard.slot) (sym c.look_at-state.ensures.now) ∙ ap (λ (x : ShardView). mode o x.seen x.shard.slot) (sym c.deref.ensures)
          ∙ c.serves.ensures.yes c.if-not-serves.false;
    }))
