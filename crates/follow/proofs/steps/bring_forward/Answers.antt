use Rattle.std.proofs.Common.{◌≡◌, ◌⊎◌, ◌≤◌, sym, ap, ◌∙◌, subst, rules}
use Rattle.std.specs.Prelude.{Contains, IfOk, IfErr, OnErr}
use Rattle.std.specs.Sync.Mutex.{mutex_guard_value}
use Rattle.vt_value.specs.declared.refusal.Refusal.TheVariants.{OutOfMemory, ShardFull}
use Rattle.shard_run.specs.declared.ShardRecord.{ShardRecord}
use Rattle.shard_run.specs.declared.Mode.TheVariants.{Following}
use Rattle.shard_run.specs.Runs.{mode, shard_rows}
use Rattle.shard_run.specs.Openings.{row_count}
use Rattle.shard.specs.Law.{SourcesApart}
use Rattle.shard.specs.Entries.{ShardView}
use Rattle.follow.specs.declared.steps.Step.TheVariants.{Copied, Followed}
use Rattle.follow.specs.Steps.{HasMoved, IsFull}
use Rattle.follow.specs.Turns.{IsOneStep, IsNoStep}
use Rattle.follow.proofs.steps.bring_forward.Goals as goal

-- the state that the guard lends is the target's
same : (g : _) (c : goal.After-drop-state g) → c.deref_mut.result.now.shard ≡ c.args.target.now.which
same g c =
    let is : (mutex_guard_value c.lock_when-state.result).shard ≡ c.args.target.now.which = search rules in
    ap (λ (v : ShardView). v.shard) c.deref_mut.ensures.value ∙ is

pub come_forward-requires-clause-following : goal.come_forward-requires-clause-following
come_forward-requires-clause-following g c =
    let old = mutex_guard_value c.lock_when-state.result in
    let follows : mode g.W.World.opening old.seen old.shard.slot ≡ Following = search rules in
    subst (λ (v : ShardView). mode g.W.World.opening v.seen v.shard.slot ≡ Following) (sym c.deref_mut.ensures.value) follows

pub come_forward-requires-clause-of_source : goal.come_forward-requires-clause-of_source
come_forward-requires-clause-of_source g c =
    let is : (mutex_guard_value c.lock_when-state.result).shard ≡ c.args.target.now.which = search rules in
    subst (λ (s : ShardRecord). Contains s.sources c.args.source.now.which.slot) (sym (ap (λ (v : ShardView). v.shard) c.deref_mut.ensures.value ∙ is))
    c.requires.of_source

pub returns-clause-moved : goal.returns-clause-moved
returns-clause-moved g c =
    subst (λ (s : ShardRecord). IfOk c.come_forward.result (HasMoved g.W.World.opening c.args.source.now.which s c.args.pass.now c.come_forward.new.pass))
    (same g c) c.come_forward.ensures.moved

pub returns-clause-once : goal.returns-clause-once
returns-clause-once g c =
    subst (λ (s : ShardRecord). IfOk c.come_forward.result (IsOneStep c.args.source.now.which s c.args.pass.now c.come_forward.new.pass))
    (same g c) c.come_forward.ensures.once

pub returns-clause-copied_within : goal.returns-clause-copied_within
returns-clause-copied_within g c =
    subst (λ (s : ShardRecord). IfOk c.come_forward.result (λ step. step ≡ Copied → row_count (shard_rows g.W.World.opening c.come_forward.new.pass.seen s) ≤ g.W.World.limits.rows))
    (same g c) c.come_forward.ensures.copied_within

pub returns-clause-followed_within : goal.returns-clause-followed_within
returns-clause-followed_within g c =
    subst (λ (s : ShardRecord). IfOk c.come_forward.result (λ step. step ≡ Followed → SourcesApart g.W.World.opening c.come_forward.new.pass.seen s → row_count (shard_rows g.W.World.opening c.come_forward.new.pass.seen s) ≤ g.W.World.limits.rows))
    (same g c) c.come_forward.ensures.followed_within

pub returns-clause-nothing : goal.returns-clause-nothing
returns-clause-nothing g c =
    subst (λ (s : ShardRecord). OnErr c.come_forward.result (IsNoStep c.args.source.now.which s c.args.pass.now c.come_forward.new.pass))
    (same g c) c.come_forward.ensures.nothing

pub returns-clause-err : goal.returns-clause-err
returns-clause-err g c =
    subst (λ (s : ShardRecord). IfErr c.come_forward.result (λ e. (e ≡ OutOfMemory) ⊎ ((e ≡ ShardFull) × IsFull g.W.World.opening g.W.World.limits s c.come_forward.new.pass.seen)))
    (same g c) c.come_forward.ensures.err
