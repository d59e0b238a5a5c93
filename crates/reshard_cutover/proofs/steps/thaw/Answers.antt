use Rattle.std.proofs.Common.{◌≡◌, sym, ap, subst, ◌∙◌, rules}
use Rattle.std.specs.Sync.Mutex.{mutex_guard_value}
use Rattle.shard_run.specs.declared.Event.TheVariants.{Thaw}
use Rattle.shard_run.specs.declared.Mode.TheVariants.{Frozen}
use Rattle.shard_run.specs.Runs.{mode}
use Rattle.shard_contents.specs.Entries.{ShardView}
use Rattle.follow.proofs.LockedLooks.{LookedAs, looked_as, mode_here}
use Rattle.follow.specs.Steps.{IsOnward}
use Rattle.reshard_cutover.proofs.Onward.{looked_first, changed}
use Rattle.reshard_cutover.proofs.steps.thaw.Goals as goal
use Rattle.reshard_cutover.proofs.steps.thaw.Goals.{After-deref_mut-2}

-- the shard, as it was locked and looked at
seen : (g : _) (c : goal.After-deref_mut-2 g)
    → LookedAs g.W.World.opening c.args.which.now c.args.pass.now c.look.new.pass (mutex_guard_value c.lock_when-state.result) c.look.new.self
seen g c =
    let was : (mutex_guard_value c.lock_when-state.result).shard ≡ c.args.which.now = search rules in
    looked_as c.deref_mut.result.now c.deref_mut.ensures.value was c.look.ensures.seen c.look.ensures.shard c.look.ensures.pass

frozen : (g : _) (c : goal.After-deref_mut-2 g) → mode g.W.World.opening (mutex_guard_value c.lock_when-state.result).seen (mutex_guard_value c.lock_when-state.result).shard.slot ≡ Frozen
frozen g c = search rules

-- the state that the guard lends then is the shard's
same : (g : _) (c : goal.After-deref_mut-2 g) → c.deref_mut-2.result.now.shard ≡ c.args.which.now
same g c = ap (λ (v : ShardView). v.shard) c.deref_mut-2.ensures.value ∙ (seen g c).is

on : (g : _) (c : goal.After-deref_mut-2 g) → IsOnward g.W.World.opening c.args.pass.now c.look.new.pass
on g c = looked_first g.W.World.opening c.args.pass.now c.look.new.pass _ _ _ c.requires.legal c.look.ensures.seen c.look.ensures.pass

pub thaw-requires : goal.thaw-requires
thaw-requires g c =
    let b = (goal.at.thaw-requires g c).After-deref_mut-2 in
    record {
      frozen =
          subst (λ (v : ShardView). mode g.W.World.opening v.seen v.shard.slot ≡ Frozen) (sym c.deref_mut-2.ensures.value) (mode_here (seen g b) (frozen g b));
    }

pub returns : goal.returns
returns g c =
    let b = (goal.at.returns g c).After-deref_mut-2 in
    changed g.W.World.opening c.args.pass.now c.look.new.pass c.thaw.new.pass c.deref_mut-2.result.now c.args.which.now Thaw (on g b) c.thaw.ensures.changed (same g b)
