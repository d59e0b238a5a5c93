use Rattle.std.proofs.Common.{◌≡◌, ◌∷◌, [], length, refl, sym, ap, subst, ◌∙◌, rules}
use Rattle.std.specs.Sync.Mutex.{mutex_guard_value}
use Rattle.shard_run.specs.declared.ShardRecord.{ShardRecord}
use Rattle.shard_run.specs.declared.Event.TheVariants.{Retire}
use Rattle.shard_run.specs.declared.Mode.TheVariants.{Frozen}
use Rattle.shard_run.specs.Runs.{Run, mode, stored_on}
use Rattle.shard_contents.specs.Entries.{ShardView}
use Rattle.follow.proofs.LockedLooks.{LookedAs, looked_as, mode_here, stored_stays}
use Rattle.follow.specs.Steps.{IsOnward}
use Rattle.follow.proofs.Turns.{looked_at, looked_then}
use Rattle.reshard_cutover.specs.Steps.{FitTargets}
use Rattle.reshard_cutover.proofs.Onward.{looked_first, changed, stored_unchanged}
use Rattle.reshard_cutover.proofs.Thaws.{change_looks}
use Rattle.reshard_cutover.proofs.steps.retire.Goals as goal
use Rattle.reshard_cutover.proofs.steps.retire.Goals.{After-deref_mut-2}

-- the shard, as it was locked and looked at
seen : (g : _) (c : goal.After-deref_mut-2 g)
    → LookedAs g.W.World.opening c.args.which.now c.args.pass.now c.look.new.pass (mutex_guard_value c.lock_when-state.result) c.look.new.self
seen g c =
    let was : (mutex_guard_value c.lock_when-state.result).shard ≡ c.args.which.now = search rules in
    looked_as c.deref_mut.result.now c.deref_mut.ensures.value was c.look.ensures.seen c.look.ensures.shard c.look.ensures.pass

frozen : (g : _) (c : goal.After-deref_mut-2 g) → mode g.W.World.opening (mutex_guard_value c.lock_when-state.result).seen (mutex_guard_value c.lock_when-state.result).shard.slot ≡ Frozen
frozen g c = search rules

stored : (g : _) (c : goal.After-deref_mut-2 g) → c.args.stored ≡ length (stored_on (mutex_guard_value c.lock_when-state.result).shard.slot (mutex_guard_value c.lock_when-state.result).seen)
stored g c = search rules

-- the state that the guard lends then is the shard's
same : (g : _) (c : goal.After-deref_mut-2 g) → c.deref_mut-2.result.now.shard ≡ c.args.which.now
same g c = ap (λ (v : ShardView). v.shard) c.deref_mut-2.ensures.value ∙ (seen g c).is

on : (g : _) (c : goal.After-deref_mut-2 g) → IsOnward g.W.World.opening c.args.pass.now c.look.new.pass
on g c = looked_first g.W.World.opening c.args.pass.now c.look.new.pass _ _ _ c.requires.legal c.look.ensures.seen c.look.ensures.pass

pub retire-requires : goal.retire-requires
retire-requires g c =
    let b = (goal.at.retire-requires g c).After-deref_mut-2 in
    let fit = subst (λ (s : ShardRecord). FitTargets s c.args.targets) (sym (same g b)) c.requires.fit in
    record {
      may = record {
        frozen =
            subst (λ (v : ShardView). mode g.W.World.opening v.seen v.shard.slot ≡ Frozen) (sym c.deref_mut-2.ensures.value) (mode_here (seen g b) (frozen g b));
        of_source = fit.of_source;
        apart = fit.apart;
        whole = fit.whole;
      };
    }

pub returns-clause-retired : goal.returns-clause-retired
returns-clause-retired g c =
    let b = (goal.at.returns-clause-retired g c).After-deref_mut-2 in
    changed g.W.World.opening c.args.pass.now c.look.new.pass c.retire.new.pass c.deref_mut-2.result.now c.args.which.now (Retire c.args.targets) (on g b) c.retire.ensures.changed (same g b)

pub returns-clause-stored : goal.returns-clause-stored
returns-clause-stored g c =
    let b = (goal.at.returns-clause-stored g c).After-deref_mut-2 in
    let st = c.deref_mut-2.result.now in
    let which = c.args.which.now in
    stored g b ∙ ap length (sym (stored_stays (seen g b))) ∙ ap (λ (r : Run). length (stored_on which.slot r)) (seen g b).seen
    ∙ ap (λ (s : ShardRecord). length (stored_on s.slot c.look.new.self.seen)) (sym (seen g b).is)
    ∙ ap (λ (v : ShardView). length (stored_on v.shard.slot v.seen)) (sym c.deref_mut-2.ensures.value)
    ∙ ap length (sym (stored_unchanged g.W.World.opening st (Retire c.args.targets) c.look.new.pass c.retire.new.pass c.retire.ensures.changed refl))
    ∙ ap (λ (s : ShardRecord). length (stored_on s.slot c.retire.new.pass.seen)) (same g b)

pub returns-clause-once : goal.returns-clause-once
returns-clause-once g c =
    let b = (goal.at.returns-clause-once g c).After-deref_mut-2 in
    let slot = c.args.which.now.slot in
    let p = c.args.pass.now in
    let q = c.look.new.pass in
    let now = c.retire.new.pass in
    looked_then (slot ∷ []) (slot ∷ slot ∷ []) p q now (looked_at p q slot _ _ (seen g b).pass)
    (change_looks g.W.World.opening slot c.deref_mut-2.result.now (Retire c.args.targets) q now (ap (λ (s : ShardRecord). s.slot) (same g b)) c.retire.ensures.changed)
