use Rattle.std.proofs.Common.{◌≡◌, List, sym, subst, rules}
use Rattle.std.specs.Sync.Mutex.{mutex_guard_value}
use Rattle.shard_run.specs.declared.ShardRecord.{ShardRecord}
use Rattle.shard_run.specs.declared.Event.TheVariants.{Retire}
use Rattle.shard_run.specs.Runs.{Run}
use Rattle.follow.proofs.LockedLooks.{LookedAs, looked_as}
use Rattle.follow.specs.Steps.{IsOnward}
use Rattle.follow.proofs.Turns.{looked_at}
use Rattle.reshard_cutover.specs.Steps.{HasEntry}
use Rattle.reshard_cutover.proofs.Onward.{looked_first, entry_later}
use Rattle.reshard_cutover.proofs.confirming.confirm_gone.Goals as goal

-- the shard, as it was locked and looked at
seen : (g : _) (c : goal.After-drop-state g)
    → LookedAs g.W.World.opening c.args.member.now.which c.args.pass.now c.look.new.pass (mutex_guard_value c.lock_when-state.result) c.look.new.self
seen g c =
    let was : (mutex_guard_value c.lock_when-state.result).shard ≡ c.args.member.now.which = search rules in
    looked_as c.deref_mut.result.now c.deref_mut.ensures.value was c.look.ensures.seen c.look.ensures.shard c.look.ensures.pass

retired : (g : _) (c : goal.After-drop-state g) → (targets : List ShardRecord) × HasEntry (mutex_guard_value c.lock_when-state.result).seen (mutex_guard_value c.lock_when-state.result).shard (Retire targets)
retired g c = search rules

on : (g : _) (c : goal.After-drop-state g) → IsOnward g.W.World.opening c.args.pass.now c.look.new.pass
on g c = looked_first g.W.World.opening c.args.pass.now c.look.new.pass _ _ _ c.requires.legal c.look.ensures.seen c.look.ensures.pass

pub returns-clause-gone : goal.returns-clause-gone
returns-clause-gone g c =
    let which = c.args.member.now.which in
    let old = mutex_guard_value c.lock_when-state.result in
    let l = seen g c in
    let h = retired g c in
    let there = entry_later old.seen c.look.new.self.seen which (Retire h.0) l.later.seat (subst (λ (s : ShardRecord). HasEntry old.seen s (Retire h.0)) l.was h.1) in
    (h.0, subst (λ (r : Run). HasEntry r which (Retire h.0)) (sym l.seen) there)

pub returns-clause-onward : goal.returns-clause-onward
returns-clause-onward g c = on g c

pub returns-clause-looked : goal.returns-clause-looked
returns-clause-looked g c = looked_at c.args.pass.now c.look.new.pass c.args.member.now.which.slot _ _ (seen g c).pass
