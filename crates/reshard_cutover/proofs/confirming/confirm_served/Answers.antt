use Rattle.std.proofs.Common.{◌≡◌, [], sym, ap, subst, ◌∙◌, rules}
use Rattle.std.specs.Sync.Mutex.{mutex_guard_value}
use Rattle.shard_run.specs.declared.Mode.TheVariants.{Serving}
use Rattle.shard_run.specs.Runs.{Run, mode}
use Rattle.shard_contents.specs.Legal.{IsOnItsSlot}
use Rattle.shard_contents.specs.Entries.{ShardView}
use Rattle.shard_contents.proofs.Legality.{legal_is}
use Rattle.follow.proofs.LockedLooks.{LookedAs, looked_as, mode_stays}
use Rattle.follow.specs.Steps.{IsOnward}
use Rattle.follow.proofs.Turns.{looked_at}
use Rattle.reshard_cutover.specs.Looks.{HasBegunToServe}
use Rattle.reshard_cutover.proofs.Onward.{looked_first}
use Rattle.reshard_cutover.proofs.Served.{has_served}
use Rattle.reshard_cutover.proofs.confirming.confirm_served.Goals as goal

-- the shard, as it was locked and looked at
seen : (g : _) (c : goal.After-drop-state g)
    → LookedAs g.W.World.opening c.args.member.now.which c.args.pass.now c.look.new.pass (mutex_guard_value c.lock_when-state.result) c.look.new.self
seen g c =
    let was : (mutex_guard_value c.lock_when-state.result).shard ≡ c.args.member.now.which = search rules in
    looked_as c.deref_mut.result.now c.deref_mut.ensures.value was c.look.ensures.seen c.look.ensures.shard c.look.ensures.pass

serving : (g : _) (c : goal.After-drop-state g) → mode g.W.World.opening (mutex_guard_value c.lock_when-state.result).seen (mutex_guard_value c.lock_when-state.result).shard.slot ≡ Serving
serving g c = search rules

some : (g : _) (c : goal.After-drop-state g) → c.args.member.now.which.sources ≡ [] → ⊥
some g c = search rules

on : (g : _) (c : goal.After-drop-state g) → IsOnward g.W.World.opening c.args.pass.now c.look.new.pass
on g c = looked_first g.W.World.opening c.args.pass.now c.look.new.pass _ _ _ c.requires.legal c.look.ensures.seen c.look.ensures.pass

pub returns-clause-served : goal.returns-clause-served
returns-clause-served g c =
    let o = g.W.World.opening in
    let which = c.args.member.now.which in
    let new = c.look.new.self in
    let l = seen g c in
    let stands = subst (IsOnItsSlot o new.seen) (ap (λ (v : ShardView). v.shard) c.deref_mut.ensures.value ∙ l.was) c.look.ensures.stands in
    subst (λ (r : Run). HasBegunToServe r which) (sym l.seen)
    (has_served o c.requires.opens new.seen (legal_is o new.seen l.later.legal) which stands (some g c) (mode_stays l ∙ serving g c))

pub returns-clause-onward : goal.returns-clause-onward
returns-clause-onward g c = on g c

pub returns-clause-looked : goal.returns-clause-looked
returns-clause-looked g c = looked_at c.args.pass.now c.look.new.pass c.args.member.now.which.slot _ _ (seen g c).pass
