use Rattle.std.proofs.Common.{◌≡◌, ℕ, ◌^◌, ◌<◌, ◌≤◌, ◌∷◌, [], length, refl, sym, ap, subst, ◌∙◌, rules}
use Rattle.std.specs.Sync.Mutex.{mutex_guard_value}
use Rattle.shard_run.specs.declared.ShardRecord.{ShardRecord}
use Rattle.shard_run.specs.declared.Event.TheVariants.{Freeze}
use Rattle.shard_run.specs.declared.Mode.TheVariants.{Serving, Retired}
use Rattle.shard_run.specs.Runs.{Run, mode, stored_on, entries_on}
use Rattle.shard_contents.specs.Entries.{ShardView}
use Rattle.follow.proofs.LockedLooks.{LookedAs, looked_as, mode_here}
use Rattle.follow.specs.Steps.{IsOnward}
use Rattle.follow.proofs.Turns.{looked_at, looked_then}
use Rattle.reshard_cutover.proofs.Onward.{looked_first, changed, stored_same}
use Rattle.reshard_cutover.proofs.Thaws.{change_looks}
use Rattle.reshard_cutover.proofs.steps.freeze.Goals as goal
use Rattle.reshard_cutover.proofs.steps.freeze.Goals.{After-deref_mut-2}

-- the shard, as it was locked and looked at
seen : (g : _) (c : goal.After-deref_mut-2 g)
    → LookedAs g.W.World.opening c.args.which.now c.args.pass.now c.look-entries.new.pass (mutex_guard_value c.lock_when-state.result) c.look-entries.new.self
seen g c =
    let was : (mutex_guard_value c.lock_when-state.result).shard ≡ c.args.which.now = search rules in
    looked_as c.deref_mut.result.now c.deref_mut.ensures.value was c.look-entries.ensures.seen c.look-entries.ensures.shard c.look-entries.ensures.pass

serving : (g : _) (c : goal.After-deref_mut-2 g) → mode g.W.World.opening (mutex_guard_value c.lock_when-state.result).seen (mutex_guard_value c.lock_when-state.result).shard.slot ≡ Serving
serving g c = search rules

-- the state that the guard lends then is the shard's
same : (g : _) (c : goal.After-deref_mut-2 g) → c.deref_mut-2.result.now.shard ≡ c.args.which.now
same g c = ap (λ (v : ShardView). v.shard) c.deref_mut-2.ensures.value ∙ (seen g c).is

on : (g : _) (c : goal.After-deref_mut-2 g) → IsOnward g.W.World.opening c.args.pass.now c.look-entries.new.pass
on g c = looked_first g.W.World.opening c.args.pass.now c.look-entries.new.pass _ _ _ c.requires.legal c.look-entries.ensures.seen c.look-entries.ensures.pass

pub returns-then-entries-ge-MOST_ENTRIES-clause-full : goal.returns-then-entries-ge-MOST_ENTRIES-clause-full
returns-then-entries-ge-MOST_ENTRIES-clause-full g c =
    let was : (mutex_guard_value c.lock_when-state.result).shard ≡ c.args.which.now = search rules in
    let l : LookedAs g.W.World.opening c.args.which.now c.args.pass.now c.look-entries.new.pass (mutex_guard_value c.lock_when-state.result) c.look-entries.new.self =
    looked_as c.deref_mut.result.now c.deref_mut.ensures.value was c.look-entries.ensures.seen c.look-entries.ensures.shard c.look-entries.ensures.pass in
    let new = c.look-entries.new.self in
    let count =
    c.look-entries.ensures.count ∙ ap (λ (v : ShardView). length (entries_on v.shard.slot new.seen)) c.deref_mut.ensures.value
    ∙ ap (λ (s : ShardRecord). length (entries_on s.slot new.seen)) was
    ∙ ap (λ (r : Run). length (entries_on c.args.which.now.slot r)) (sym l.seen) in
    (refl, subst (λ (n : ℕ). 2 ^ 40 ≤ n) count c.if-entries-ge-MOST_ENTRIES.true)

pub returns-then-entries-ge-MOST_ENTRIES-clause-refused : goal.returns-then-entries-ge-MOST_ENTRIES-clause-refused
returns-then-entries-ge-MOST_ENTRIES-clause-refused g c =
    let was : (mutex_guard_value c.lock_when-state.result).shard ≡ c.args.which.now = search rules in
    let l : LookedAs g.W.World.opening c.args.which.now c.args.pass.now c.look-entries.new.pass (mutex_guard_value c.lock_when-state.result) c.look-entries.new.self =
    looked_as c.deref_mut.result.now c.deref_mut.ensures.value was c.look-entries.ensures.seen c.look-entries.ensures.shard c.look-entries.ensures.pass in
    looked_at c.args.pass.now c.look-entries.new.pass c.args.which.now.slot _ _ l.pass

pub returns-then-entries-ge-MOST_ENTRIES-clause-onward : goal.returns-then-entries-ge-MOST_ENTRIES-clause-onward
returns-then-entries-ge-MOST_ENTRIES-clause-onward g c = looked_first g.W.World.opening c.args.pass.now c.look-entries.new.pass _ _ _ c.requires.legal c.look-entries.ensures.seen c.look-entries.ensures.pass

pub stored-stored-requires : goal.stored-stored-requires
stored-stored-requires g c =
    let was : (mutex_guard_value c.lock_when-state.result).shard ≡ c.args.which.now = search rules in
    let l : LookedAs g.W.World.opening c.args.which.now c.args.pass.now c.look-entries.new.pass (mutex_guard_value c.lock_when-state.result) c.look-entries.new.self =
    looked_as c.deref_mut.result.now c.deref_mut.ensures.value was c.look-entries.ensures.seen c.look-entries.ensures.shard c.look-entries.ensures.pass in
    let serves : mode g.W.World.opening (mutex_guard_value c.lock_when-state.result).seen (mutex_guard_value c.lock_when-state.result).shard.slot ≡ Serving = search rules in
    let serving = subst (λ (v : ShardView). mode g.W.World.opening v.seen v.shard.slot ≡ Serving) (sym c.deref.ensures) (mode_here l serves) in
    record { lives = λ retired. let e : Serving ≡ Retired = sym serving ∙ retired in cc }

pub freeze-requires : goal.freeze-requires
freeze-requires g c =
    let b = (goal.at.freeze-requires g c).After-deref_mut-2 in
    let lent = sym c.deref_mut-2.ensures.value in
    let count =
    c.look-entries.ensures.count ∙ ap (λ (s : ShardRecord). length (entries_on s.slot c.look-entries.new.self.seen)) (sym c.look-entries.ensures.shard)
    ∙ ap (λ (v : ShardView). length (entries_on v.shard.slot v.seen)) lent in
    record {
      serving = subst (λ (v : ShardView). mode g.W.World.opening v.seen v.shard.slot ≡ Serving) lent (mode_here (seen g b) (serving g b));
      room = subst (λ (n : ℕ). n < 2 ^ 40) count c.if-entries-ge-MOST_ENTRIES.false;
    }

pub returns-clause-ok : goal.returns-clause-ok
returns-clause-ok g c =
    let b = (goal.at.returns-clause-ok g c).After-deref_mut-2 in
    changed g.W.World.opening c.args.pass.now c.look-entries.new.pass c.freeze.new.pass c.deref_mut-2.result.now c.args.which.now Freeze (on g b) c.freeze.ensures.changed (same g b)

pub returns-clause-stored : goal.returns-clause-stored
returns-clause-stored g c =
    let b = (goal.at.returns-clause-stored g c).After-deref_mut-2 in
    let st = c.deref_mut-2.result.now in
    c.stored-stored.ensures ∙ ap (λ (v : ShardView). length (stored_on v.shard.slot v.seen)) (c.deref.ensures ∙ sym c.deref_mut-2.ensures.value)
    ∙ ap length (sym (stored_same st.shard.slot st.seen c.freeze.new.self.seen _ c.freeze.ensures.entry refl))
    ∙ ap (λ (r : Run). length (stored_on st.shard.slot r)) c.freeze.ensures.seen
    ∙ ap (λ (s : ShardRecord). length (stored_on s.slot c.freeze.new.pass.seen)) (same g b)

pub returns-clause-once : goal.returns-clause-once
returns-clause-once g c =
    let b = (goal.at.returns-clause-once g c).After-deref_mut-2 in
    let slot = c.args.which.now.slot in
    let p = c.args.pass.now in
    let q = c.look-entries.new.pass in
    let now = c.freeze.new.pass in
    looked_then (slot ∷ []) (slot ∷ slot ∷ []) p q now (looked_at p q slot _ _ (seen g b).pass)
    (change_looks g.W.World.opening slot c.deref_mut-2.result.now Freeze q now (ap (λ (s : ShardRecord). s.slot) (same g b)) c.freeze.ensures.changed)
