use Rattle.std.proofs.Common.{◌≡◌, true, refl, sym, ap, ◌∙◌, subst, rules}
use Rattle.std.specs.Prelude.{IfOk}
use Rattle.std.specs.Sync.Mutex.{mutex_guard_value}
use Rattle.journal.specs.Runs.{IsLegal}
use Rattle.shard_run.specs.declared.ShardRecord.{ShardRecord}
use Rattle.shard_run.specs.Runs.{Run, mode, answers_queries}
use Rattle.shard.specs.Entries.{ShardView, MayFollow}
use Rattle.shard.proofs.LockedLooks.{LookedAs, looked_as, mode_here}
use Rattle.follow.specs.inner.NextEntries.{IsNextForTarget}
use Rattle.follow.proofs.Onward.{still, looked}
use Rattle.follow.proofs.Turns.{one_look}
use Rattle.follow.proofs.steps.next_from.Goals as goal

-- the source, as it was locked and looked at
seen : (g : _) (c : goal.After-drop-state g)
    → LookedAs g.W.World.opening c.args.source.now.which c.args.pass.now c.look.new.pass (mutex_guard_value c.lock_when-state.result) c.look.new.self
seen g c =
    let was : (mutex_guard_value c.lock_when-state.result).shard ≡ c.args.source.now.which = search rules in
    looked_as c.deref_mut.result.now c.deref_mut.ensures.value was c.look.ensures.seen c.look.ensures.shard c.look.ensures.pass

pub next_for-requires-clause-serves : goal.next_for-requires-clause-serves
next_for-requires-clause-serves g c =
    let o = g.W.World.opening in
    let which = c.args.source.now.which in
    let old = mutex_guard_value c.lock_when-state.result in
    let was : old.shard ≡ which = search rules in
    let answers : answers_queries (mode o old.seen old.shard.slot) ≡ true = search rules in
    let l : LookedAs o which c.args.pass.now c.look.new.pass old c.look.new.self =
    looked_as c.deref_mut.result.now c.deref_mut.ensures.value was c.look.ensures.seen c.look.ensures.shard c.look.ensures.pass in
    subst (λ (v : ShardView). answers_queries (mode o v.seen v.shard.slot) ≡ true) (sym c.deref_mut-2.ensures.value) (ap answers_queries (mode_here l refl) ∙ answers)

pub next_for-requires-clause-legal : goal.next_for-requires-clause-legal
next_for-requires-clause-legal g c =
    subst (λ (v : ShardView). IsLegal (MayFollow g.W.World.opening) v.seen) (sym c.deref_mut-2.ensures.value) c.look.ensures.seen.legal

pub returns-clause-given : goal.returns-clause-given
returns-clause-given g c =
    let o = g.W.World.opening in
    let target = c.args.target.now in
    let lent = c.deref_mut-2.ensures.value in
    subst (λ (r : Run). IfOk c.next_for.result (IsNextForTarget o r c.args.source.now.which target)) (ap (λ (v : ShardView). v.seen) lent ∙ sym (seen g c).seen)
    (subst (λ (s : ShardRecord). IfOk c.next_for.result (IsNextForTarget o c.deref_mut-2.result.now.seen s target)) (ap (λ (v : ShardView). v.shard) lent ∙ (seen g c).is)
    c.next_for.ensures.given)

pub returns-clause-looked : goal.returns-clause-looked
returns-clause-looked g c =
    one_look c.args.pass.now c.look.new.pass c.args.source.now.which.slot _ (seen g c).pass

pub returns-clause-onward : goal.returns-clause-onward
returns-clause-onward g c =
    let o = g.W.World.opening in
    let p = c.args.pass.now in
    looked o p p c.look.new.pass _ _ _ (still o p c.requires.legal) c.look.ensures.seen c.look.ensures.pass
