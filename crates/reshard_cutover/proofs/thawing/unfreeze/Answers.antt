use Rattle.std.proofs.Common.{◌≡◌, ◌∷◌, [], true, inl, inr, refl, sym, ap, subst, ◌∙◌, rules}
use Rattle.std.specs.Sync.Mutex.{mutex_guard_value}
use Rattle.shard_run.specs.declared.ShardRecord.{ShardRecord}
use Rattle.shard_run.specs.declared.Event.TheVariants.{Thaw}
use Rattle.shard_run.specs.declared.Mode.TheVariants.{Serving, Frozen}
use Rattle.shard_run.specs.Runs.{Run, mode, answers_queries}
use Rattle.shard_contents.specs.Entries.{ShardView}
use Rattle.follow.proofs.LockedLooks.{LookedAs, looked_as, mode_here}
use Rattle.follow.specs.Steps.{IsOnward}
use Rattle.follow.proofs.Turns.{looked_at, looked_then}
use Rattle.reshard_cutover.proofs.Modes.{frozen_of}
use Rattle.reshard_cutover.proofs.Onward.{looked_first, changed}
use Rattle.reshard_cutover.proofs.Thaws.{mode_now, change_looks}
use Rattle.reshard_cutover.proofs.thawing.unfreeze.Goals as goal
use Rattle.reshard_cutover.proofs.thawing.unfreeze.Goals.{After-deref_mut-3}

-- the shard, as it was locked and looked at
seen : (g : _) (c : goal.After-deref_mut-3 g)
    → LookedAs g.W.World.opening c.args.member.now.which c.args.pass.now c.look.new.pass (mutex_guard_value c.lock_when-state.result) c.look.new.self
seen g c =
    let was : (mutex_guard_value c.lock_when-state.result).shard ≡ c.args.member.now.which = search rules in
    looked_as c.deref_mut.result.now c.deref_mut.ensures.value was c.look.ensures.seen c.look.ensures.shard c.look.ensures.pass

answers : (g : _) (c : goal.After-deref_mut-3 g) → answers_queries (mode g.W.World.opening (mutex_guard_value c.lock_when-state.result).seen (mutex_guard_value c.lock_when-state.result).shard.slot) ≡ true
answers g c = search rules

on : (g : _) (c : goal.After-deref_mut-3 g) → IsOnward g.W.World.opening c.args.pass.now c.look.new.pass
on g c = looked_first g.W.World.opening c.args.pass.now c.look.new.pass _ _ _ c.requires.legal c.look.ensures.seen c.look.ensures.pass

back : (g : _) (c : goal.After-deref_mut-3 g) → c.drop_sorted.new.self ≡ c.look.new.self
back g c = c.drop_sorted.ensures ∙ c.deref_mut-2.ensures.value

-- the state that the guard lends then is the shard's
same : (g : _) (c : goal.After-deref_mut-3 g) → c.deref_mut-3.result.now.shard ≡ c.args.member.now.which
same g c = ap (λ (v : ShardView). v.shard) (c.deref_mut-3.ensures.value ∙ back g c) ∙ (seen g c).is

pub thaw-requires : goal.thaw-requires
thaw-requires g c =
    let b = (goal.at.thaw-requires g c).After-deref_mut-3 in
    let o = g.W.World.opening in
    let new = c.look.new.self in
    let frozen =
    frozen_of (mode o new.seen new.shard.slot) (ap answers_queries (mode_here (seen g b) refl) ∙ answers g b)
    (λ serving. c.serves.ensures.no c.if-serves.false (ap (λ (v : ShardView). mode o v.seen v.shard.slot) (c.deref-2.ensures ∙ back g b) ∙ serving)) in
    record { frozen = subst (λ (v : ShardView). mode o v.seen v.shard.slot ≡ Frozen) (sym (c.deref_mut-3.ensures.value ∙ back g b)) frozen }

pub returns-then-serves-clause-thawed : goal.returns-then-serves-clause-thawed
returns-then-serves-clause-thawed g c =
    let was : (mutex_guard_value c.lock_when-state.result).shard ≡ c.args.member.now.which = search rules in
    let l : LookedAs g.W.World.opening c.args.member.now.which c.args.pass.now c.look.new.pass (mutex_guard_value c.lock_when-state.result) c.look.new.self =
    looked_as c.deref_mut.result.now c.deref_mut.ensures.value was c.look.ensures.seen c.look.ensures.shard c.look.ensures.pass in
    let o = g.W.World.opening in
    record {
      onward = looked_first g.W.World.opening c.args.pass.now c.look.new.pass _ _ _ c.requires.legal c.look.ensures.seen c.look.ensures.pass;
      once = inl (looked_at c.args.pass.now c.look.new.pass c.args.member.now.which.slot _ _ l.pass);
      serving =
          ap (λ (r : Run). mode o r c.args.member.now.which.slot) l.seen ∙ ap (λ (s : ShardRecord). mode o c.look.new.self.seen s.slot) (sym l.is)
          ∙ ap (λ (v : ShardView). mode o v.seen v.shard.slot) (sym (c.deref-2.ensures ∙ c.drop_sorted.ensures ∙ c.deref_mut-2.ensures.value))
          ∙ c.serves.ensures.yes c.if-serves.true;
    }

pub returns-then-serves-clause-onward : goal.returns-then-serves-clause-onward
returns-then-serves-clause-onward g c = looked_first g.W.World.opening c.args.pass.now c.look.new.pass _ _ _ c.requires.legal c.look.ensures.seen c.look.ensures.pass

pub returns-clause-thawed : goal.returns-clause-thawed
returns-clause-thawed g c =
    let b = (goal.at.returns-clause-thawed g c).After-deref_mut-3 in
    let o = g.W.World.opening in
    let which = c.args.member.now.which in
    let q = c.look.new.pass in
    let now = c.thaw.new.pass in
    let st = c.deref_mut-3.result.now in
    let is = c.thaw.ensures.changed in
    record {
      onward = (changed o c.args.pass.now q now st which Thaw (on g b) is (same g b)).onward;
      once =
          inr (looked_then (which.slot ∷ []) (which.slot ∷ which.slot ∷ []) c.args.pass.now q now (looked_at c.args.pass.now q which.slot _ _ (seen g b).pass)
          (change_looks o which.slot st Thaw q now (ap (λ (s : ShardRecord). s.slot) (same g b)) is));
      serving = mode_now o (record st { seen = is.looked.seen }) Thaw is.looked now is.appended which (same g b) Serving (λ b. refl);
    }

pub returns-clause-onward : goal.returns-clause-onward
returns-clause-onward g c =
    let b = (goal.at.returns-clause-onward g c).After-deref_mut-3 in
    (changed g.W.World.opening c.args.pass.now c.look.new.pass c.thaw.new.pass c.deref_mut-3.result.now c.args.member.now.which Thaw (on g b) c.thaw.ensures.changed (same g b)).onward
