use Rattle.std.proofs.Common.{◌≡◌, List, length, refl, sym, ap, subst, ◌∙◌, rules}
use Rattle.std.specs.Prelude.{Contains}
use Rattle.std.specs.Sync.Mutex.{mutex_guard_value}
use Rattle.shard_run.specs.declared.ShardRecord.{ShardRecord}
use Rattle.shard_run.specs.declared.Event.TheVariants.{Retire}
use Rattle.shard_run.specs.Runs.{Run, stored_on}
use Rattle.follow.proofs.LockedLooks.{LookedAs, looked_as, stored_stays}
use Rattle.follow.specs.Steps.{IsOnward}
use Rattle.reshard_cutover.specs.Steps.{HasEntry}
use Rattle.reshard_cutover.proofs.Onward.{looked_first, entry_later}
use Rattle.reshard_cutover.proofs.Thaws.{look_alone}
use Rattle.reshard_cutover.proofs.confirming.confirm.Goals as goal

-- the shard, as it was locked and looked at
seen : (g : _) (c : goal.After-drop-state g)
    → LookedAs g.W.World.opening c.args.source.now.member.which c.args.pass.now c.look.new.pass (mutex_guard_value c.lock_when-state.result) c.look.new.self
seen g c =
    let was : (mutex_guard_value c.lock_when-state.result).shard ≡ c.args.source.now.member.which = search rules in
    looked_as c.deref_mut.result.now c.deref_mut.ensures.value was c.look.ensures.seen c.look.ensures.shard c.look.ensures.pass

on : (g : _) (c : goal.After-drop-state g) → IsOnward g.W.World.opening c.args.pass.now c.look.new.pass
on g c = looked_first g.W.World.opening c.args.pass.now c.look.new.pass _ _ _ c.requires.legal c.look.ensures.seen c.look.ensures.pass

pub returns-clause-retired : goal.returns-clause-retired
returns-clause-retired g c =
    let which = c.args.source.now.member.which in
    let old = mutex_guard_value c.lock_when-state.result in
    let l = seen g c in
    let h : (targets : List ShardRecord) × HasEntry old.seen old.shard (Retire targets) × Contains targets c.args.target.now
    × (c.args.source.now.stored ≡ length (stored_on old.shard.slot old.seen)) =
    search rules in
    let there = entry_later old.seen c.look.new.self.seen which (Retire h.0) l.later.seat (subst (λ (s : ShardRecord). HasEntry old.seen s (Retire h.0)) l.was h.1) in (
      h.0,
      record {
        retired = subst (λ (r : Run). HasEntry r which (Retire h.0)) (sym l.seen) there;
        stored = h.3 ∙ ap length (sym (stored_stays l));
      },
      h.2,
    )

pub returns-clause-alone : goal.returns-clause-alone
returns-clause-alone g c = look_alone c.args.source.now.member.which.slot c.args.source.now.member.which.slot c.args.pass.now c.look.new.pass _ _ refl (seen g c).pass

pub returns-clause-onward : goal.returns-clause-onward
returns-clause-onward g c = on g c
