use Rattle.std.proofs.Common.{◌≡◌, sym, subst, rules}
use Rattle.std.specs.Sync.Mutex.{mutex_guard_value}
use Rattle.shard_run.specs.declared.Mode.TheVariants.{Retired}
use Rattle.shard_run.specs.Runs.{mode}
use Rattle.shard_contents.specs.Entries.{ShardView}
use Rattle.follow.proofs.LockedLooks.{LookedAs, looked_as, mode_here, mode_seen}
use Rattle.follow.specs.Steps.{IsOnward}
use Rattle.follow.proofs.Turns.{looked_at}
use Rattle.reshard_cutover.proofs.Onward.{looked_first}
use Rattle.reshard_cutover.proofs.dropping.drop_rows.Goals as goal
use Rattle.reshard_cutover.proofs.dropping.drop_rows.Goals.{After-deref_mut-2}

-- the shard, as it was locked and looked at
seen : (g : _) (c : goal.After-deref_mut-2 g)
    → LookedAs g.W.World.opening c.args.member.now.which c.args.pass.now c.look.new.pass (mutex_guard_value c.lock_when-state.result) c.look.new.self
seen g c =
    let was : (mutex_guard_value c.lock_when-state.result).shard ≡ c.args.member.now.which = search rules in
    looked_as c.deref_mut.result.now c.deref_mut.ensures.value was c.look.ensures.seen c.look.ensures.shard c.look.ensures.pass

retired : (g : _) (c : goal.After-deref_mut-2 g) → mode g.W.World.opening (mutex_guard_value c.lock_when-state.result).seen (mutex_guard_value c.lock_when-state.result).shard.slot ≡ Retired
retired g c = search rules

pub drop_rows-requires : goal.drop_rows-requires
drop_rows-requires g c = record {
  retired =
      subst (λ (v : ShardView). mode g.W.World.opening v.seen v.shard.slot ≡ Retired) (sym c.deref_mut-2.ensures.value) (mode_here (seen g c) (retired g c));
}

pub returns-clause-out : goal.returns-clause-out
returns-clause-out g c =
    let b = (goal.at.returns-clause-out g c).After-deref_mut-2 in
    mode_seen (seen g b) (retired g b)

on : (g : _) (c : goal.After-deref_mut-2 g) → IsOnward g.W.World.opening c.args.pass.now c.look.new.pass
on g c = looked_first g.W.World.opening c.args.pass.now c.look.new.pass _ _ _ c.requires.legal c.look.ensures.seen c.look.ensures.pass

pub returns-clause-onward : goal.returns-clause-onward
returns-clause-onward g c =
    let b = (goal.at.returns-clause-onward g c).After-deref_mut-2 in
    on g b

pub returns-clause-looked : goal.returns-clause-looked
returns-clause-looked g c =
    let b = (goal.at.returns-clause-looked g c).After-deref_mut-2 in
    looked_at c.args.pass.now c.look.new.pass c.args.member.now.which.slot _ _ (seen g b).pass
