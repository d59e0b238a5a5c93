use Rattle.std.proofs.Common.{◌≡◌, ◌∷◌, [], ◌≤◌, map, sym, ap, subst, ◌∙◌, rules}
use Rattle.std.specs.Sync.Mutex.{mutex_guard_value}
use Rattle.shard_run.specs.declared.ShardRecord.{ShardRecord}
use Rattle.shard_run.specs.declared.Event.TheVariants.{Serve}
use Rattle.shard_run.specs.declared.Mode.TheVariants.{Following}
use Rattle.shard_run.specs.Runs.{mode, entries_on, shard_rows}
use Rattle.shard_run.specs.Openings.{row_count}
use Rattle.shard_contents.specs.Legal.{MayServe}
use Rattle.shard_contents.specs.Entries.{ShardView}
use Rattle.shard_contents.proofs.Legality.{legal_is}
use Rattle.shard_contents.proofs.States.{held-same}
use Rattle.follow.proofs.LockedLooks.{LookedAs, looked_as, mode_here}
use Rattle.follow.specs.Steps.{IsOnward}
use Rattle.follow.proofs.Turns.{looked_at, looked_then}
use Rattle.reshard_cutover.specs.inner.Steps.{AreFollowed}
use Rattle.reshard_cutover.proofs.Onward.{looked_first, changed}
use Rattle.reshard_cutover.proofs.Thaws.{change_looks}
use Rattle.reshard_cutover.proofs.Retiring.{may_serve_looked, followed-same}
use Rattle.reshard_cutover.proofs.steps.serve.Goals as goal
use Rattle.reshard_cutover.proofs.steps.serve.Goals.{After-deref_mut-2}

-- the shard, as it was locked and looked at
seen : (g : _) (c : goal.After-deref_mut-2 g)
    → LookedAs g.W.World.opening c.args.target.now.which c.args.pass.now c.look.new.pass (mutex_guard_value c.lock_when-state.result) c.look.new.self
seen g c =
    let was : (mutex_guard_value c.lock_when-state.result).shard ≡ c.args.target.now.which = search rules in
    looked_as c.deref_mut.result.now c.deref_mut.ensures.value was c.look.ensures.seen c.look.ensures.shard c.look.ensures.pass

following : (g : _) (c : goal.After-deref_mut-2 g) → mode g.W.World.opening (mutex_guard_value c.lock_when-state.result).seen (mutex_guard_value c.lock_when-state.result).shard.slot ≡ Following
following g c = search rules

level : (g : _) (c : goal.After-deref_mut-2 g)
    → AreFollowed g.W.World.opening (mutex_guard_value c.lock_when-state.result).seen (mutex_guard_value c.lock_when-state.result).shard (map (λ s. (s.member.which, s.stored)) c.args.sources.now)
level g c = search rules

few : (g : _) (c : goal.After-deref_mut-2 g) → row_count (shard_rows g.W.World.opening (mutex_guard_value c.lock_when-state.result).seen (mutex_guard_value c.lock_when-state.result).shard) ≤ g.W.World.limits.rows
few g c = search rules

-- the state that the guard lends then is the shard's
same : (g : _) (c : goal.After-deref_mut-2 g) → c.deref_mut-2.result.now.shard ≡ c.args.target.now.which
same g c = ap (λ (v : ShardView). v.shard) c.deref_mut-2.ensures.value ∙ (seen g c).is

on : (g : _) (c : goal.After-deref_mut-2 g) → IsOnward g.W.World.opening c.args.pass.now c.look.new.pass
on g c = looked_first g.W.World.opening c.args.pass.now c.look.new.pass _ _ _ c.requires.legal c.look.ensures.seen c.look.ensures.pass

pub serve-requires : goal.serve-requires
serve-requires g c =
    let b = (goal.at.serve-requires g c).After-deref_mut-2 in
    let o = g.W.World.opening in
    let which = c.args.target.now.which in
    let sources = map (λ s. (s.member.which, s.stored)) c.args.sources.now in
    let old = mutex_guard_value c.lock_when-state.result in
    let new = c.look.new.self in
    let l = seen g b in
    let lent = sym c.deref_mut-2.ensures.value in
    let follows = mode_here l (following g b) in
    let still : AreFollowed o new.seen new.shard sources =
    subst (λ (s : ShardRecord). AreFollowed o new.seen s sources) (sym l.is)
    (followed-same o old.seen new.seen which l.alone sources (subst (λ (s : ShardRecord). AreFollowed o old.seen s sources) l.was (level g b))) in
    record {
      following = subst (λ (v : ShardView). mode o v.seen v.shard.slot ≡ Following) lent follows;
      looked = ap (entries_on c.deref_mut-2.result.now.shard.slot) (l.seen ∙ ap (λ (v : ShardView). v.seen) lent);
      may =
          subst (MayServe o c.look.new.pass.seen) (ap (λ (v : ShardView). v.shard) lent)
          (may_serve_looked (λ s. s.member.which) (λ s. s.stored) o c.requires.opens which new.shard l.is c.args.sources.now c.args.pass.now.seen new.seen
          c.look.new.pass.seen (sym l.seen) c.requires.of_sources c.requires.retired still l.later.pass (legal_is o new.seen l.later.legal) follows);
      within =
          subst (λ (v : ShardView). row_count (shard_rows o v.seen v.shard) ≤ g.W.World.limits.rows) lent
          (subst (λ (s : ShardRecord). row_count (shard_rows o new.seen s) ≤ g.W.World.limits.rows) (sym l.is)
          (subst (λ db. row_count db ≤ g.W.World.limits.rows) (sym (held-same o old.seen new.seen which l.alone))
          (subst (λ (s : ShardRecord). row_count (shard_rows o old.seen s) ≤ g.W.World.limits.rows) l.was (few g b))));
    }

pub returns-clause-served : goal.returns-clause-served
returns-clause-served g c =
    let b = (goal.at.returns-clause-served g c).After-deref_mut-2 in
    changed g.W.World.opening c.args.pass.now c.look.new.pass c.serve.new.pass c.deref_mut-2.result.now c.args.target.now.which Serve (on g b) c.serve.ensures.changed (same g b)

pub returns-clause-once : goal.returns-clause-once
returns-clause-once g c =
    let b = (goal.at.returns-clause-once g c).After-deref_mut-2 in
    let slot = c.args.target.now.which.slot in
    let p = c.args.pass.now in
    let q = c.look.new.pass in
    let now = c.serve.new.pass in
    looked_then (slot ∷ []) (slot ∷ slot ∷ []) p q now (looked_at p q slot _ _ (seen g b).pass)
    (change_looks g.W.World.opening slot c.deref_mut-2.result.now Serve q now (ap (λ (s : ShardRecord). s.slot) (same g b)) c.serve.ensures.changed)
