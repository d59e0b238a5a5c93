use Rattle.std.proofs.Common.{◌≡◌, ◌<◌, ◌≤◌, sym, subst, ◌∙◌, rules}
use Rattle.std.proofs.lemmas.Bool.{leb-true, leb-false}
use Rattle.std.specs.Sync.Mutex.{mutex_guard_value}
use Rattle.shard_run.specs.declared.ShardRecord.{ShardRecord}
use Rattle.shard_run.specs.declared.Mode.TheVariants.{Following, Retired}
use Rattle.shard_run.specs.Runs.{Run, mode, shard_rows}
use Rattle.shard_run.specs.Openings.{row_count}
use Rattle.shard_contents.specs.Entries.{ShardView}
use Rattle.follow.proofs.LockedLooks.{LookedAs, looked_as, mode_here}
use Rattle.follow.specs.Steps.{IsOnward}
use Rattle.follow.proofs.Turns.{looked_at, one_look}
use Rattle.reshard_cutover.proofs.Onward.{looked_first}
use Rattle.reshard_cutover.proofs.fitting.fits.Goals as goal
use Rattle.reshard_cutover.proofs.fitting.fits.Goals.{After-deref-2}

-- the shard, as it was locked and looked at
seen : (g : _) (c : goal.After-deref-2 g)
    → LookedAs g.W.World.opening c.args.member.now.which c.args.pass.now c.look.new.pass (mutex_guard_value c.lock_when-state.result) c.look.new.self
seen g c =
    let was : (mutex_guard_value c.lock_when-state.result).shard ≡ c.args.member.now.which = search rules in
    looked_as c.deref_mut.result.now c.deref_mut.ensures.value was c.look.ensures.seen c.look.ensures.shard c.look.ensures.pass

following : (g : _) (c : goal.After-deref-2 g) → mode g.W.World.opening (mutex_guard_value c.lock_when-state.result).seen (mutex_guard_value c.lock_when-state.result).shard.slot ≡ Following
following g c = search rules

on : (g : _) (c : goal.After-deref-2 g) → IsOnward g.W.World.opening c.args.pass.now c.look.new.pass
on g c = looked_first g.W.World.opening c.args.pass.now c.look.new.pass _ _ _ c.requires.legal c.look.ensures.seen c.look.ensures.pass

pub fits-requires : goal.fits-requires
fits-requires g c =
    let following =
    subst (λ (v : ShardView). mode g.W.World.opening v.seen v.shard.slot ≡ Following) (sym c.deref-2.ensures) (mode_here (seen g c) (following g c)) in
    record { lives = λ retired. let e : Following ≡ Retired = sym following ∙ retired in cc }

pub returns-clause-many : goal.returns-clause-many
returns-clause-many g c e =
    let b = (goal.at.returns-clause-many g c).After-deref-2 in
    let o = g.W.World.opening in
    let l = seen g b in
    let x = c.deref-2.result.now in
    subst (λ (r : Run). g.W.World.limits.rows < row_count (shard_rows o r c.args.member.now.which)) (sym l.seen)
    (subst (λ (s : ShardRecord). g.W.World.limits.rows < row_count (shard_rows o c.look.new.self.seen s)) l.is
    (subst (λ (v : ShardView). g.W.World.limits.rows < row_count (shard_rows o v.seen v.shard)) c.deref-2.ensures
    (leb-false (row_count (shard_rows o x.seen x.shard)) g.W.World.limits.rows (sym c.fits.ensures ∙ e))))

pub returns-clause-few : goal.returns-clause-few
returns-clause-few g c e =
    let b = (goal.at.returns-clause-few g c).After-deref-2 in
    let o = g.W.World.opening in
    let l = seen g b in
    let x = c.deref-2.result.now in
    subst (λ (r : Run). row_count (shard_rows o r c.args.member.now.which) ≤ g.W.World.limits.rows) (sym l.seen)
    (subst (λ (s : ShardRecord). row_count (shard_rows o c.look.new.self.seen s) ≤ g.W.World.limits.rows) l.is
    (subst (λ (v : ShardView). row_count (shard_rows o v.seen v.shard) ≤ g.W.World.limits.rows) c.deref-2.ensures
    (leb-true (row_count (shard_rows o x.seen x.shard)) g.W.World.limits.rows (sym c.fits.ensures ∙ e))))

pub returns-clause-looked : goal.returns-clause-looked
returns-clause-looked g c =
    let b = (goal.at.returns-clause-looked g c).After-deref-2 in
    looked_at c.args.pass.now c.look.new.pass c.args.member.now.which.slot _ _ (seen g b).pass

pub returns-clause-ends : goal.returns-clause-ends
returns-clause-ends g c =
    let b = (goal.at.returns-clause-ends g c).After-deref-2 in
    let p = c.args.pass.now in
    let now = c.look.new.pass in
    let slot = c.args.member.now.which.slot in
    record { slot = slot; before = p.looks; last = one_look p now slot c.look.new.self.seen (seen g b).pass }

pub returns-clause-onward : goal.returns-clause-onward
returns-clause-onward g c =
    let b = (goal.at.returns-clause-onward g c).After-deref-2 in
    on g b
