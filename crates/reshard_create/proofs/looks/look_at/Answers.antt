use Rattle.std.proofs.Common.{◌≡◌, ℕ, [], ◌∷◌, sym, ap, ◌∙◌, subst, rules, refl}
use Rattle.std.specs.Sync.Mutex.{mutex_guard_value}
use Rattle.keyrange.specs.declared.KeyRange.{KeyRange}
use Rattle.shard_run.specs.declared.ShardRecord.{ShardRecord}
use Rattle.shard_run.specs.declared.Mode.TheVariants.{Following}
use Rattle.shard_run.specs.Runs.{Run, mode}
use Rattle.shard_law.specs.Legal.{IsOnItsSlot}
use Rattle.shard.proofs.Found.{of_run}
use Rattle.shard.proofs.LockedLooks.{LookedAs, looked_as, mode_stays}
use Rattle.shard.specs.Entries.{ShardView}
use Rattle.reshard_cutover.specs.Turns.{HasLookedAt}
use Rattle.reshard_cutover.proofs.Turns.{looked_at, one_look_here}
use Rattle.reshard_cutover.proofs.Onward.{looked_first}
use Rattle.reshard_create.specs.Begun.{IsNotFollowing}
use Rattle.reshard_create.proofs.SeenShards.{sighted_at}
use Rattle.reshard_create.proofs.looks.look_at.Goals as goal

pub returns-clause-sighted : goal.returns-clause-sighted
returns-clause-sighted g c =
    let o = g.W.World.opening in
    let p = c.args.pass.now in
    let q = c.look.new.pass in
    let old = mutex_guard_value c.lock_when-state.result in
    let new = c.look.new.self in
    let on : old.shard.slot ≡ c.slot-slot.result = search rules in
    let at : old.shard.place ≡ record { keyspace = c.args.keyspace; range = c.range.result } = search rules in
    let past : mode o old.seen old.shard.slot ≡ Following → ⊥ = search rules in
    let l : LookedAs o old.shard p q old new =
    looked_as c.deref_mut.result.now c.deref_mut.ensures.value refl c.look.ensures.seen c.look.ensures.shard c.look.ensures.pass in
    let stands : IsOnItsSlot o q.seen new.shard =
    subst (λ (r : Run). IsOnItsSlot o r new.shard) (sym l.seen) (subst (IsOnItsSlot o new.seen) (sym c.look.ensures.shard) c.look.ensures.stands) in
    let lives : IsNotFollowing (mode o q.seen new.shard.slot) =
    λ f. past (sym (mode_stays l) ∙ ap (λ (r : Run). mode o r old.shard.slot) (sym l.seen) ∙ ap (λ (s : ShardRecord). mode o q.seen s.slot) (sym l.is) ∙ f) in
    record {
      on = ap (λ (s : ShardRecord). s.slot) l.is ∙ on ∙ c.slot-slot.ensures;
      at =
          ap (λ (s : ShardRecord). s.place) l.is ∙ at
          ∙ ap (λ (r : KeyRange). record { keyspace = c.args.keyspace; range = r }) c.range.ensures;
      of_run = of_run o q.seen new.shard stands lives;
      such = lives;
    }

pub returns-clause-now : goal.returns-clause-now
returns-clause-now g c = sym (ap (λ (x : Rattle.journal.specs.Views.PassView Rattle.shard_run.specs.declared.Entry.Entry). x.seen) c.look.ensures.pass)

pub returns-clause-onward : goal.returns-clause-onward
returns-clause-onward g c =
    looked_first g.W.World.opening c.args.pass.now c.look.new.pass _ _ _ c.requires.legal c.look.ensures.seen c.look.ensures.pass

pub returns-clause-seen : goal.returns-clause-seen
returns-clause-seen g c = (
  c.look.new.self.shard,
  sighted_at g.W.World.opening c.args.pass.now c.look.new.pass c.args.keyspace IsNotFollowing c.args.part.now c.look.new.self.shard (returns-clause-onward g c).later
      (returns-clause-sighted g c),
)

pub returns-clause-looked : goal.returns-clause-looked
returns-clause-looked g c =
    let old = mutex_guard_value c.lock_when-state.result in
    let on : old.shard.slot ≡ c.slot-slot.result = search rules in
    let same : c.deref_mut.result.now.shard.slot ≡ c.args.part.now.0 = ap (λ (v : ShardView). v.shard.slot) c.deref_mut.ensures.value ∙ on ∙ c.slot-slot.ensures in
    subst (λ (n : ℕ). HasLookedAt (n ∷ []) c.args.pass.now c.look.new.pass) same
    (looked_at c.args.pass.now c.look.new.pass _ _ _ c.look.ensures.pass)

pub returns-clause-ends : goal.returns-clause-ends
returns-clause-ends g c =
    let old = mutex_guard_value c.lock_when-state.result in
    let on : old.shard.slot ≡ c.slot-slot.result = search rules in
    let same : c.deref_mut.result.now.shard.slot ≡ c.args.part.now.0 = ap (λ (v : ShardView). v.shard.slot) c.deref_mut.ensures.value ∙ on ∙ c.slot-slot.ensures in
    (c.args.pass.now.looks, one_look_here c.args.pass.now c.look.new.pass _ _ _ same c.look.ensures.pass)
