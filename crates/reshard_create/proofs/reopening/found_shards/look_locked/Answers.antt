use Rattle.std.proofs.Common.{◌≡◌, ℕ, [], ◌∷◌, ap, ◌∙◌, subst, rules}
use Rattle.std.specs.Prelude.{IfOk}
use Rattle.std.specs.Sync.Mutex.{mutex_guard_value}
use Rattle.keyrange.specs.declared.KeyRange.{KeyRange}
use Rattle.shard.specs.Place.{Place}
use Rattle.shard_law.specs.Entries.{ShardView}
use Rattle.shard.specs.Seats.{place_at}
use Rattle.reshard_cutover.specs.Turns.{HasLookedAt}
use Rattle.reshard_create.specs.reopening.inner.Snapshots.{IsSnapshot}
use Rattle.reshard_create.proofs.reopening.found_shards.look_locked.Goals as goal

pub returns-clause-seen : goal.returns-clause-seen
returns-clause-seen g c =
    let o = g.W.World.opening in
    let part = c.args.part.now in
    let run = c.look_at.new.pass.seen in
    let old = mutex_guard_value c.lock_when-state.result in
    let lent = c.deref_mut.result.now in
    let on : old.shard.slot ≡ c.slot-slot.result = search rules in
    let at : old.shard.place ≡ record { keyspace = c.keyspace.result; range = c.range.result } = search rules in
    let slot : lent.shard.slot ≡ part.0 = ap (λ (v : ShardView). v.shard.slot) c.deref_mut.ensures.value ∙ on ∙ c.slot-slot.ensures in
    let place : lent.shard.place ≡ place_at part =
    ap (λ (v : ShardView). v.shard.place) c.deref_mut.ensures.value ∙ at ∙ ap (λ (k : ℕ). record { keyspace = k; range = c.range.result }) c.keyspace.ensures
    ∙ ap (λ (r : KeyRange). record { keyspace = part.2; range = r }) c.range.ensures in
    subst (λ (n : ℕ). IfOk c.look_at.result (λ s. IsSnapshot o run n (place_at part) s.which s.mode s.named)) slot
    (subst (λ (there : Place). IfOk c.look_at.result (λ s. IsSnapshot o run lent.shard.slot there s.which s.mode s.named)) place c.look_at.ensures.seen)

pub returns-clause-looked : goal.returns-clause-looked
returns-clause-looked g c =
    let old = mutex_guard_value c.lock_when-state.result in
    let on : old.shard.slot ≡ c.slot-slot.result = search rules in
    let slot : c.deref_mut.result.now.shard.slot ≡ c.args.part.now.0 = ap (λ (v : ShardView). v.shard.slot) c.deref_mut.ensures.value ∙ on ∙ c.slot-slot.ensures in
    subst (λ (n : ℕ). HasLookedAt (n ∷ []) c.args.pass.now c.look_at.new.pass) slot c.look_at.ensures.looked
