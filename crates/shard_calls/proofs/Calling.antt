-- What a shard's calls tell of the shard that a transaction is bound to.
use Rattle.std.proofs.Common.{◌≡◌, ◌≢◌, ℕ, List, [], ◌∷◌, Result, Ok, Err, sym, ap, subst, ◌∙◌}
use Rattle.std.specs.Prelude.{MatchResult, IfOk, IfErr, OnOk, OnErr}
use Rattle.vt_value.specs.declared.refusal.Refusal.{Refusal}
use Rattle.vt_value.specs.declared.refusal.Refusal.TheVariants.{ShardFull}
use Rattle.vt_value.specs.Values.{Row}
use Rattle.vschema.specs.declared.schema.Place.{Place}
use Rattle.vschema.specs.declared.schema.Query.{Query}
use Rattle.vschema.specs.declared.changes.Write.{Write}
use Rattle.journal.specs.Views.{PassView}
use Rattle.shard.specs.ShardRecord.{ShardRecord}
use Rattle.shard.specs.Entry.{Entry}
use Rattle.shard.specs.Mode.TheVariants.{Following}
use Rattle.shard.specs.Runs.{Opening, mode}
use Rattle.shard.specs.Legal.{IsOnItsSlot}
use Rattle.shard.specs.Limits.{Limits}
use Rattle.serving.specs.Partitions.{Seat}
use Rattle.shard.specs.Entries.{HasLooked}
use Rattle.shard.specs.Seats.{place_at}
use Rattle.shard.specs.Transactions.{PendingView, IsClear, IsStopped, HasReadIn, HasWrittenIn, HasCommittedAll, IsReadRefusal, IsWriteRefusal, IsCommitAllRefusal}
use Rattle.shard.specs.Transactions as tx
use Rattle.shard_calls.specs.declared.reply.ShardRead.{ShardRead}
use Rattle.shard_calls.specs.Answers.{HasServed}
use Rattle.shard_calls.specs.Pendings.{BoundView, bound_of}
use Rattle.shard_calls.specs.inner.InTransactions as w
use Rattle.shard_calls.specs.inner.InTransactions.{HasReadAt, IsNotReadAt, HasWrittenAt, IsNotWrittenAt, HasCommittedAt, IsNotCommittedAt}
use Rattle.shard_calls.proofs.Finding.{served_at}

abbrev view_at : List Seat → ℕ → ℕ → Place → BoundView
view_at seats k n q = record { keyspace = k; seat = (n, q.range, q.keyspace); seats = seats }

-- the shard of a seat is the one that a transaction is bound to by it
pub bound_is : (b : BoundView) (seat : Seat) → seat ≡ b.seat → b.seat.2 ≡ b.keyspace → (s : ShardRecord) → s.slot ≡ seat.0 → s.place ≡ place_at seat
    → bound_of s b.seats ≡ b
bound_is b seat at home s on_slot is =
    let n : s.slot ≡ b.seat.0 = on_slot ∙ ap (λ (x : Seat). x.0) at in
    let q : s.place ≡ place_at b.seat = is ∙ ap place_at at in
    ap (λ (x : ℕ). view_at b.seats s.place.keyspace x s.place) n ∙ ap (λ (x : Place). view_at b.seats x.keyspace b.seat.0 x) q
    ∙ ap (λ (k : ℕ). view_at b.seats k b.seat.0 (place_at b.seat)) home

module _ (o : Opening) (limits : Limits) (b : BoundView) (seat : Seat) (at : seat ≡ b.seat) (home : b.seat.2 ≡ b.keyspace)
    (p now : PassView Entry) (v : PendingView) (s : ShardRecord) (stands : IsOnItsSlot o now.seen s) (on_slot : s.slot ≡ seat.0) (s_place : s.place ≡ place_at seat)
    (past : mode o now.seen seat.0 ≡ Following → ⊥) where
  abbrev slot : ℕ
  slot = seat.0

  here : bound_of s b.seats ≡ b
  here = bound_is b seat at home s on_slot s_place

  served : HasServed o now.seen s
  served = served_at o now.seen s seat.0 stands on_slot past

  there : HasLooked o slot p now → HasLooked o s.slot p now
  there looked = subst (λ (n : ℕ). HasLooked o n p now) (sym on_slot) looked

  pub was_read : HasLooked o slot p now → (q : Query) (rows : List Row) (entries : ℕ) (w : PendingView) → HasReadIn o s v now.seen q rows entries w
      → (reads : List ShardRead) → reads ≡ record { slot = slot; entries = entries } ∷ [] → HasReadAt o b p v q rows reads now w
  was_read looked q rows entries w has reads reads_are = record {
    shard = s;
    is = here;
    stands = stands;
    served = served;
    looked = there looked;
    entries = entries;
    reads_are = reads_are ∙ ap (λ (n : ℕ). record { slot = n; entries = entries } ∷ []) (sym on_slot);
    read = has;
  }

  pub was_not_read : HasLooked o slot p now → (e : Refusal) → IsReadRefusal o s now.seen v e → IsNotReadAt o b p v e now
  was_not_read looked e why = w.refused s here stands served (there looked) why

  -- a write
  pub was_written : HasLooked o slot p now → (write : Write) (new : PendingView) (r : Result ℕ Refusal)
      → MatchResult r (λ count. HasWrittenIn o s v now.seen write count new) (λ e. IsWriteRefusal o s now.seen v write e × (new ≡ v))
      → IfOk r (λ count. HasWrittenAt o b p v write count now new)
  was_written looked write new (Ok count) has = record { shard = s; is = here; stands = stands; served = served; looked = there looked; wrote = has }
  was_written looked write new (Err e) has = tt

  pub was_not_written : HasLooked o slot p now → (write : Write) (new : PendingView) (r : Result ℕ Refusal)
      → MatchResult r (λ count. HasWrittenIn o s v now.seen write count new) (λ e. IsWriteRefusal o s now.seen v write e × (new ≡ v))
      → IfErr r (λ e. IsNotWrittenAt o b p v write e now)
  was_not_written looked write new (Ok count) has = tt
  was_not_written looked write new (Err e) has = record { shard = s; is = here; stands = stands; served = served; looked = there looked; why = has.0 }

  pub write_unchanged : (write : Write) (new : PendingView) (r : Result ℕ Refusal)
      → MatchResult r (λ count. HasWrittenIn o s v now.seen write count new) (λ e. IsWriteRefusal o s now.seen v write e × (new ≡ v))
      → OnErr r (new ≡ v)
  write_unchanged write new (Ok count) has = tt
  write_unchanged write new (Err e) has = has.1

  -- a commit that has written
  module _ {T : Type 0} where
    pub was_committed : v.writes ≢ [] → (new : PendingView) (r : Result T Refusal)
        → MatchResult r (λ _. HasCommittedAll o limits s p v now) (λ e. HasLooked o slot p now × IsCommitAllRefusal o limits s now.seen v e × (new ≡ v))
        → OnOk r (HasCommittedAt o limits b p v now)
    was_committed some new (Ok t) has = w.wrote s here stands some has
    was_committed some new (Err e) has = tt

    pub was_not_committed : v.writes ≢ [] → (new : PendingView) (r : Result T Refusal)
        → MatchResult r (λ _. HasCommittedAll o limits s p v now) (λ e. HasLooked o slot p now × IsCommitAllRefusal o limits s now.seen v e × (new ≡ v))
        → IfErr r (λ e. IsNotCommittedAt o limits b p v e now)
    was_not_committed some new (Ok t) has = tt
    was_not_committed some new (Err e) has = record { shard = s; is = here; stands = stands; served = served; looked = there has.0; why = has.1; wrote = λ full. some }

    pub commit_unchanged : (new : PendingView) (r : Result T Refusal)
        → MatchResult r (λ _. HasCommittedAll o limits s p v now) (λ e. HasLooked o slot p now × IsCommitAllRefusal o limits s now.seen v e × (new ≡ v))
        → OnErr r (new ≡ v)
    commit_unchanged new (Ok t) has = tt
    commit_unchanged new (Err e) has = has.2

  -- one that has only read
  pub was_clear : HasLooked o slot p now → IsClear o s now.seen v → v.writes ≡ [] → HasCommittedAt o limits b p v now
  was_clear looked clear none = w.read s here stands (there looked) clear none

  not_full : (e : Refusal) → IsStopped o s now.seen v e → e ≡ ShardFull → ⊥
  not_full _ (tx.moved fault) is = cc is
  not_full _ (tx.conflict serving changed) is = cc is

  pub was_stopped : HasLooked o slot p now → (e : Refusal) → IsStopped o s now.seen v e → IsNotCommittedAt o limits b p v e now
  was_stopped looked e why = record { shard = s; is = here; stands = stands; served = served; looked = there looked; why = tx.stopped why; wrote = λ full. absurd (not_full e why full) }
