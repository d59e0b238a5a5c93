-- What the engine's parts do in an open transaction, from what they tell of its shard.
use Rattle.std.proofs.Common.{◌≡◌, ◌⊎◌, inl, inr, ℕ, ◌≤◌, true, List, [], length, Option, Some, None, Result, Ok, Err, refl, sym, ap, subst, ◌∙◌}
use Rattle.std.specs.Prelude.{IfOk, IfErr, OnOk}
use Rattle.std.specs.List.{AllByRecursion}
use Rattle.vt_value.specs.declared.refusal.Refusal.{Refusal}
use Rattle.vt_value.specs.declared.refusal.Refusal.TheVariants.{OutOfMemory, SeveralShards, NotSupported}
use Rattle.vt_value.specs.Values.{Row}
use Rattle.vschema.specs.declared.schema.Query.{Query}
use Rattle.vschema.specs.declared.schema.Table.{Table}
use Rattle.vschema.specs.declared.schema.Typed.{Typed}
use Rattle.vschema.specs.declared.schema.Typed.TheVariants as typed
use Rattle.vschema.specs.declared.changes.Write.{Write}
use Rattle.vschema.specs.Sources.{SourcesThere, JoinsInPlace}
use Rattle.vschema.specs.TypedWrites.{IsTypedWrite}
use Rattle.vschema.specs.WellFormed.{is_vschema}
use Rattle.shard_contents.specs.Queries.{IsAnswer}
use Rattle.shard_contents.specs.Writes.{written_table}
use Rattle.shard_calls.specs.Route.{Route}
use Rattle.shard_calls.specs.Routes.{table_at, route_of, write_route}
use Rattle.journal.specs.Runs.{IsLegal, NumbersBelow}
use Rattle.journal.specs.Views.{PassView}
use Rattle.serving.specs.Partitions.{Seat, IsPartition, AreOf}
use Rattle.shard_run.specs.declared.ShardRecord.{ShardRecord}
use Rattle.shard_run.specs.declared.Entry.{Entry}
use Rattle.shard_run.specs.Runs.{Opening}
use Rattle.shard_run.specs.Openings.{IsOpening}
use Rattle.shard_contents.specs.Limits.{Limits}
use Rattle.shard_contents.specs.Entries.{MayFollow, commit_of}
use Rattle.shard_contents.specs.Transactions.{PendingView, IsPendingOf}
use Rattle.shard_calls.proofs.LooksIn.{Of, session_of}
use Rattle.shard_calls.specs.declared.reply.Answer.TheVariants.{Rows, Count}
use Rattle.shard_calls.specs.declared.reply.Reply.{Reply}
use Rattle.shard_calls.specs.declared.reply.ShardRead.{ShardRead}
use Rattle.shard_calls.specs.Answers.{needed, HasGone, WasFound}
use Rattle.shard_calls.specs.Transactions as t
use Rattle.shard_calls.specs.Transactions.{Transaction, PassAndTx, GivesIn, IsRefusedIn}
use Rattle.shard_calls.specs.Pendings as stands
use Rattle.shard_calls.specs.Pendings.{BoundView, OpenView, Represents, IsOf, bound_of}
use Rattle.shard_calls.specs.inner.InTransactions.{GoesOnIn, IsRefusedStep, IsSeatOf, NeedsNoSeat, NeedsOther, HasReadAt, IsNotReadAt, HasWrittenAt, IsNotWrittenAt, HasCommittedAt, IsNotCommittedAt}
use Rattle.route_engine.specs.inner.Pendings.{IsReady}
use Rattle.route_engine.proofs.Anywhere.{reads_nowhere, writes_nowhere, names_anywhere}
use Rattle.shard_calls.proofs.Gathers.{stays}
use Rattle.route_engine.proofs.Stepping as s
use Rattle.route_engine.proofs.Stepping.{Fits}

pub always : {T E P : Type 0} (r : Result T E) → P → OnOk r P
always (Ok t) h = h
always (Err e) h = tt

-- some transaction stands for what the program keeps
pub open_one : (o : Opening) (p : PassView Entry) (v : OpenView) → IsOf o (Some v) p → (tr : Transaction) × Represents o p (Some v) (Some tr)
open_one o p v (_, stands.unbound {t = tr} l all none) = (tr, stands.unbound l all none)
open_one o p v (_, stands.bound {t = tr} is) = (tr, stands.bound is)

module _ (o : Opening) (limits : Limits) (p : PassView Entry) (ready : IsReady o p) (v : OpenView) where
  opens : IsOpening o
  opens = ready.opens

  formed : is_vschema o.schema ≡ true
  formed = ready.formed

  legal : IsLegal (MayFollow o) p.seen
  legal = ready.legal

  mine : Of p
  mine = session_of p ready.session

  below : NumbersBelow commit_of mine.session p.statements p.seen
  below = ready.above mine.session mine.is

  -- what the shard's calls ask
  pub tied_to : IsOf o (Some v) p → (b : BoundView) → Fits v b → (u : ShardRecord) → bound_of u b.seats ≡ b → IsPendingOf o u v.pending p
  tied_to of b fits u same =
      let tr = open_one o p v of in s.tied o opens formed limits p legal mine.session mine.is below v tr.0 tr.1 b fits u same

  -- a growth is refused
  pub without_memory : (typed : Typed) → IsRefusedStep o limits p v typed OutOfMemory p
  without_memory typed = record { from = λ tr st. t.no_memory ([], stays o p legal) }

  pub without_memory_after : (typed : Typed) (now : PassView Entry) → HasGone o p now → IsRefusedStep o limits p v typed OutOfMemory now
  without_memory_after typed now gone = record { from = λ tr st. t.no_memory gone }

  -- a query
  module _ (q : Query) (there : SourcesThere (length o.schema.tables) q) (joins : JoinsInPlace o.schema q) (table : Table) (table_is : table ≡ table_at o.schema q.table) (route : Route)
      (route_is : route ≡ route_of table q.join q.filter) where
    abbrev shown : List Row → List ShardRead → Reply
    shown rows reads = record { answer = Rows (record { table = q.table; join = q.join; items = q.items; qualified = q.qualified; rows = rows }); reads = reads }

    route_at : route ≡ route_of (table_at o.schema q.table) q.join q.filter
    route_at = route_is ∙ ap (λ (x : Table). route_of x q.join q.filter) table_is

    needed_is : (seats : List Seat) → needed table route seats ≡ t.needed_for o q seats
    needed_is seats = ap (λ (x : Table). needed x route seats) table_is ∙ ap (λ (x : Route). needed (table_at o.schema q.table) x seats) route_at

    seat_is : (b : BoundView) → IsSeatOf table route b → IsSeatOf (table_at o.schema q.table) (route_of (table_at o.schema q.table) q.join q.filter) b
    seat_is b is = record {
      keyspace = is.keyspace ∙ ap (λ (x : Table). x.keyspace) table_is;
      partition = is.partition;
      only = sym (needed_is b.seats) ∙ is.only;
    }

    pub read_goes : (b : BoundView) → Fits v b → IsSeatOf table route b → (rows : List Row) (reads : List ShardRead) (now : PassView Entry) (pending : PendingView)
        → HasReadAt o b p v.pending q rows reads now pending
        → GoesOnIn o limits p v (typed.Select q) (shown rows reads) now (Some (record { bound = Some b; pending = pending }))
    read_goes b fits seat rows reads now pending has = record {
      from = λ tr st. s.goes_read o opens formed limits p legal mine.session mine.is below v tr st b fits q there joins (seat_is b seat) rows reads now pending has;
    }

    pub read_refused : (b : BoundView) → Fits v b → IsSeatOf table route b → (e : Refusal) (now : PassView Entry) → IsNotReadAt o b p v.pending e now
        → IsRefusedStep o limits p v (typed.Select q) e now
    read_refused b fits seat e now fault = record {
      from = λ tr st. s.not_read o opens formed limits p legal mine.session mine.is below v tr st b fits q (seat_is b seat) e now fault;
    }

    pub read_nowhere : NeedsNoSeat table route → (rows : List Row) → IsAnswer q [] rows → (reads : List ShardRead) → reads ≡ []
        → GoesOnIn o limits p v (typed.Select q) (shown rows reads) p (Some v)
    read_nowhere none rows answer reads no_reads = record {
      from = λ tr st.
          subst (λ (l : List ShardRead). (u : Option Transaction) × GivesIn o limits p tr (typed.Select q) (shown rows l) (record { pass = p; tx = u }) × Represents o p (Some v) u)
          (sym no_reads)
          (s.goes_anywhere o opens formed limits p legal mine.session mine.is below v tr st (typed.Select q)
          (Rows (record { table = q.table; join = q.join; items = q.items; qualified = q.qualified; rows = rows }))
          (reads_nowhere o opens formed q (record { table = q.table; join = q.join; items = q.items; qualified = q.qualified; rows = rows }) p.seen there joins none.0 none.1 (sym (needed_is none.0) ∙ none.2) refl refl refl refl answer));
    }

    pub read_elsewhere : (b : BoundView) → v.bound ≡ Some b → NeedsOther table route b → IsRefusedStep o limits p v (typed.Select q) SeveralShards p
    read_elsewhere b at fault = record {
      from = λ tr st. s.other_shard o opens formed limits p legal mine.session mine.is below v tr st b at (typed.Select q) (table_at o.schema q.table).keyspace refl fault.seats
          fault.partition (λ here. fault.kept (here ∙ ap (λ (x : Table). x.keyspace) (sym table_is))) (λ none. fault.some (needed_is fault.seats ∙ none))
          (λ here only. fault.other (here ∙ ap (λ (x : Table). x.keyspace) (sym table_is)) (needed_is fault.seats ∙ only));
    }

    pub read_of_several : v.bound ≡ None → (now : PassView Entry) (seats : List Seat) → IsPartition seats → AreOf table.keyspace seats
        → AllByRecursion (WasFound o p.seen now.seen) seats → HasGone o p now → 2 ≤ length (needed table route seats)
        → IsRefusedStep o limits p v (typed.Select q) SeveralShards now
    read_of_several unbound now seats partition home found gone more = record {
      from = λ tr st.
          t.several (table_at o.schema q.table).keyspace seats (s.none_used_by o p v tr st unbound) refl
          (record { partition = partition; home = subst (λ (x : Table). AreOf x.keyspace seats) table_is home; found = found })
          (subst (λ (l : List Seat). 2 ≤ length l) (needed_is seats) more) gone;
    }

    pub read_not_bound : v.bound ≡ None → (now : PassView Entry) (seats : List Seat) → IsPartition seats → AreOf table.keyspace seats
        → AllByRecursion (WasFound o p.seen now.seen) seats → HasGone o p now → (e : Refusal)
        → ((e ≡ OutOfMemory) ⊎ ((e ≡ SeveralShards) × (2 ≤ length (needed table route seats)))) → IsRefusedStep o limits p v (typed.Select q) e now
    read_not_bound unbound now seats partition home found gone e (inl is_e) =
        subst (λ (x : Refusal). IsRefusedStep o limits p v (typed.Select q) x now) (sym is_e) (without_memory_after (typed.Select q) now gone)
    read_not_bound unbound now seats partition home found gone e (inr (is_e, more)) =
        subst (λ (x : Refusal). IsRefusedStep o limits p v (typed.Select q) x now) (sym is_e) (read_of_several unbound now seats partition home found gone more)

    -- of what a call gave
    pub all_read : (b : BoundView) → Fits v b → IsSeatOf table route b → (now : PassView Entry) (after : Option BoundView) (pending : PendingView)
        (r : Result (List Row × List ShardRead) Refusal) → OnOk r (after ≡ Some b) → IfOk r (λ x. HasReadAt o b p v.pending q x.0 x.1 now pending)
        → IfOk r (λ x. GoesOnIn o limits p v (typed.Select q) (shown x.0 x.1) now (Some (record { bound = after; pending = pending })))
    all_read b fits seat now after pending (Ok x) is has =
        subst (λ (y : Option BoundView). GoesOnIn o limits p v (typed.Select q) (shown x.0 x.1) now (Some (record { bound = y; pending = pending }))) (sym is)
        (read_goes b fits seat x.0 x.1 now pending has)
    all_read b fits seat now after pending (Err e) is has = tt

    pub all_not_read : (b : BoundView) → Fits v b → IsSeatOf table route b → (now : PassView Entry) (r : Result (List Row × List ShardRead) Refusal)
        → IfErr r (λ e. IsNotReadAt o b p v.pending e now) → IfErr r (λ e. IsRefusedStep o limits p v (typed.Select q) e now)
    all_not_read b fits seat now (Ok x) fault = tt
    all_not_read b fits seat now (Err e) fault = read_refused b fits seat e now fault

    pub all_nowhere : (after : Option BoundView) → after ≡ v.bound → NeedsNoSeat table route → (r : Result (List Row × List ShardRead) Refusal)
        → IfOk r (λ x. IsAnswer q [] x.0) → IfOk r (λ x. x.1 ≡ [])
        → IfOk r (λ x. GoesOnIn o limits p v (typed.Select q) (shown x.0 x.1) p (Some (record { bound = after; pending = v.pending })))
    all_nowhere after same none (Ok x) answer reads =
        subst (λ (y : Option BoundView). GoesOnIn o limits p v (typed.Select q) (shown x.0 x.1) p (Some (record { bound = y; pending = v.pending }))) (sym same)
        (read_nowhere none x.0 answer x.1 reads)
    all_nowhere after same none (Err e) answer reads = tt

    pub nowhere_refused : (r : Result (List Row × List ShardRead) Refusal) → IfErr r (λ e. e ≡ OutOfMemory)
        → IfErr r (λ e. IsRefusedStep o limits p v (typed.Select q) e p)
    nowhere_refused (Ok x) is = tt
    nowhere_refused (Err e) is = subst (λ (y : Refusal). IsRefusedStep o limits p v (typed.Select q) y p) (sym is) (without_memory (typed.Select q))

  -- a write
  module _ (wr : Write) (is : IsTypedWrite o.schema wr) (table : Table) (table_is : table ≡ table_at o.schema (written_table wr)) (route : Route)
      (route_is : route ≡ write_route o.schema wr) where
    abbrev count_of : ℕ → Reply
    count_of count = record { answer = Count count; reads = [] }

    needed_by_is : (seats : List Seat) → needed table route seats ≡ Rattle.shard_calls.specs.Answers.needed_by o wr seats
    needed_by_is seats =
        ap (λ (x : Table). needed x route seats) table_is ∙ ap (λ (x : Route). needed (table_at o.schema (written_table wr)) x seats) route_is

    seat_by : (b : BoundView) → IsSeatOf table route b → IsSeatOf (table_at o.schema (written_table wr)) (write_route o.schema wr) b
    seat_by b of = record {
      keyspace = of.keyspace ∙ ap (λ (x : Table). x.keyspace) table_is;
      partition = of.partition;
      only = sym (needed_by_is b.seats) ∙ of.only;
    }

    pub write_goes : (b : BoundView) → Fits v b → IsSeatOf table route b → (count : ℕ) (now : PassView Entry) (pending : PendingView)
        → HasWrittenAt o b p v.pending wr count now pending
        → GoesOnIn o limits p v (typed.Write wr) (count_of count) now (Some (record { bound = Some b; pending = pending }))
    write_goes b fits seat count now pending has = record {
      from = λ tr st. s.goes_written o opens formed limits p legal mine.session mine.is below v tr st b fits wr is (seat_by b seat) count now pending has;
    }

    pub write_refused : (b : BoundView) → Fits v b → IsSeatOf table route b → (e : Refusal) (now : PassView Entry) → IsNotWrittenAt o b p v.pending wr e now
        → IsRefusedStep o limits p v (typed.Write wr) e now
    write_refused b fits seat e now fault = record {
      from = λ tr st. s.not_written o opens formed limits p legal mine.session mine.is below v tr st b fits wr is (seat_by b seat) e now fault;
    }

    pub write_nowhere : NeedsNoSeat table route → GoesOnIn o limits p v (typed.Write wr) (count_of 0) p (Some v)
    write_nowhere none = record {
      from = λ tr st.
          s.goes_anywhere o opens formed limits p legal mine.session mine.is below v tr st (typed.Write wr) (Count 0)
          (writes_nowhere o opens formed wr p.seen is none.0 none.1 (sym (needed_by_is none.0) ∙ none.2));
    }

    pub written_nowhere : (after : Option BoundView) → after ≡ v.bound → NeedsNoSeat table route
        → GoesOnIn o limits p v (typed.Write wr) (count_of 0) p (Some (record { bound = after; pending = v.pending }))
    written_nowhere after same none =
        subst (λ (y : Option BoundView). GoesOnIn o limits p v (typed.Write wr) (count_of 0) p (Some (record { bound = y; pending = v.pending }))) (sym same)
        (write_nowhere none)

    pub write_elsewhere : (b : BoundView) → v.bound ≡ Some b → NeedsOther table route b → IsRefusedStep o limits p v (typed.Write wr) SeveralShards p
    write_elsewhere b at fault = record {
      from = λ tr st. s.other_shard o opens formed limits p legal mine.session mine.is below v tr st b at (typed.Write wr) (table_at o.schema (written_table wr)).keyspace refl fault.seats
          fault.partition (λ here. fault.kept (here ∙ ap (λ (x : Table). x.keyspace) (sym table_is))) (λ none. fault.some (needed_by_is fault.seats ∙ none))
          (λ here only. fault.other (here ∙ ap (λ (x : Table). x.keyspace) (sym table_is)) (needed_by_is fault.seats ∙ only));
    }

    pub write_of_several : v.bound ≡ None → (now : PassView Entry) (seats : List Seat) → IsPartition seats → AreOf table.keyspace seats
        → AllByRecursion (WasFound o p.seen now.seen) seats → HasGone o p now → 2 ≤ length (needed table route seats)
        → IsRefusedStep o limits p v (typed.Write wr) SeveralShards now
    write_of_several unbound now seats partition home found gone more = record {
      from = λ tr st.
          t.several (table_at o.schema (written_table wr)).keyspace seats (s.none_used_by o p v tr st unbound) refl
          (record { partition = partition; home = subst (λ (x : Table). AreOf x.keyspace seats) table_is home; found = found })
          (subst (λ (l : List Seat). 2 ≤ length l) (needed_by_is seats) more) gone;
    }

    pub write_not_bound : v.bound ≡ None → (now : PassView Entry) (seats : List Seat) → IsPartition seats → AreOf table.keyspace seats
        → AllByRecursion (WasFound o p.seen now.seen) seats → HasGone o p now → (e : Refusal)
        → ((e ≡ OutOfMemory) ⊎ ((e ≡ SeveralShards) × (2 ≤ length (needed table route seats)))) → IsRefusedStep o limits p v (typed.Write wr) e now
    write_not_bound unbound now seats partition home found gone e (inl is_e) =
        subst (λ (x : Refusal). IsRefusedStep o limits p v (typed.Write wr) x now) (sym is_e) (without_memory_after (typed.Write wr) now gone)
    write_not_bound unbound now seats partition home found gone e (inr (is_e, more)) =
        subst (λ (x : Refusal). IsRefusedStep o limits p v (typed.Write wr) x now) (sym is_e) (write_of_several unbound now seats partition home found gone more)

    -- of what a call gave
    pub all_written : (b : BoundView) → Fits v b → IsSeatOf table route b → (now : PassView Entry) (after : Option BoundView) (pending : PendingView)
        (r : Result ℕ Refusal) → OnOk r (after ≡ Some b) → IfOk r (λ count. HasWrittenAt o b p v.pending wr count now pending)
        → IfOk r (λ count. GoesOnIn o limits p v (typed.Write wr) (count_of count) now (Some (record { bound = after; pending = pending })))
    all_written b fits seat now after pending (Ok count) same has =
        subst (λ (y : Option BoundView). GoesOnIn o limits p v (typed.Write wr) (count_of count) now (Some (record { bound = y; pending = pending }))) (sym same)
        (write_goes b fits seat count now pending has)
    all_written b fits seat now after pending (Err e) same has = tt

    pub all_not_written : (b : BoundView) → Fits v b → IsSeatOf table route b → (now : PassView Entry) (r : Result ℕ Refusal)
        → IfErr r (λ e. IsNotWrittenAt o b p v.pending wr e now) → IfErr r (λ e. IsRefusedStep o limits p v (typed.Write wr) e now)
    all_not_written b fits seat now (Ok count) fault = tt
    all_not_written b fits seat now (Err e) fault = write_refused b fits seat e now fault

  -- SET NAMES, BEGIN and ROLLBACK
  pub names_go : GoesOnIn o limits p v typed.SetNames (record { answer = Count 0; reads = [] }) p (Some v)
  names_go = record {
    from = λ tr st. s.goes_anywhere o opens formed limits p legal mine.session mine.is below v tr st typed.SetNames (Count 0) (names_anywhere o opens formed p.seen);
  }

  pub begins_twice : IsRefusedStep o limits p v typed.Begin NotSupported p
  begins_twice = record { from = λ tr st. t.open_twice }

  pub rolls_back : GoesOnIn o limits p v typed.Rollback (record { answer = Count 0; reads = [] }) p None
  rolls_back = record { from = λ tr st. (None, t.rolls_back, stands.closed) }

  -- COMMIT
  pub commits_none : v.bound ≡ None → GoesOnIn o limits p v typed.Commit (record { answer = Count 0; reads = [] }) p None
  commits_none none = record { from = λ tr st. s.commits_unbound o opens formed limits p legal mine.session mine.is below v tr st none }

  pub commits_on : (b : BoundView) → v.bound ≡ Some b → (now : PassView Entry) → HasCommittedAt o limits b p v.pending now
      → GoesOnIn o limits p v typed.Commit (record { answer = Count 0; reads = [] }) now None
  commits_on b at now done = record { from = λ tr st. s.commits_bound o opens formed limits p legal mine.session mine.is below v tr st b at now done }

  pub commit_refused : (b : BoundView) → v.bound ≡ Some b → (e : Refusal) (now : PassView Entry) → IsNotCommittedAt o limits b p v.pending e now
      → IsRefusedStep o limits p v typed.Commit e now
  commit_refused b at e now fault = record { from = λ tr st. s.not_committed o opens formed limits p legal mine.session mine.is below v tr st b at e now fault }
