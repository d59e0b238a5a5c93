-- One statement of an open transaction, from what its shard did, and what then stands.
use Rattle.std.proofs.Common.{true, ◌≡◌, ◌≢◌, ℕ, inl, ◌<◌, ◌≤◌, List, [], ◌∷◌, ◌++◌, length, filter, Option, Some, None, refl, sym, ap, subst, ◌∙◌, arith}
use Rattle.std.specs.Prelude.{Contains}
use Rattle.std.specs.List.{AllByRecursion}
use Rattle.std.proofs.lemmas.Grind.{flat_map-append}
use mathlib.Core.List.{IsPrefix}
use Rattle.vschema.specs.declared.schema.Query.{Query}
use Rattle.vschema.specs.declared.schema.Table.{Table}
use Rattle.vschema.specs.declared.schema.Typed.TheVariants as typed
use Rattle.vschema.specs.declared.changes.Write.{Write}
use Rattle.vschema.specs.Database.{all_applied}
use Rattle.vschema.specs.Sources.{source_tables, SourcesThere, JoinsInPlace}
use Rattle.vschema.specs.TypedWrites.{IsTypedWrite}
use Rattle.vschema.specs.WellFormed.{is_vschema}
use Rattle.shard_contents.specs.Writes.{written_table}
use Rattle.shard_calls.specs.Route.{Route}
use Rattle.shard_calls.specs.Routes.{table_at, route_of, write_route, takes}
use Rattle.journal.specs.Runs.{IsLegal, NumbersBelow, by_session}
use Rattle.journal.specs.Views.{PassView}
use Rattle.journal.proofs.Fronts.{prefix_self, prefix_trans, legal_prefix}
use Rattle.shard_contents.proofs.Lists.{In, Contains-from_In, In-from_Contains, In-from_filter, In-left, In-last, all-weaker, all-each, all-from_In}
use Rattle.serving.specs.Partitions.{Seat, IsPartition}
use Rattle.shard_run.specs.declared.Mode.TheVariants.{Serving}
use Rattle.shard_run.specs.declared.ShardRecord.{ShardRecord}
use Rattle.shard_run.specs.declared.Entry.{Entry}
use Rattle.shard_run.specs.Runs.{Run, Opening, database, mode, stored_on}
use Rattle.shard_contents.specs.Legal.{IsOnItsSlot}
use Rattle.shard_run.specs.Openings.{IsOpening}
use Rattle.shard_contents.specs.Limits.{Limits}
use Rattle.shard_contents.specs.declared.touched_table.Touch.{Touch}
use Rattle.shard_contents.specs.Entries.{MayFollow, HasLooked, commit_of}
use Rattle.shard_contents.specs.Transactions.{PendingView, nothing_done, touched_with, touched_all, IsClear, IsTouchBy, IsPending, HasReadIn, HasWrittenIn, HasCommittedAll, entry_of}
use Rattle.shard_calls.proofs.Moves.{all_touched, touch_of, all_touched_all}
use Rattle.shard_calls.specs.declared.reply.Selected.{Selected}
use Rattle.shard_calls.specs.declared.reply.Answer.TheVariants.{Rows, Count}
use Rattle.shard_calls.specs.Seats.{seat_of}
use Rattle.shard_calls.specs.Answers.{needed, WritesAlone}
use Rattle.shard_calls.specs.Transactions as gives
use Rattle.shard_calls.specs.Transactions.{TransactionStatement, KeptPartition, Transaction, PassAndTx, NeedsBy, GiveOver, AreOver, GivesIn, IsCommitted, IsConflict, ReadsAlone, tables_of, if_any, used, writes_in, with_step, reads_of}
use Rattle.shard_calls.specs.Pendings as stands
use Rattle.shard_calls.specs.Pendings.{OpenView, BoundView, IsBound, IsTouchOf, HasTouched, Represents, IsAnywhere, GaveOnShard, bound_of}
use Rattle.route_engine.proofs.Going as g
use Rattle.route_engine.proofs.Causes.{one_on_slot, stands_early}
use Rattle.route_engine.proofs.Clearing.{no_conflict, touched_more}
use Rattle.route_engine.proofs.Over.{one_push, legal_last}

-- A transaction that has used this shard alone, or none, at a look there.
pub record ReadyOn (o : Opening) (s : ShardRecord) (p now : PassView Entry) (v : PendingView) (t : Transaction) : Type 0 where
  pub on_slot : IsOnItsSlot o now.seen s
  pub looked : HasLooked o s.slot p now
  pub touches : AllByRecursion (IsTouchOf o s p.session now.seen t.steps) v.touched
  pub trailing : AllByRecursion (HasTouched s v.touched) t.steps
  pub alone : AllByRecursion (λ u. u ≡ s) (used t.steps)
  pub at : IsClear o s now.seen v → g.IsAt o s now.seen v t.steps

module _ (o : Opening) (opens : IsOpening o) (formed : is_vschema o.schema ≡ true) (limits : Limits) (s : ShardRecord)
    (p now : PassView Entry) (v : PendingView) (t : Transaction) (ready : ReadyOn o s p now v t) (session number : ℕ)
    (low : NumbersBelow commit_of session number now.seen) where
  abbrev looked : HasLooked o s.slot p now
  looked = ready.looked

  abbrev at_then : IsClear o s now.seen v → g.IsAt o s now.seen v t.steps
  at_then = ready.at

  -- it wasn't disturbed
  undisturbed : IsClear o s now.seen v → IsConflict o s p.session now.seen t.steps → ⊥
  undisturbed clear = no_conflict o s now.seen p.session t.steps v.touched ready.trailing clear.unchanged

  -- how many entries the shard has stored by then
  abbrev stored_now : ℕ
  stored_now = length (stored_on s.slot now.seen)

  -- with one more statement, which touches its tables
  after_more : (last : TransactionStatement) (ns : List ℕ) → IsClear o s now.seen v → ((n : ℕ) → Contains (tables_of last.typed) n → In n ns) → last.seen ≡ now.seen
      → AllByRecursion (HasTouched s (touched_all v.touched ns stored_now)) (t.steps ++ last ∷ [])
  after_more last ns clear tables seen =
      touched_more s v.touched ns stored_now t.steps last ready.trailing
      (all-weaker (IsTouchBy o s now.seen) (λ x. x.stored ≤ stored_now) (λ x h. h.stored) v.touched (at_then clear).pending.touches) tables
      (let e = ap (λ (r : Run). length (stored_on s.slot r)) seen in omega (arith, e))

  contains_more : (steps : List TransactionStatement) (step last : TransactionStatement) → Contains steps step → Contains (steps ++ last ∷ []) step
  contains_more steps step last h = Contains-from_In step (steps ++ last ∷ []) (In-left step steps (last ∷ []) (In-from_Contains step steps h))

  touches_more : (last : TransactionStatement) → AllByRecursion (IsTouchOf o s now.session now.seen (t.steps ++ last ∷ [])) v.touched
  touches_more last =
      all-weaker (IsTouchOf o s p.session now.seen t.steps) (IsTouchOf o s now.session now.seen (t.steps ++ last ∷ []))
      (λ x h. record {
        step = h.step;
        is = contains_more t.steps h.step last h.is;
        on = h.on;
        table = h.table;
        before = h.before;
        serves = h.serves;
        stored = h.stored;
        own = λ n mine. h.own n (ap (λ (q : PassView Entry). q.session) (sym looked.pass) ∙ mine);
      }) v.touched ready.touches

  touch_last : (last : TransactionStatement) (x : Touch) → last.on ≡ Some s → Contains (tables_of last.typed) x.table → last.seen ≡ now.seen → mode o now.seen s.slot ≡ Serving
      → x.stored ≡ length (stored_on s.slot now.seen) → IsTouchOf o s now.session now.seen (t.steps ++ last ∷ []) x
  touch_last last x on table seen serves stored = record {
    step = last;
    is = Contains-from_In last (t.steps ++ last ∷ []) (In-last last t.steps);
    on = on;
    table = table;
    before = subst (λ (r : Run). IsPrefix r now.seen) (sym seen) (prefix_self now.seen);
    serves = subst (λ (r : Run). mode o r s.slot ≡ Serving) (sym seen) serves;
    stored = stored ∙ ap (λ (r : Run). length (stored_on s.slot r)) (sym seen);
    own = λ n mine. ap (λ (r : Run). filter (by_session commit_of n) r) (sym seen);
  }

  in_use : (last : TransactionStatement) → last.on ≡ Some s → Contains (used (t.steps ++ last ∷ [])) s
  in_use last on =
      let database : if_any last.on ≡ s ∷ [] = ap if_any on in
      Contains-from_In s (used (t.steps ++ last ∷ []))
      (subst (In s) (sym (flat_map-append (λ (x : TransactionStatement). if_any x.on) t.steps (last ∷ [])))
      (Rattle.shard_contents.proofs.Lists.In-right s (used t.steps) (if_any last.on ++ [])
      (subst (λ (l : List ShardRecord). In s (l ++ [])) (sym database) (inl refl))))

  -- the partition that it keeps then
  abbrev kept_on : List Seat → Option KeptPartition
  kept_on seats = Some (record { keyspace = s.place.keyspace; seats = seats })

  -- a seat that is needed is one of the partition
  needed_in : (table : Table) (route : Route) (seats : List Seat) → needed table route seats ≡ seat_of s ∷ [] → Contains seats (seat_of s)
  needed_in table route seats only =
      Contains-from_In (seat_of s) seats
      (In-from_filter (λ (x : Seat). takes table route x.1) (seat_of s) seats (subst (In (seat_of s)) (sym only) (inl refl))).0

  -- it is bound as before, or from now on, one statement further
  further : (pending : PendingView) (last : TransactionStatement) (seats : List Seat) → IsPartition seats → Contains seats (seat_of s) → last.on ≡ Some s → mode o now.seen s.slot ≡ Serving → g.IsAt o s now.seen pending (t.steps ++ last ∷ [])
      → AllByRecursion (IsTouchOf o s now.session now.seen (t.steps ++ last ∷ [])) pending.touched
      → AllByRecursion (HasTouched s pending.touched) (t.steps ++ last ∷ [])
      → Represents o now (Some (record { bound = Some (bound_of s seats); pending = pending }))
      (Some (record { at = now.seen; steps = t.steps ++ last ∷ []; kept = Some (record { keyspace = s.place.keyspace; seats = seats }) }))
  further pending last seats partition seated on serves at touches trailing = stands.bound (record {
    shard = s;
    stands = ready.on_slot;
    serves = serves;
    seats = seats;
    bound = refl;
    partition = partition;
    seated = seated;
    kept = refl;
    uses = in_use last on;
    pending = at.pending;
    told = at.told;
    touches = touches;
    trailing = trailing;
    seen = prefix_self now.seen;
    own = λ n mine. refl;
  })

  -- A query.
  pub reads_in : (q : Query) (selected : Selected) (entries : ℕ) (pending : PendingView) (seats : List Seat) → NeedsBy o t (typed.Select q) seats s
      → ReadsAlone o q s → SourcesThere (length o.schema.tables) q
      → JoinsInPlace o.schema q → selected.table ≡ q.table → selected.join ≡ q.join → selected.items ≡ q.items
      → selected.qualified ≡ q.qualified → HasReadIn o s v now.seen q selected.rows entries pending
      → GivesIn o limits p t (typed.Select q) (record { answer = Rows selected; reads = record { slot = s.slot; entries = entries } ∷ [] })
      (record { pass = now; tx = Some (record { at = now.seen; steps = with_step t.steps (typed.Select q) (Rows selected) (Some s) now.seen; kept = kept_on seats }) })
      × Represents o now (Some (record { bound = Some (bound_of s seats); pending = pending }))
      (Some (record { at = now.seen; steps = with_step t.steps (typed.Select q) (Rows selected) (Some s) now.seen; kept = kept_on seats }))
  reads_in q selected entries pending seats by alone there joins table join items qualified has =
      let last : TransactionStatement = record { typed = typed.Select q; answer = Rows selected; on = Some s; seen = now.seen } in
      let next : PendingView = record v { touched = touched_all v.touched (source_tables q) stored_now } in
      let serves = has.clear.serving in
      let at = g.at_reads o s now.seen v t.steps stored_now q selected (at_then has.clear)
      (all-each (λ n. IsTouchBy o s now.seen (touch_of stored_now n)) (λ n. record { serving = serves; stored = omega arith }) (source_tables q)) alone there joins
      table join items qualified has.allowed in
      let over = g.at_over o s opens formed now.seen next (t.steps ++ last ∷ []) at ready.on_slot serves session number low in
      let touches = all_touched_all (IsTouchOf o s now.session now.seen (t.steps ++ last ∷ [])) v.touched (source_tables q) stored_now (touches_more last)
      (all-from_In (λ n. IsTouchOf o s now.session now.seen (t.steps ++ last ∷ []) (touch_of stored_now n)) (source_tables q)
      (λ n h. touch_last last (touch_of stored_now n) refl (Contains-from_In n (source_tables q) h) refl serves refl)) in (
        subst (λ (n : ℕ). GivesIn o limits p t (typed.Select q) (record { answer = Rows selected; reads = record { slot = s.slot; entries = n } ∷ [] })
            (record { pass = now; tx = Some (record { at = now.seen; steps = t.steps ++ last ∷ []; kept = kept_on seats }) })) (sym has.count)
            (gives.on_shard s seats by ready.alone looked serves (undisturbed has.clear) (all_applied next.changes (database o now.seen), over)),
        subst (λ (x : PendingView). Represents o now (Some (record { bound = Some (bound_of s seats); pending = x }))
            (Some (record { at = now.seen; steps = t.steps ++ last ∷ []; kept = kept_on seats })))
            (sym has.touch) (further next last seats by.judged.partition (needed_in (table_at o.schema q.table) (route_of (table_at o.schema q.table) q.join q.filter) seats by.only) refl serves at touches (after_more last (source_tables q) has.clear (λ n h. In-from_Contains n (source_tables q) h) refl)),
      )

  -- A write.
  pub writes_here : (w : Write) (count : ℕ) (pending : PendingView) (seats : List Seat) → NeedsBy o t (typed.Write w) seats s → WritesAlone o w s → IsTypedWrite o.schema w
      → HasWrittenIn o s v now.seen w count pending
      → GivesIn o limits p t (typed.Write w) (record { answer = Count count; reads = [] })
      (record { pass = now; tx = Some (record { at = now.seen; steps = with_step t.steps (typed.Write w) (Count count) (Some s) now.seen; kept = kept_on seats }) })
      × Represents o now (Some (record { bound = Some (bound_of s seats); pending = pending }))
      (Some (record { at = now.seen; steps = with_step t.steps (typed.Write w) (Count count) (Some s) now.seen; kept = kept_on seats }))
  writes_here w count pending seats by alone is has =
      let n : ℕ = length has.changes in
      let last : TransactionStatement = record { typed = typed.Write w; answer = Count n; on = Some s; seen = now.seen } in
      let touch : Touch = record { table = written_table w; stored = length (stored_on s.slot now.seen) } in
      let next : PendingView = record {
        touched = touched_with v.touched touch;
        writes = v.writes ++ w ∷ [];
        changes = v.changes ++ has.changes;
      } in
      let serves = has.clear.serving in
      let at = g.at_writes o s now.seen v t.steps touch w has.changes (at_then has.clear) refl (record { serving = serves; stored = omega arith }) alone is has.changed in
      let over = g.at_over o s opens formed now.seen next (t.steps ++ last ∷ []) at ready.on_slot serves session number low in
      let touches = all_touched v.touched touch (IsTouchOf o s now.session now.seen (t.steps ++ last ∷ [])) (touches_more last)
      (touch_last last touch refl (Contains-from_In (written_table w) (written_table w ∷ []) (inl refl)) refl serves refl) in
      subst (λ (k : ℕ). GivesIn o limits p t (typed.Write w) (record { answer = Count k; reads = [] })
      (record { pass = now; tx = Some (record { at = now.seen; steps = with_step t.steps (typed.Write w) (Count k) (Some s) now.seen; kept = kept_on seats }) })
      × Represents o now (Some (record { bound = Some (bound_of s seats); pending = pending }))
      (Some (record { at = now.seen; steps = with_step t.steps (typed.Write w) (Count k) (Some s) now.seen; kept = kept_on seats }))) (sym has.counted) (
        gives.on_shard s seats by ready.alone looked serves (undisturbed has.clear) (all_applied next.changes (database o now.seen), over),
        subst (λ (x : PendingView). Represents o now (Some (record { bound = Some (bound_of s seats); pending = x }))
            (Some (record { at = now.seen; steps = t.steps ++ last ∷ []; kept = kept_on seats })))
            (sym has.kept) (further next last seats by.judged.partition (needed_in (table_at o.schema (written_table w)) (write_route o.schema w) seats by.only) refl serves at touches
            (after_more last (written_table w ∷ []) has.clear (λ n h. In-from_Contains n (written_table w ∷ []) h) refl)),
      )

  -- A commit that has read alone.
  pub commits_reads : Contains (used t.steps) s → v.writes ≡ [] → IsClear o s now.seen v
      → GivesIn o limits p t typed.Commit (record { answer = Count 0; reads = [] }) (record { pass = now; tx = None })
  commits_reads in_use none clear =
      let at = at_then clear in
      gives.commits_reads s in_use (g.told_writes o s now.seen v.touched t.steps v.writes v.changes at.told ∙ none) looked clear.serving (undisturbed clear)
      (all_applied v.changes (database o now.seen), g.at_over o s opens formed now.seen v t.steps at ready.on_slot clear.serving session number low)

-- ---- what a bound transaction is on its shard

module _ (o : Opening) (opens : IsOpening o) (p : PassView Entry) (v : OpenView) (t : Transaction) (bound : IsBound o p v t) (s : ShardRecord)
    (slot : bound.shard.slot ≡ s.slot) where
  -- the shard that a later run has on its slot is the one that it is bound to
  pub same_shard : (run : Run) → IsPrefix p.seen run → IsOnItsSlot o run s → bound.shard ≡ s
  same_shard run later on_slot =
      one_on_slot o opens t.at bound.pending.legal bound.shard s bound.stands
      (stands_early o t.at run s (prefix_trans t.at p.seen run bound.seen later) on_slot) bound.serves slot

  module _ (here : bound.shard ≡ s) where
    pub bound_at : g.IsAt o s t.at v.pending t.steps
    bound_at = record {
      pending = subst (λ (u : ShardRecord). IsPending o u t.at v.pending) here bound.pending;
      told = subst (λ (u : ShardRecord). GaveOnShard o u t.at v.pending.touched t.steps v.pending.writes v.pending.changes) here bound.told;
    }

    pub bound_used : AllByRecursion (λ u. u ≡ s) (used t.steps)
    bound_used = g.told_used o s t.at v.pending.touched t.steps v.pending.writes v.pending.changes bound_at.told

    pub bound_after : AllByRecursion (HasTouched s v.pending.touched) t.steps
    bound_after = subst (λ (u : ShardRecord). AllByRecursion (HasTouched u v.pending.touched) t.steps) here bound.trailing

    pub bound_in_use : Contains (used t.steps) s
    bound_in_use = subst (Contains (used t.steps)) here bound.uses

    pub bound_later : (now : PassView Entry) → IsPrefix p.seen now.seen → IsLegal (MayFollow o) now.seen → IsClear o s now.seen v.pending
        → g.IsAt o s now.seen v.pending t.steps
    bound_later now later legal clear =
        g.at_later o s t.at now.seen v.pending t.steps bound_at (prefix_trans t.at p.seen now.seen bound.seen later) legal clear

    pub bound_touches : (run : Run) → IsPrefix p.seen run
        → ((n : ℕ) → p.session ≡ Some n → filter (by_session commit_of n) run ≡ filter (by_session commit_of n) p.seen)
        → AllByRecursion (IsTouchOf o s p.session run t.steps) v.pending.touched
    bound_touches run later own =
        all-weaker (IsTouchOf o s p.session t.at t.steps) (IsTouchOf o s p.session run t.steps)
        (λ x h. record {
          step = h.step;
          is = h.is;
          on = h.on;
          table = h.table;
          before = prefix_trans h.step.seen t.at run h.before (prefix_trans t.at p.seen run bound.seen later);
          serves = h.serves;
          stored = h.stored;
          own = λ n mine. own n mine ∙ bound.own n mine ∙ h.own n mine;
        }) v.pending.touched
        (subst (λ (u : ShardRecord). AllByRecursion (IsTouchOf o u p.session t.at t.steps) v.pending.touched) here bound.touches)

-- bound to the shard
pub ready_bound : (o : Opening) → IsOpening o → (p now : PassView Entry) (v : OpenView) (t : Transaction) → IsBound o p v t → (s : ShardRecord)
    → (seats : List Seat) → v.bound ≡ Some (bound_of s seats) → IsOnItsSlot o now.seen s → HasLooked o s.slot p now → ReadyOn o s p now v.pending t
ready_bound o opens p now v t bound s seats is on_slot looked =
    let slot : bound.shard.slot ≡ s.slot = ap (λ (b : Option BoundView). slot_of_bound b) (sym bound.bound ∙ is) in
    let here = same_shard o opens p v t bound s slot now.seen looked.later on_slot in
    record {
      on_slot = on_slot;
      looked = looked;
      touches = bound_touches o opens p v t bound s slot here now.seen looked.later looked.own;
      trailing = bound_after o opens p v t bound s slot here;
      alone = bound_used o opens p v t bound s slot here;
      at = bound_later o opens p v t bound s slot here now looked.later looked.legal;
    }
  where
    slot_of_bound : Option BoundView → ℕ
    slot_of_bound None = 0
    slot_of_bound (Some b) = b.seat.0

none_used : (o : Opening) (s : ShardRecord) (steps : List TransactionStatement) → AllByRecursion (IsAnywhere o) steps → AllByRecursion (λ u. u ≡ s) (used steps)
none_used o s [] all = tt
none_used o s (step ∷ steps) all =
    subst (λ (on : Option ShardRecord). AllByRecursion (λ u. u ≡ s) (if_any on ++ used steps)) (sym all.0.on) (none_used o s steps all.1)

-- or to none
pub ready_first : (o : Opening) (p now : PassView Entry) (t : Transaction) → AllByRecursion (IsAnywhere o) t.steps → (s : ShardRecord)
    → IsOnItsSlot o now.seen s → HasLooked o s.slot p now → ReadyOn o s p now nothing_done t
ready_first o p now t all s on_slot looked = record {
  on_slot = on_slot;
  looked = looked;
  touches = tt;
  trailing = all-weaker (IsAnywhere o) (HasTouched s []) (λ step any n on of. let none = any.on in absurd (cc (none, on))) t.steps all;
  alone = none_used o s t.steps all;
  at = λ clear. g.at_first o s now.seen t.steps looked.legal all;
}

-- ---- a commit that has written

module _ (o : Opening) (opens : IsOpening o) (formed : is_vschema o.schema ≡ true) (limits : Limits) (s : ShardRecord)
    (p now : PassView Entry) (v : OpenView) (t : Transaction) (bound : IsBound o p v t) (here : bound.shard ≡ s)
    (done : HasCommittedAll o limits s p v.pending now) (above : NumbersBelow commit_of done.session p.statements p.seen) where
  abbrev e : Entry
  e = entry_of s done.session p.statements v.pending.writes v.pending.changes

  may_last : MayFollow o done.before e
  may_last = legal_last o [] done.before e (subst (IsLegal (MayFollow o)) done.seen done.legal)

  legal_before : IsLegal (MayFollow o) done.before
  legal_before = legal_prefix (MayFollow o) done.before now.seen (_, sym done.seen) done.legal

  at_before : g.IsAt o s done.before v.pending t.steps
  at_before =
      g.at_later o s t.at done.before v.pending t.steps (bound_at o opens p v t bound s (ap (λ (u : ShardRecord). u.slot) here) here)
      (prefix_trans t.at p.seen done.before bound.seen (prefix_trans p.seen done.looked.seen done.before done.look.later done.later)) legal_before done.clear

  low_before : NumbersBelow commit_of done.session p.statements done.before
  low_before =
      subst (λ (l : List Entry). Rattle.std.specs.List.All (λ x. Rattle.journal.specs.Runs.number_of (commit_of x) < p.statements) l)
      (sym (done.own done.session done.of_session)) above

  writes_are : writes_in t.steps ≡ v.pending.writes
  writes_are = g.told_writes o s done.before v.pending.touched t.steps v.pending.writes v.pending.changes at_before.told

  is_committed : IsCommitted o limits s p t.steps now
  is_committed = record {
    looked = done.looked;
    look = done.look;
    before = done.before;
    later = done.later;
    own = done.own;
    session = done.session;
    of_session = done.of_session;
    changes = v.pending.changes;
    seen = done.seen ∙ ap (λ (l : List Write). done.before ++ entry_of s done.session p.statements l v.pending.changes ∷ []) (sym writes_are);
    legal = done.legal;
    room = done.room;
    clear =
        no_conflict o s done.before p.session t.steps v.pending.touched (bound_after o opens p v t bound s (ap (λ (u : ShardRecord). u.slot) here) here)
        done.clear.unchanged;
    over =
        subst (GiveOver o.schema (database o done.before) t.steps) (sym (ap (database o) done.seen ∙ one_push o done.before e))
        (g.at_over o s opens formed done.before v.pending t.steps at_before may_last.0 done.clear.serving done.session p.statements low_before);
    pass = done.pass;
  }

  pub commits_writes : v.pending.writes ≢ [] → GivesIn o limits p t typed.Commit (record { answer = Count 0; reads = [] }) (record { pass = now; tx = None })
  commits_writes some =
      gives.commits_writes s (bound_in_use o opens p v t bound s (ap (λ (u : ShardRecord). u.slot) here) here) (λ none. some (sym writes_are ∙ none)) is_committed
