-- What a statement of an open transaction leads to, from what the engine's parts tell.
use Rattle.std.proofs.Common.{true, false, Bool, ◌==◌, ◌≡◌, ◌⊎◌, ℕ, ◌<◌, List, [], ◌∷◌, ◌++◌, length, filter, Option, Some, None, refl, sym, ap, subst, ◌∙◌, inl, inr}
use Rattle.std.specs.Prelude.{Contains}
use Rattle.std.specs.List.{AllByRecursion, All}
use Rattle.std.proofs.lemmas.Bool.{false≢true, eqb-true, eq-eqb}
use Rattle.std.proofs.lemmas.List.{append-nil, append_assoc}
use Rattle.std.proofs.lemmas.Grind.{flat_map-append}
use mathlib.Core.List.{IsPrefix}
use Rattle.vt_value.specs.declared.refusal.Refusal.{Refusal}
use Rattle.vt_value.specs.declared.refusal.Refusal.TheVariants.{SeveralShards}
use Rattle.vt_value.specs.Values.{Row}
use Rattle.vschema.specs.declared.schema.Query.{Query}
use Rattle.vschema.specs.declared.schema.Typed.{Typed}
use Rattle.vschema.specs.declared.schema.Typed.TheVariants as typed
use Rattle.vschema.specs.declared.changes.Write.{Write}
use Rattle.vschema.specs.Database.{all_applied}
use Rattle.vschema.specs.Sources.{SourcesThere, JoinsInPlace}
use Rattle.vschema.specs.TypedWrites.{IsTypedWrite}
use Rattle.vschema.specs.WellFormed.{is_vschema}
use Rattle.shard_contents.specs.Writes.{written_table}
use Rattle.shard_calls.specs.Routes.{table_at, route_of, write_route}
use Rattle.journal.specs.Runs.{IsLegal, NumbersBelow, number_of, by_session}
use Rattle.journal.specs.Views.{PassView}
use Rattle.journal.proofs.Fronts.{prefix_self, prefix_trans}
use Rattle.serving.specs.Partitions.{Seat, IsPartition}
use Rattle.shard_contents.proofs.Lists.{In, In-left, In-from_Contains, Contains-from_In, all-append, all-weaker}
use Rattle.shard_run.specs.declared.ShardRecord.{ShardRecord}
use Rattle.shard_run.specs.declared.Entry.{Entry}
use Rattle.shard_run.specs.Runs.{Run, Opening, database}
use Rattle.shard_contents.specs.Legal.{IsOnItsSlot}
use Rattle.shard_run.specs.Openings.{IsOpening}
use Rattle.shard_contents.specs.Limits.{Limits}
use Rattle.shard_contents.specs.Entries.{MayFollow, HasLooked, commit_of}
use Rattle.shard_contents.specs.Transactions.{PendingView, IsPendingOf}
use Rattle.shard_calls.proofs.Moves.{pending_nothing, pending_same}
use Rattle.shard_calls.specs.declared.reply.Answer.{Answer}
use Rattle.shard_calls.specs.declared.reply.Answer.TheVariants.{Rows, Count}
use Rattle.shard_calls.specs.declared.reply.ShardRead.{ShardRead}
use Rattle.shard_calls.specs.Answers.{HasGone, WritesAlone}
use Rattle.shard_calls.specs.Alone as over
use Rattle.shard_calls.specs.Transactions as t
use Rattle.shard_calls.specs.Transactions.{TransactionStatement, KeptPartition, Transaction, PassAndTx, IsJudgedBy, NeedsBy, GiveOver, AreOver, GivesIn, IsRefusedIn, ReadsAlone, if_any, used, with_step, seats_for, statement_keyspace}
use Rattle.shard_calls.specs.Pendings as stands
use Rattle.shard_calls.specs.Pendings.{BoundView, OpenView, IsBound, IsTouchOf, HasTouched, IsAnywhere, Represents, bound_of}
use Rattle.shard_calls.specs.inner.InTransactions as w
use Rattle.shard_calls.specs.inner.InTransactions.{left_by, ends, IsSeatOf, HasReadAt, IsNotReadAt, HasWrittenAt, IsNotWrittenAt, HasCommittedAt, IsNotCommittedAt}
use Rattle.route_engine.proofs.Anywhere.{stands_met}
use Rattle.shard_calls.proofs.Gathers.{stays}
use Rattle.route_engine.proofs.Going as g
use Rattle.route_engine.proofs.InTransaction as i
use Rattle.route_engine.proofs.InTransaction.{ReadyOn, ready_bound, ready_first, same_shard}
use Rattle.route_engine.proofs.Refusing.{not_read_in, not_written_in, not_committed_in}

-- a transaction is bound to none, or to this shard
abbrev pub Fits : OpenView → BoundView → Type 0
Fits v b = (v.bound ≡ None) ⊎ (v.bound ≡ Some b)

some_same : {X : Type 0} (x y : X) → Some x ≡ Some y → x ≡ y
some_same {X} x y e = ap (λ (m : Option X). or x m) e
  where
    or : X → Option X → X
    or d None = d
    or d (Some z) = z

-- ---- statements that need no shard

over_from : (o : Opening) (run : Run) → IsLegal (MayFollow o) run → (front rest : List TransactionStatement) → GiveOver o.schema (database o run) front (database o run)
    → AllByRecursion (IsAnywhere o) rest → GiveOver o.schema (database o run) (front ++ rest) (database o run)
over_from o run legal front [] so_far all = subst (λ (l : List TransactionStatement). GiveOver o.schema (database o run) l (database o run)) (sym (append-nil front)) so_far
over_from o run legal front (step ∷ rest) so_far all =
    subst (λ (l : List TransactionStatement). GiveOver o.schema (database o run) l (database o run)) (append_assoc front (step ∷ []) rest)
    (over_from o run legal (front ++ step ∷ []) rest (over.next step so_far (all.0.same run legal)) all.1)

none_used : (o : Opening) (steps : List TransactionStatement) → AllByRecursion (IsAnywhere o) steps → used steps ≡ []
none_used o [] all = refl
none_used o (step ∷ steps) all = ap (λ (l : Option ShardRecord). if_any l ++ used steps) all.0.on ∙ none_used o steps all.1

used_more : (steps : List TransactionStatement) (step : TransactionStatement) (s : ShardRecord) → Contains (used steps) s → Contains (used (steps ++ step ∷ [])) s
used_more steps step s h =
    Contains-from_In s (used (steps ++ step ∷ []))
    (subst (In s) (sym (flat_map-append (λ (x : TransactionStatement). if_any x.on) steps (step ∷ [])))
    (In-left s (used steps) (if_any step.on ++ []) (In-from_Contains s (used steps) h)))

-- one that is bound to none has used none
pub none_used_by : (o : Opening) (p : PassView Entry) (v : OpenView) (tr : Transaction) → Represents o p (Some v) (Some tr) → v.bound ≡ None → used tr.steps ≡ []
none_used_by o p v tr (stands.unbound l all kept) none = none_used o tr.steps all
none_used_by o p v tr (stands.bound is) none = let e = is.bound in absurd (cc (e, none))

-- the partition that is kept with the shard
abbrev kept_at : ShardRecord → List Seat → Option KeptPartition
kept_at s seats = Some (record { keyspace = s.place.keyspace; seats = seats })

nat_eq : (m n : ℕ) → (m ≡ n) ⊎ (m ≡ n → ⊥)
nat_eq m n = by (m == n) refl
  where
    by : (b : Bool) → (m == n) ≡ b → (m ≡ n) ⊎ (m ≡ n → ⊥)
    by true e = inl (eqb-true m n e)
    by false e = inr (λ same. false≢true (sym e ∙ eq-eqb m n same))

-- ---- one statement

module _ (o : Opening) (opens : IsOpening o) (formed : is_vschema o.schema ≡ true) (limits : Limits) (p : PassView Entry)
    (legal : IsLegal (MayFollow o) p.seen) (session : ℕ) (mine : p.session ≡ Some session)
    (above : NumbersBelow commit_of session p.statements p.seen) where
  low_at : (run : Run) → filter (by_session commit_of session) run ≡ filter (by_session commit_of session) p.seen
      → NumbersBelow commit_of session p.statements run
  low_at run same = subst (λ (l : List Entry). All (λ x. number_of (commit_of x) < p.statements) l) (sym same) above

  ready_at : (v : OpenView) (tr : Transaction) → Represents o p (Some v) (Some tr) → (s : ShardRecord) (seats : List Seat) (now : PassView Entry)
      → Fits v (bound_of s seats) → IsOnItsSlot o now.seen s → HasLooked o s.slot p now → ReadyOn o s p now v.pending tr
  ready_at v tr (stands.unbound l all none) s seats now fits on looked = ready_first o p now tr all s on looked
  ready_at v tr (stands.bound is) s seats now (inl none) on looked = let e = is.bound in absurd (cc (e, none))
  ready_at v tr (stands.bound is) s seats now (inr same) on looked = ready_bound o opens p now v tr is s seats same on looked

  -- what the shard's calls ask
  pub tied : (v : OpenView) (tr : Transaction) → Represents o p (Some v) (Some tr) → (b : BoundView) → Fits v b → (s : ShardRecord) → bound_of s b.seats ≡ b
      → IsPendingOf o s v.pending p
  tied v tr (stands.unbound l all none) b fits s same = (p.seen, prefix_self p.seen, pending_nothing o s p.seen legal)
  tied v tr (stands.bound is) b (inl none) s same = let e = is.bound in absurd (cc (e, none))
  tied v tr (stands.bound is) b (inr at) s same =
      let e : bound_of is.shard is.seats ≡ bound_of s b.seats = some_same (bound_of is.shard is.seats) b (sym is.bound ∙ at) ∙ sym same in (
        tr.at,
        is.seen,
        pending_same o is.shard s tr.at v.pending (ap (λ (x : BoundView). x.seat.0) e)
            (ap (λ (x : BoundView). record { keyspace = x.keyspace; range = x.seat.1 }) e) is.pending,
      )

  -- a statement that gives the same everywhere
  pub goes_anywhere : (v : OpenView) (tr : Transaction) → Represents o p (Some v) (Some tr) → (typed : Typed) (answer : Answer)
      → IsAnywhere o (record { typed = typed; answer = answer; on = None; seen = p.seen })
      → (u : Option Transaction) × GivesIn o limits p tr typed (record { answer = answer; reads = [] }) (record { pass = p; tx = u }) × Represents o p (Some v) u
  goes_anywhere v tr (stands.unbound l all none) typed answer any =
      let last : TransactionStatement = record { typed = typed; answer = answer; on = None; seen = p.seen } in (
        Some (record { at = tr.at; steps = tr.steps ++ last ∷ []; kept = tr.kept }),
        t.nowhere any.none (database o tr.at, over_from o tr.at l [] (tr.steps ++ last ∷ []) over.none (all-append (IsAnywhere o) tr.steps (last ∷ []) all (any, tt))),
        stands.unbound l (all-append (IsAnywhere o) tr.steps (last ∷ []) all (any, tt)) none,
      )
  goes_anywhere v tr (stands.bound is) typed answer any =
      let last : TransactionStatement = record { typed = typed; answer = answer; on = None; seen = p.seen } in
      let at : g.IsAt o is.shard tr.at v.pending tr.steps = record { pending = is.pending; told = is.told } in
      let next = g.at_anywhere o is.shard tr.at v.pending tr.steps last at any in
      let over = g.at_over o is.shard opens formed tr.at v.pending (tr.steps ++ last ∷ []) next is.stands is.serves session p.statements
      (low_at tr.at (sym (is.own session mine))) in (
        Some (record { at = tr.at; steps = tr.steps ++ last ∷ []; kept = tr.kept }),
        t.nowhere any.none (all_applied v.pending.changes (database o tr.at), over),
        stands.bound (record {
          shard = is.shard;
          stands = is.stands;
          serves = is.serves;
          seats = is.seats;
          bound = is.bound;
          partition = is.partition;
          seated = is.seated;
          kept = is.kept;
          uses = used_more tr.steps last is.shard is.uses;
          pending = next.pending;
          told = next.told;
          touches =
              all-weaker (IsTouchOf o is.shard p.session tr.at tr.steps) (IsTouchOf o is.shard p.session tr.at (tr.steps ++ last ∷ []))
              (λ x h. record {
                step = h.step;
                is =
                    Contains-from_In h.step (tr.steps ++ last ∷ [])
                    (In-left h.step tr.steps (last ∷ []) (In-from_Contains h.step tr.steps h.is));
                on = h.on;
                table = h.table;
                before = h.before;
                serves = h.serves;
                stored = h.stored;
                own = h.own;
              }) v.pending.touched is.touches;
          trailing =
              all-append (HasTouched is.shard v.pending.touched) tr.steps (last ∷ []) is.trailing ((λ n on of. absurd (cc on)), tt);
          seen = is.seen;
          own = is.own;
        }),
      )

  reads_alone : (q : Query) (b : BoundView) → IsSeatOf (table_at o.schema q.table) (route_of (table_at o.schema q.table) q.join q.filter) b → (s : ShardRecord)
      → bound_of s b.seats ≡ b → ReadsAlone o q s
  reads_alone q b seat s same = record {
    seats = b.seats;
    partition = seat.partition;
    keyspace = ap (λ (x : BoundView). x.keyspace) same ∙ seat.keyspace;
    only = seat.only ∙ ap (λ (x : BoundView). x.seat ∷ []) (sym same);
  }

  writes_alone : (wr : Write) (b : BoundView) → IsSeatOf (table_at o.schema (written_table wr)) (write_route o.schema wr) b → (s : ShardRecord)
      → bound_of s b.seats ≡ b → WritesAlone o wr s
  writes_alone wr b seat s same = record {
    seats = b.seats;
    partition = seat.partition;
    keyspace = ap (λ (x : BoundView). x.keyspace) same ∙ seat.keyspace;
    only = seat.only ∙ ap (λ (x : BoundView). x.seat ∷ []) (sym same);
  }

  -- the partition by which a statement is judged
  judged : (v : OpenView) (tr : Transaction) → Represents o p (Some v) (Some tr) → (b : BoundView) → Fits v b → IsPartition b.seats → (typed : Typed)
      → IsJudgedBy o tr typed b.seats
  judged v tr (stands.unbound l all none) b fits partition typed =
      record { partition = partition; kept = λ k is here. absurd (cc (none, is)) }
  judged v tr (stands.bound is) b (inl none) partition typed = let e = is.bound in absurd (cc (e, none))
  judged v tr (stands.bound is) b (inr at) partition typed =
      let same : bound_of is.shard is.seats ≡ b = some_same (bound_of is.shard is.seats) b (sym is.bound ∙ at) in
      record {
        partition = partition;
        kept = λ k kept here.
            let kept_is : record { keyspace = is.shard.place.keyspace; seats = is.seats } ≡ k =
            some_same (record { keyspace = is.shard.place.keyspace; seats = is.seats }) k (sym is.kept ∙ kept) in
            sym (ap (λ (x : BoundView). x.seats) same) ∙ ap (λ (x : KeptPartition). x.seats) kept_is;
      }

  reads_by : (v : OpenView) (tr : Transaction) → Represents o p (Some v) (Some tr) → (b : BoundView) → Fits v b → (q : Query)
      → IsSeatOf (table_at o.schema q.table) (route_of (table_at o.schema q.table) q.join q.filter) b → (s : ShardRecord) → bound_of s b.seats ≡ b
      → NeedsBy o tr (typed.Select q) b.seats s
  reads_by v tr st b fits q seat s same = record {
    judged = judged v tr st b fits seat.partition (typed.Select q);
    keyspace = ap (λ (k : ℕ). Some k) (sym seat.keyspace ∙ ap (λ (x : BoundView). x.keyspace) (sym same));
    only = seat.only ∙ ap (λ (x : BoundView). x.seat ∷ []) (sym same);
  }

  writes_by : (v : OpenView) (tr : Transaction) → Represents o p (Some v) (Some tr) → (b : BoundView) → Fits v b → (wr : Write)
      → IsSeatOf (table_at o.schema (written_table wr)) (write_route o.schema wr) b → (s : ShardRecord) → bound_of s b.seats ≡ b
      → NeedsBy o tr (typed.Write wr) b.seats s
  writes_by v tr st b fits wr seat s same = record {
    judged = judged v tr st b fits seat.partition (typed.Write wr);
    keyspace = ap (λ (k : ℕ). Some k) (sym seat.keyspace ∙ ap (λ (x : BoundView). x.keyspace) (sym same));
    only = seat.only ∙ ap (λ (x : BoundView). x.seat ∷ []) (sym same);
  }

  module _ (v : OpenView) (tr : Transaction) (st : Represents o p (Some v) (Some tr)) (b : BoundView) (fits : Fits v b) where
    fits_at : (s : ShardRecord) → bound_of s b.seats ≡ b → Fits v (bound_of s b.seats)
    fits_at s same = subst (Fits v) (sym same) fits

    -- a query on its shard
    pub goes_read : (q : Query) → SourcesThere (length o.schema.tables) q → JoinsInPlace o.schema q
        → IsSeatOf (table_at o.schema q.table) (route_of (table_at o.schema q.table) q.join q.filter) b → (rows : List Row) (reads : List ShardRead)
        (now : PassView Entry) (pending : PendingView) → HasReadAt o b p v.pending q rows reads now pending
        → (u : Option Transaction) × GivesIn o limits p tr (typed.Select q)
        (record { answer = Rows (record { table = q.table; join = q.join; items = q.items; qualified = q.qualified; rows = rows }); reads = reads }) (record { pass = now; tx = u })
        × Represents o now (Some (record { bound = Some b; pending = pending })) u
    goes_read q there joins seat rows reads now pending has =
        let s = has.shard in
        let ready = ready_at v tr st s b.seats now (fits_at s has.is) has.stands has.looked in
        let done = i.reads_in o opens formed limits s p now v.pending tr ready session p.statements (low_at now.seen (has.looked.own session mine))
        q (record { table = q.table; join = q.join; items = q.items; qualified = q.qualified; rows = rows }) has.entries pending b.seats (reads_by v tr st b fits q seat s has.is)
        (reads_alone q b seat s has.is) there joins refl refl refl refl has.read in (
          Some (record { at = now.seen; steps = with_step tr.steps (typed.Select q) (Rows (record { table = q.table; join = q.join; items = q.items; qualified = q.qualified; rows = rows })) (Some s) now.seen; kept = kept_at s b.seats }),
          subst (λ (l : List ShardRead). GivesIn o limits p tr (typed.Select q)
              (record { answer = Rows (record { table = q.table; join = q.join; items = q.items; qualified = q.qualified; rows = rows }); reads = l })
              (record { pass = now; tx = Some (record { at = now.seen; steps = with_step tr.steps (typed.Select q) (Rows (record { table = q.table; join = q.join; items = q.items; qualified = q.qualified; rows = rows })) (Some s) now.seen; kept = kept_at s b.seats }) }))
              (sym has.reads_are) done.0,
          subst (λ (x : BoundView). Represents o now (Some (record { bound = Some x; pending = pending }))
              (Some (record { at = now.seen; steps = with_step tr.steps (typed.Select q) (Rows (record { table = q.table; join = q.join; items = q.items; qualified = q.qualified; rows = rows })) (Some s) now.seen; kept = kept_at s b.seats })))
              has.is done.1,
        )

    pub not_read : (q : Query) → IsSeatOf (table_at o.schema q.table) (route_of (table_at o.schema q.table) q.join q.filter) b → (e : Refusal)
        (now : PassView Entry) → IsNotReadAt o b p v.pending e now → IsRefusedIn o limits p tr (typed.Select q) e (record { pass = now; tx = left_by e tr })
    not_read q seat _ _ w.no_memory = t.no_memory ([], stays o p legal)
    not_read q seat e now (w.refused s same on served looked why) =
        not_read_in o limits s p now v.pending tr (ready_at v tr st s b.seats now (fits_at s same) on looked) served (typed.Select q)
        (b.seats, reads_by v tr st b fits q seat s same) e why

    -- a write
    pub goes_written : (wr : Write) → IsTypedWrite o.schema wr → IsSeatOf (table_at o.schema (written_table wr)) (write_route o.schema wr) b
        → (count : ℕ) (now : PassView Entry) (pending : PendingView) → HasWrittenAt o b p v.pending wr count now pending
        → (u : Option Transaction) × GivesIn o limits p tr (typed.Write wr) (record { answer = Count count; reads = [] }) (record { pass = now; tx = u })
        × Represents o now (Some (record { bound = Some b; pending = pending })) u
    goes_written wr is seat count now pending has =
        let s = has.shard in
        let ready = ready_at v tr st s b.seats now (fits_at s has.is) has.stands has.looked in
        let done = i.writes_here o opens formed limits s p now v.pending tr ready session p.statements (low_at now.seen (has.looked.own session mine))
        wr count pending b.seats (writes_by v tr st b fits wr seat s has.is) (writes_alone wr b seat s has.is) is has.wrote in (
          Some (record { at = now.seen; steps = with_step tr.steps (typed.Write wr) (Count count) (Some s) now.seen; kept = kept_at s b.seats }),
          done.0,
          subst (λ (x : BoundView). Represents o now (Some (record { bound = Some x; pending = pending }))
              (Some (record { at = now.seen; steps = with_step tr.steps (typed.Write wr) (Count count) (Some s) now.seen; kept = kept_at s b.seats }))) has.is done.1,
        )

    pub not_written : (wr : Write) → IsTypedWrite o.schema wr → IsSeatOf (table_at o.schema (written_table wr)) (write_route o.schema wr) b → (e : Refusal)
        (now : PassView Entry) → IsNotWrittenAt o b p v.pending wr e now → IsRefusedIn o limits p tr (typed.Write wr) e (record { pass = now; tx = left_by e tr })
    not_written wr is seat e now fault =
        not_written_in o limits fault.shard p now v.pending tr
        (ready_at v tr st fault.shard b.seats now (fits_at fault.shard fault.is) fault.stands fault.looked) fault.served opens formed
        session p.statements (low_at now.seen (fault.looked.own session mine)) wr is (b.seats, writes_by v tr st b fits wr seat fault.shard fault.is)
        (writes_alone wr b seat fault.shard fault.is) e fault.why

  -- a statement that needs another shard than the transaction's
  pub other_shard : (v : OpenView) (tr : Transaction) → Represents o p (Some v) (Some tr) → (b : BoundView) → v.bound ≡ Some b → (typed : Typed)
      (k : ℕ) → statement_keyspace o typed ≡ Some k → (seats : List Seat) → IsPartition seats → (b.keyspace ≡ k → seats ≡ b.seats)
      → (seats_for o typed seats ≡ [] → ⊥) → (b.keyspace ≡ k → seats_for o typed seats ≡ b.seat ∷ [] → ⊥)
      → IsRefusedIn o limits p tr typed SeveralShards (record { pass = p; tx = Some tr })
  other_shard v tr (stands.unbound l all none) b at typed k of seats partition kept some other = absurd (cc at)
  other_shard v tr (stands.bound is) b at typed k of seats partition kept some other = by (nat_eq is.shard.place.keyspace k)
    where
      same : b ≡ bound_of is.shard is.seats
      same = some_same b (bound_of is.shard is.seats) (sym at ∙ is.bound)

      home : b.keyspace ≡ is.shard.place.keyspace
      home = ap (λ (x : BoundView). x.keyspace) same

      by : (is.shard.place.keyspace ≡ k) ⊎ (is.shard.place.keyspace ≡ k → ⊥) → IsRefusedIn o limits p tr typed SeveralShards (record { pass = p; tx = Some tr })
      by (inl here) =
          let there : seats ≡ is.seats = kept (home ∙ here) ∙ ap (λ (x : BoundView). x.seats) same in
          t.another (record { keyspace = is.shard.place.keyspace; seats = is.seats }) is.shard is.uses is.kept refl is.partition is.seated
          (of ∙ ap (λ (n : ℕ). Some n) (sym here)) (λ none. some (ap (seats_for o typed) there ∙ none))
          (λ only. other (home ∙ here) (ap (seats_for o typed) there ∙ only ∙ ap (λ (x : BoundView). x.seat ∷ []) (sym same)))
      by (inr away) = t.elsewhere k seats is.shard is.uses of (λ e. away (sym e)) partition some

  -- a commit
  pub commits_unbound : (v : OpenView) (tr : Transaction) → Represents o p (Some v) (Some tr) → v.bound ≡ None
      → (u : Option Transaction) × GivesIn o limits p tr typed.Commit (record { answer = Count 0; reads = [] }) (record { pass = p; tx = u }) × Represents o p None u
  commits_unbound v tr (stands.unbound l all kept) none = (None, t.commits_nothing (none_used o tr.steps all), stands.closed)
  commits_unbound v tr (stands.bound is) none = let e = is.bound in absurd (cc (e, none))

  pub commits_bound : (v : OpenView) (tr : Transaction) → Represents o p (Some v) (Some tr) → (b : BoundView) → v.bound ≡ Some b → (now : PassView Entry)
      → HasCommittedAt o limits b p v.pending now
      → (u : Option Transaction) × GivesIn o limits p tr typed.Commit (record { answer = Count 0; reads = [] }) (record { pass = now; tx = u }) × Represents o now None u
  commits_bound v tr (stands.unbound l all none) b at now done = absurd (cc at)
  commits_bound v tr (stands.bound is) b at now (w.read s same on looked clear none) =
      let e : bound_of is.shard is.seats ≡ bound_of s b.seats = some_same (bound_of is.shard is.seats) b (sym is.bound ∙ at) ∙ sym same in
      let slot : is.shard.slot ≡ s.slot = ap (λ (x : BoundView). x.seat.0) e in
      let here = same_shard o opens p v tr is s slot now.seen looked.later on in
      let ready = ready_bound o opens p now v tr is s b.seats (at ∙ ap (λ (x : BoundView). Some x) (sym same)) on looked in (
        None,
        i.commits_reads o opens formed limits s p now v.pending tr ready session p.statements (low_at now.seen (looked.own session mine))
            (i.bound_in_use o opens p v tr is s slot here) none clear,
        stands.closed,
      )
  commits_bound v tr (stands.bound is) b at now (w.wrote s same on some done) =
      let e : bound_of is.shard is.seats ≡ bound_of s b.seats = some_same (bound_of is.shard is.seats) b (sym is.bound ∙ at) ∙ sym same in
      let slot : is.shard.slot ≡ s.slot = ap (λ (x : BoundView). x.seat.0) e in
      let later : IsPrefix p.seen now.seen =
      prefix_trans p.seen done.looked.seen now.seen done.look.later (prefix_trans done.looked.seen done.before now.seen done.later (_, sym done.seen)) in
      let here = same_shard o opens p v tr is s slot now.seen later on in
      let whose : session ≡ done.session = some_same session done.session (sym mine ∙ done.of_session) in (
        None,
        i.commits_writes o opens formed limits s p now v tr is here done (subst (λ (n : ℕ). NumbersBelow commit_of n p.statements p.seen) whose above) some,
        stands.closed,
      )

  pub not_committed : (v : OpenView) (tr : Transaction) → Represents o p (Some v) (Some tr) → (b : BoundView) → v.bound ≡ Some b → (e : Refusal) (now : PassView Entry)
      → IsNotCommittedAt o limits b p v.pending e now → IsRefusedIn o limits p tr typed.Commit e (record { pass = now; tx = left_by e tr })
  not_committed v tr (stands.unbound l all none) b at e now fault = absurd (cc at)
  not_committed v tr (stands.bound is) b at e now fault =
      let s = fault.shard in
      let same : bound_of is.shard is.seats ≡ bound_of s b.seats = some_same (bound_of is.shard is.seats) b (sym is.bound ∙ at) ∙ sym fault.is in
      let slot : is.shard.slot ≡ s.slot = ap (λ (x : BoundView). x.seat.0) same in
      let here = same_shard o opens p v tr is s slot now.seen fault.looked.later fault.stands in
      not_committed_in o limits s p now v.pending tr
      (ready_bound o opens p now v tr is s b.seats (at ∙ ap (λ (x : BoundView). Some x) (sym fault.is)) fault.stands fault.looked) fault.served opens formed
      session p.statements (low_at now.seen (fault.looked.own session mine)) (i.bound_in_use o opens p v tr is s slot here) e fault.wrote fault.why

-- ---- what a refusal leaves

-- a pass that has gone on by looks
record HasOnlyLooked (p now : PassView Entry) : Type 0 where
  later : IsPrefix p.seen now.seen
  session : now.session ≡ p.session
  own : (n : ℕ) → p.session ≡ Some n → filter (by_session commit_of n) now.seen ≡ filter (by_session commit_of n) p.seen

by_gone : (o : Opening) (p now : PassView Entry) → HasGone o p now → HasOnlyLooked p now
by_gone o p now (added, is) = record { later = is.later; session = ap (λ (q : PassView Entry). q.session) is.pass; own = is.own }

by_look : (o : Opening) (slot : ℕ) (p now : PassView Entry) → HasLooked o slot p now → HasOnlyLooked p now
by_look o slot p now is = record { later = is.later; session = ap (λ (q : PassView Entry). q.session) is.pass; own = is.own }

by_none : (p : PassView Entry) → HasOnlyLooked p p
by_none p = record { later = prefix_self p.seen; session = refl; own = λ n mine. refl }

refused_looks : (o : Opening) (limits : Limits) (p : PassView Entry) (tr : Transaction) (typed : Typed) (e : Refusal) (now : PassAndTx)
    → IsRefusedIn o limits p tr typed e now → HasOnlyLooked p now.pass
refused_looks o limits p tr _ _ _ (t.no_memory {now = now} gone) = by_gone o p now gone
refused_looks o limits p tr _ _ _ t.open_twice = by_none p
refused_looks o limits p tr _ _ _ (t.several {now = now} k seats none of found more gone) = by_gone o p now gone
refused_looks o limits p tr _ _ _ (t.another k u uses kept home partition seated of some other) = by_none p
refused_looks o limits p tr _ _ _ (t.elsewhere k seats u uses of away partition some) = by_none p
refused_looks o limits p tr _ _ _ (t.moved {now = now} s its looked fault) = by_look o s.slot p now looked
refused_looks o limits p tr _ _ _ (t.conflict {now = now} s its looked serves is) = by_look o s.slot p now looked
refused_looks o limits p tr _ _ _ (t.duplicate {now = now} s after its at over twice) = by_look o s.slot p now at.looked
refused_looks o limits p tr _ _ _ (t.full {now = now} s changes its at wrote made over fault) = by_look o s.slot p now at.looked

pub refused_session : (o : Opening) (limits : Limits) (p : PassView Entry) (tr : Transaction) (typed : Typed) (e : Refusal) (now : PassAndTx)
    → IsRefusedIn o limits p tr typed e now → now.pass.session ≡ p.session
refused_session o limits p tr typed e now is = (refused_looks o limits p tr typed e now is).session

-- what the program keeps still stands for the transaction
pub stands_left : (o : Opening) (limits : Limits) (p : PassView Entry) (v : OpenView) (tr : Transaction) (typed : Typed) (e : Refusal) (now : PassAndTx)
    → IsRefusedIn o limits p tr typed e now → Represents o p (Some v) (Some tr) → Represents o now.pass (Some v) (Some tr)
stands_left o limits p v tr typed e now is st =
    let on = refused_looks o limits p tr typed e now is in
    stands_met o p now.pass (Some v) (Some tr) on.later on.session on.own st
