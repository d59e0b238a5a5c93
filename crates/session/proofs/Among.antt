-- Where no other session commits meanwhile, a statement of one of several sessions gives what one database gives.
use Rattle.std.proofs.Common.{◌≡◌, ◌⊎◌, true, ℕ, List, [], ◌∷◌, ◌++◌, map, Option, Some, None, Ok, refl, sym, ap, subst, inl, inr, append_assoc}
use Rattle.std.specs.List.{AllByRecursion}
use Rattle.std.proofs.lemmas.List.{append-nil}
use Rattle.vt_value.specs.declared.refusal.Refusal.{Refusal}
use Rattle.sql_tree.specs.declared.Statement.{Statement}
use Rattle.sql_parser.specs.Grammar.{Reads}
use Rattle.vschema.specs.declared.schema.Typed.{Typed}
use Rattle.vschema.specs.declared.schema.Typed.TheVariants as typed
use Rattle.vschema.specs.declared.changes.Write.{Write}
use Rattle.vschema.specs.declared.changes.RowChange.{RowChange}
use Rattle.vschema.specs.Database.{Database}
use Rattle.vschema.specs.TypedStatement.{typed_statement}
use Rattle.vschema.specs.WellFormed.{is_vschema}
use Rattle.journal.specs.Runs.{IsLegal}
use Rattle.journal.specs.Views.{PassView}
use Rattle.journal.proofs.Fronts.{prefix_trans}
use Rattle.shard_run.specs.declared.ShardRecord.{ShardRecord}
use Rattle.shard_run.specs.declared.Entry.{Entry}
use Rattle.shard_run.specs.Runs.{Run, Opening, database}
use Rattle.shard_run.specs.Openings.{IsOpening}
use Rattle.route_engine.proofs.Lists.{In, In-all, In-last, In-push, all-from_In}
use Rattle.route_engine.specs.Limits.{Limits}
use Rattle.route_engine.specs.Touch.{Touch}
use Rattle.route_engine.specs.Entries.{MayFollow}
use Rattle.route_engine.specs.Answer.{Answer}
use Rattle.route_engine.specs.Reply.{Reply}
use Rattle.route_engine.specs.inner.Answers as a
use Rattle.route_engine.specs.Answers.{counted}
use Rattle.route_engine.specs.inner.Answers.{IsRefused}
use Rattle.route_engine.specs.Alone as over
use Rattle.route_engine.specs.Alone.{NoOthers, NoCommits, GivesOver, IsRefusedOver}
use Rattle.route_engine.specs.Transactions as x
use Rattle.route_engine.specs.Transactions.{TransactionStatement, KeptPartition, Transaction, PassAndTx, GiveOver, AreOver, used, if_any, writes_in, write_on, with_step, IsCommitted, GivesIn, GivesAt, IsReplyTo, IsRefusedIn, IsRefusedBy, IsRefusedNow, IsRefusedAt}
use Rattle.route_engine.specs.Pendings as stands
use Rattle.route_engine.specs.Pendings.{OpenView, Represents, IsAnywhere, GaveOnShard}
use Rattle.route_engine.proofs.NoOthers.{one_still, still_self, unchanged, gone_same, looked_unchanged}
use Rattle.route_engine.proofs.Over.{reply_over, refusal_over}
use Rattle.session.specs.Alone.{AnsweredStatement, InTurn, LeavesAll, told_of}
use Rattle.session.proofs.OneDatabase.{map-push, in_turn, all_stay, reads_leave, nothing_written, none_left, none_right}
use Rattle.session.proofs.Steps.{committed_later}
use Rattle.session.specs.Alone as next
use Rattle.session.specs.Among as m
use Rattle.session.specs.Among.{told_in, IsEverywhere, GivesAmong, AnswersAmong}
use Rattle.session.specs.inner.TypedSteps.{IsTypedStep, AreTyped}

-- ---- statements that need no shard

anywhere_told : (o : Opening) (s : ShardRecord) (run : Run) (touched : List Touch) (steps : List TransactionStatement) (writes : List Write) (changes : List RowChange)
    → GaveOnShard o s run touched steps writes changes → (step : TransactionStatement) → In step steps → step.on ≡ None → IsAnywhere o step
anywhere_told o s run touched _ _ _ stands.none step h none = absurd h
anywhere_told o s run touched _ _ _ (stands.anywhere {steps} {writes} {changes} last told is) step h none = by (In-push step last steps h) (λ there. anywhere_told o s run touched steps writes changes told step there none)
  where
    by : In step steps ⊎ (last ≡ step) → (In step steps → IsAnywhere o step) → IsAnywhere o step
    by (inl there) rest = rest there
    by (inr e) rest = subst (IsAnywhere o) e is
anywhere_told o s run touched _ _ _ (stands.read {steps} {writes} {changes} q selected seen told alone there place all table join items qualified allowed) step h none = by (In-push step _ steps h) (λ there. anywhere_told o s run touched steps writes changes told step there none)
  where
    by : In step steps ⊎ (record { typed = typed.Select q; answer = Rattle.route_engine.specs.Answer.TheVariants.Rows selected; on = Some s; seen = seen } ≡ step)
        → (In step steps → IsAnywhere o step) → IsAnywhere o step
    by (inl there) rest = rest there
    by (inr e) rest = let on : Some s ≡ step.on = ap (λ (y : TransactionStatement). y.on) e in absurd (cc (on, none))
anywhere_told o s run touched _ _ _ (stands.wrote {steps} {writes} {changes} w more seen told alone is typed_is change) step h none = by (In-push step _ steps h) (λ there. anywhere_told o s run touched steps writes changes told step there none)
  where
    by : In step steps ⊎ (record { typed = typed.Write w; answer = Rattle.route_engine.specs.Answer.TheVariants.Count (Rattle.std.specs.Prelude.length more); on = Some s; seen = seen } ≡ step)
        → (In step steps → IsAnywhere o step) → IsAnywhere o step
    by (inl there) rest = rest there
    by (inr e) rest = let on : Some s ≡ step.on = ap (λ (y : TransactionStatement). y.on) e in absurd (cc (on, none))

-- of what is kept of a transaction
anywhere_kept : (o : Opening) (p : PassView Entry) (v : Option OpenView) (t : Transaction) → Represents o p v (Some t) → (step : TransactionStatement) → In step t.steps
    → step.on ≡ None → IsAnywhere o step
anywhere_kept o p _ _ (stands.unbound {t} legal all free) step h none = In-all (IsAnywhere o) step t.steps all h
anywhere_kept o p _ _ (stands.bound {v} {t} is) step h none =
    anywhere_told o is.shard t.at v.pending.touched t.steps v.pending.writes v.pending.changes is.told step h none

module _ (o : Opening) (opens : IsOpening o) (formed : is_vschema o.schema ≡ true) (run : Run) (legal : IsLegal (MayFollow o) run) where
  -- a statement that wrote on no shard leaves the database
  leaves : (step : TransactionStatement) → (step.on ≡ None → IsAnywhere o step) → IsTypedStep o step → LeavesAll o.schema (database o run) step
  leaves step where_to typed_is none after gives = by step.on refl none
    where
      nowhere : (t : Typed) (answer : Answer) (later : Database) → step.typed ≡ t → IsAnywhere o step → GivesOver o.schema (database o run) t answer later
          → later ≡ database o run
      nowhere _ _ _ e any (over.selects table join items qualified rows) = refl
      nowhere _ _ _ e any (over.writes {w} changes of) =
          nothing_written o opens formed run legal w (typed_is w e) (subst (Rattle.route_engine.specs.Transactions.NeedsNone o) e any.none) changes of
      nowhere _ _ _ e any over.sets_names = refl

      by : (on : Option ShardRecord) → step.on ≡ on → write_on step.on step.typed ≡ [] → after ≡ database o run
      by None e none = nowhere step.typed step.answer after refl (where_to e) gives
      by (Some s) e none =
          reads_leave o.schema (database o run) step.typed step.answer step.seen s (subst (λ (on : Option ShardRecord). write_on on step.typed ≡ []) e none) after gives

  -- statements that need no shard, one after the other
  all_nowhere : (done rest : List TransactionStatement) → GiveOver o.schema (database o run) done (database o run) → AllByRecursion (IsAnywhere o) rest
      → GiveOver o.schema (database o run) (done ++ rest) (database o run)
  all_nowhere done [] give all = subst (λ (l : List TransactionStatement). GiveOver o.schema (database o run) l (database o run)) (sym (append-nil done)) give
  all_nowhere done (step ∷ rest) give all =
      subst (λ (l : List TransactionStatement). GiveOver o.schema (database o run) l (database o run)) (append_assoc done (step ∷ []) rest)
      (all_nowhere (done ++ step ∷ []) rest (over.next step give (all.0.same run legal)) all.1)

-- without a shard
on_none : (steps : List TransactionStatement) → used steps ≡ [] → AllByRecursion (λ step. step.on ≡ None) steps
on_none [] e = tt
on_none (step ∷ steps) e = (by step.on (none_left (if_any step.on) (used steps) e), on_none steps (none_right (if_any step.on) (used steps) e))
  where
    by : (on : Option ShardRecord) → if_any on ≡ [] → on ≡ None
    by None e = refl
    by (Some s) e = let f : s ∷ [] ≡ [] = e in absurd (cc f)

all_both : {X : Type 0} (P Q : X → Type 0) (xs : List X) → ((x : X) → In x xs → P x → Q x) → AllByRecursion P xs → AllByRecursion Q xs
all_both P Q xs f all = all-from_In Q xs (λ y h. f y h (In-all P y xs all h))

-- ---- what a statement gives

module _ (o : Opening) (opens : IsOpening o) (formed : is_vschema o.schema ≡ true) (l : Limits) (text : List ℕ) where
  -- what it is over the one databases of two passes
  abbrev Among : PassView Entry → Option Transaction → Typed → Answer → PassAndTx → Type 0
  Among p tx t answer now = GivesAmong o (database o p.seen) (told_in tx) t answer (database o now.pass.seen) (told_in now.tx)

  -- in a transaction
  module _ (p : PassView Entry) (tx : Transaction) (q : PassView Entry) (v : Option OpenView) (kept : Represents o q v (Some tx)) (typed_all : AllByRecursion (IsTypedStep o) tx.steps) where
    idle : (run : Run) → IsLegal (MayFollow o) run → AllByRecursion (LeavesAll o.schema (database o run)) tx.steps
    idle run legal =
        all_both (IsTypedStep o) (LeavesAll o.schema (database o run)) tx.steps
        (λ step h is. leaves o opens formed run legal step (anywhere_kept o q v tx kept step h) is) typed_all

    steps_on : (now : PassView Entry) (t : Typed) (answer : Answer) (on : Option ShardRecord) (at seen : Run) (part : Option KeptPartition) → NoCommits p.seen now.seen
        → ((told : AnsweredStatement) → told ≡ record { typed = t; answer = answer }
        → GivesAmong o (database o p.seen) (Some (map told_of tx.steps)) told.typed told.answer (database o p.seen) (Some (map told_of tx.steps ++ told ∷ [])))
        → Among p (Some tx) t answer (record { pass = now; tx = Some (record { at = at; steps = with_step tx.steps t answer on seen; kept = part }) })
    steps_on now t answer on at seen part still gives =
        let step : TransactionStatement = record { typed = t; answer = answer; on = on; seen = seen } in
        subst (λ (db : Database). GivesAmong o (database o p.seen) (Some (map told_of tx.steps)) t answer db (Some (map told_of (tx.steps ++ step ∷ [])))) (sym (one_still o p.seen now.seen still))
        (subst (λ (told : List AnsweredStatement). GivesAmong o (database o p.seen) (Some (map told_of tx.steps)) t answer (database o p.seen) (Some told)) (sym (map-push tx.steps step))
        (gives (told_of step) refl))

    done_here : (now : PassView Entry) (steps : List TransactionStatement) (after : Database) → NoCommits p.seen now.seen → GiveOver o.schema (database o now.seen) steps after
        → InTurn o.schema (database o p.seen) (map told_of steps) after
    done_here now steps after still give =
        subst (λ (db : Database). InTurn o.schema db (map told_of steps) after) (one_still o p.seen now.seen still) (in_turn o.schema (database o now.seen) steps after give)

    commits_at : (now : PassView Entry) (after : Database) → InTurn o.schema (database o p.seen) (map told_of tx.steps) after → database o now.seen ≡ after
        → Among p (Some tx) typed.Commit (Rattle.route_engine.specs.Answer.TheVariants.Count 0) (record { pass = now; tx = None })
    commits_at now after done is =
        subst (λ (db : Database). GivesAmong o (database o p.seen) (Some (map told_of tx.steps)) typed.Commit (Rattle.route_engine.specs.Answer.TheVariants.Count 0) db None)
        (sym is) (m.alone (next.commits done))

    gives_in : (t : Typed) (reply : Reply) (now : PassAndTx) (q' : PassView Entry) (w : Option OpenView) → IsLegal (MayFollow o) p.seen → NoOthers p now.pass
        → Represents o q' w now.tx → GivesIn o l p tx t reply now → Among p (Some tx) t reply.answer now
    gives_in _ _ _ q' w legal others after (x.nowhere {typed} {answer} none over) =
        let step : TransactionStatement = record { typed = typed; answer = answer; on = None; seen = p.seen } in
        let any : IsAnywhere o step =
        anywhere_kept o q' w (record { at = tx.at; steps = with_step tx.steps typed answer None p.seen; kept = tx.kept }) after step (In-last step tx.steps) refl in
        let all : IsEverywhere o (told_of step) = any.same in
        steps_on p typed answer None tx.at p.seen tx.kept (still_self p.seen)
        (λ told is. m.everywhere told (subst (IsEverywhere o) (sym is) all))
    gives_in _ _ _ q' w legal others after (x.on_shard {typed} {answer} {now} s seats needs all looked serves clear over) =
        let still = looked_unchanged p now others o s.slot looked in
        let step : TransactionStatement = record { typed = typed; answer = answer; on = Some s; seen = now.seen } in
        let done : InTurn o.schema (database o p.seen) (map told_of tx.steps ++ told_of step ∷ []) over.0 =
        subst (λ (told : List AnsweredStatement). InTurn o.schema (database o p.seen) told over.0) (map-push tx.steps step)
        (done_here now (tx.steps ++ step ∷ []) over.0 still over.1) in
        steps_on now typed answer (Some s) now.seen now.seen (Some (record { keyspace = s.place.keyspace; seats = seats })) still
        (λ told is. m.alone (next.within told (subst (λ (u : AnsweredStatement). InTurn o.schema (database o p.seen) (map told_of tx.steps ++ u ∷ []) over.0) (sym is) done)))
    gives_in _ _ _ q' w legal others after (x.commits_nothing none) =
        let all : AllByRecursion (IsAnywhere o) tx.steps =
        all_both (λ (step : TransactionStatement). step.on ≡ None) (IsAnywhere o) tx.steps (λ step h is. anywhere_kept o q v tx kept step h is) (on_none tx.steps none) in
        commits_at p (database o p.seen)
        (in_turn o.schema (database o p.seen) tx.steps (database o p.seen) (all_nowhere o opens formed p.seen legal [] tx.steps over.none all)) refl
    gives_in _ _ _ q' w legal others after (x.commits_reads {now} s uses none looked serves clear over) =
        let still = looked_unchanged p now others o s.slot looked in
        let same = all_stay o.schema (database o now.seen) tx.steps over.0 over.1 (idle now.seen looked.legal) none in
        commits_at now over.0 (done_here now tx.steps over.0 still over.1) (sym same)
    gives_in _ _ _ q' w legal others after (x.commits_writes {now} s uses some c) =
        let before : NoCommits p.seen c.before =
        unchanged p now others c.before (prefix_trans p.seen c.looked.seen c.before c.look.later c.later) (committed_later o l s p tx.steps now c)
        (c.own others.session others.of_session) in
        commits_at now (database o now.seen)
        (subst (λ (db : Database). InTurn o.schema db (map told_of tx.steps) (database o now.seen)) (one_still o p.seen c.before before)
        (in_turn o.schema (database o c.before) tx.steps (database o now.seen) c.over)) refl
    gives_in _ _ _ q' w legal others after x.rolls_back = m.alone next.rolls_back

  others_counted : (p now : PassView Entry) → NoOthers p now → NoOthers (counted p) now
  others_counted p now h = record { session = h.session; of_session = h.of_session; added = h.added; seen = h.seen; own = h.own }

  abbrev Answered : PassView Entry → Option Transaction → Reply → PassAndTx → Type 0
  Answered p tx reply now = AnswersAmong o (database o p.seen) (told_in tx) text reply.answer (database o now.pass.seen) (told_in now.tx)

  answered : (p : PassView Entry) (tx : Option Transaction) (t : Typed) (reply : Reply) (now : PassAndTx) (tree : Statement) → Reads text tree
      → typed_statement o.schema tree ≡ Ok t → Among p tx t reply.answer now → Answered p tx reply now
  answered p tx t reply now tree reads is gives = record { statement = tree; typed = t; reads = reads; resolved = is; gives = gives }

  -- that it is done
  abbrev done : Reply
  done = record { answer = Rattle.route_engine.specs.Answer.TheVariants.Count 0; reads = [] }

  gives_at : (p : PassView Entry) (tx : Option Transaction) (t : Typed) (reply : Reply) (now : PassAndTx) (tree : Statement) (q q' : PassView Entry) (v w : Option OpenView)
      → Reads text tree → typed_statement o.schema tree ≡ Ok t → IsLegal (MayFollow o) p.seen → NoOthers p now.pass → Represents o q v tx → Represents o q' w now.tx
      → AreTyped o tx → GivesAt o l (counted p) tx t reply now → Answered p tx reply now
  gives_at p _ t reply _ tree q q' v w reads is legal others kept after typed_all (x.alone {now} gives) =
      let said = reply_over o opens formed l text p now reply legal others (record { statement = tree; typed = t; reads = reads; resolved = is; gives = gives }) in
      record { statement = said.statement; typed = said.typed; reads = said.reads; resolved = said.resolved; gives = m.alone (next.by_itself said.gives) }
  gives_at p _ _ _ _ tree q q' v w reads is legal others kept after typed_all x.begins = answered p None typed.Begin done (record { pass = counted p; tx = Some (record { at = p.seen; steps = []; kept = None }) }) tree reads is (m.alone next.begins)
  gives_at p _ _ _ _ tree q q' v w reads is legal others kept after typed_all x.commits = answered p None typed.Commit done (record { pass = counted p; tx = None }) tree reads is (m.alone next.none_to_commit)
  gives_at p _ _ _ _ tree q q' v w reads is legal others kept after typed_all x.rolls_back = answered p None typed.Rollback done (record { pass = counted p; tx = None }) tree reads is (m.alone next.none_to_roll_back)
  gives_at p _ t reply now tree q q' v w reads is legal others kept after typed_all (x.within {tx} gives) =
      answered p (Some tx) t reply now tree reads is
      (gives_in (counted p) tx q v kept typed_all t reply now q' w legal (others_counted p now.pass others) after gives)

  pub answer_among : (st now : PassAndTx) (reply : Reply) (q q' : PassView Entry) (v w : Option OpenView) → IsLegal (MayFollow o) st.pass.seen → NoOthers st.pass now.pass
      → Represents o q v st.tx → Represents o q' w now.tx → AreTyped o st.tx → IsReplyTo o l st text reply now → Answered st.pass st.tx reply now
  answer_among st now reply q q' v w legal others kept after typed_all is =
      gives_at st.pass st.tx is.typed reply now is.statement q q' v w is.reads is.resolved legal others kept after typed_all is.gives

  -- ---- refusals

  has_some : (tx : Transaction) → told_in (Some tx) ≡ None → ⊥
  has_some tx e = let f : Some (map told_of tx.steps) ≡ None = e in absurd (cc f)

  -- it leaves the database; and its transaction, or ends it
  pub record Left (st : PassAndTx) (e : Refusal) (now : PassAndTx) : Type 0 where
    pub why : told_in st.tx ≡ None → IsRefusedOver o.schema (database o st.pass.seen) text e
    pub still : NoCommits st.pass.seen now.pass.seen
    pub tx : (told_in now.tx ≡ told_in st.tx) ⊎ ((told : List AnsweredStatement) × (told_in st.tx ≡ Some told) × (told_in now.tx ≡ None))

  refused_in : (p : PassView Entry) (tx : Transaction) (t : Typed) (e : Refusal) (now : PassAndTx) → NoOthers p now.pass → IsRefusedIn o l p tx t e now
      → Left (record { pass = p; tx = Some tx }) e now
  refused_in p tx _ _ _ others (x.no_memory {now} gone) = record { why = λ none. absurd (has_some tx none); still = gone_same p now others o gone; tx = inl refl }
  refused_in p tx _ _ _ others x.open_twice = record { why = λ none. absurd (has_some tx none); still = still_self p.seen; tx = inl refl }
  refused_in p tx _ _ _ others (x.several {now = now} k seats none of found two gone) =
      record { why = λ no. absurd (has_some tx no); still = gone_same p now others o gone; tx = inl refl }
  refused_in p tx _ _ _ others (x.another k u uses part home partition seated of some other) =
      record { why = λ none. absurd (has_some tx none); still = still_self p.seen; tx = inl refl }
  refused_in p tx _ _ _ others (x.elsewhere k seats u uses of away partition some) =
      record { why = λ none. absurd (has_some tx none); still = still_self p.seen; tx = inl refl }
  refused_in p tx _ _ _ others (x.moved {now = now} s its looked mode) =
      record { why = λ none. absurd (has_some tx none); still = looked_unchanged p now others o s.slot looked; tx = inr (map told_of tx.steps, refl, refl) }
  refused_in p tx _ _ _ others (x.conflict {now = now} s its looked serves conflict) =
      record { why = λ none. absurd (has_some tx none); still = looked_unchanged p now others o s.slot looked; tx = inr (map told_of tx.steps, refl, refl) }
  refused_in p tx _ _ _ others (x.duplicate {now = now} s after its at give twice) =
      record { why = λ none. absurd (has_some tx none); still = looked_unchanged p now others o s.slot at.looked; tx = inl refl }
  refused_in p tx _ _ _ others (x.full {now} s changes its at wrote made give room) =
      record { why = λ none. absurd (has_some tx none); still = looked_unchanged p now others o s.slot at.looked; tx = inr (map told_of tx.steps, refl, refl) }

  by_itself : (p now : PassView Entry) (e : Refusal) → NoOthers p now → IsRefused o l (counted p) text e now
      → Left (record { pass = p; tx = None }) e (record { pass = now; tx = None })
  by_itself p now e others why =
      let says = refusal_over o opens formed l text p e now (a.numbered why) others in record { why = λ none. says.why; still = says.same; tx = inl refl }

  refused_by : (p : PassView Entry) (tx : Option Transaction) (t : Typed) (e : Refusal) (now : PassAndTx) (tree : Statement) → Reads text tree
      → typed_statement o.schema tree ≡ Ok t → NoOthers p now.pass → IsRefusedBy o l (counted p) tx t e now → Left (record { pass = p; tx = tx }) e now
  refused_by p _ _ e _ tree reads is others (x.not_read {q} {now} why) = by_itself p now e others (a.not_read tree q reads is why)
  refused_by p _ _ e _ tree reads is others (x.not_written {w} {now} why) = by_itself p now e others (a.not_written tree w reads is why)
  refused_by p _ t e now tree reads is others (x.within {tx} why) =
      let left = refused_in (counted p) tx t e now (others_counted p now.pass others) why in
      record { why = left.why; still = left.still; tx = left.tx }

  refused_now : (st now : PassAndTx) (e : Refusal) → NoOthers st.pass now.pass → IsRefusedNow o l (x.numbered st) text e now → Left st e now
  refused_now st _ _ others x.no_memory = record { why = λ none. over.no_memory; still = still_self st.pass.seen; tx = inl refl }
  refused_now st _ _ others (x.no_tree none) = record { why = λ alone. over.no_tree none; still = still_self st.pass.seen; tx = inl refl }
  refused_now st _ e others (x.not_typed tree reads is) = record { why = λ none. over.not_typed tree reads is; still = still_self st.pass.seen; tx = inl refl }
  refused_now st now e others (x.refused tree t reads is why) = refused_by st.pass st.tx t e now tree reads is others why

  used_up : (p : PassView Entry) (tx : Option Transaction)
      → Left (record { pass = p; tx = tx }) Rattle.vt_value.specs.declared.refusal.Refusal.TheVariants.ShardFull (record { pass = p; tx = None })
  used_up p None = record { why = λ none. over.full; still = still_self p.seen; tx = inl refl }
  used_up p (Some tx) = record { why = λ none. absurd (has_some tx none); still = still_self p.seen; tx = inr (map told_of tx.steps, refl, refl) }

  pub refused_at : (st now : PassAndTx) (e : Refusal) → NoOthers st.pass now.pass → IsRefusedAt o l st text e now → Left st e now
  refused_at st _ _ others (x.used_up many) = used_up st.pass st.tx
  refused_at st now e others (x.refused why) = refused_now st now e others why
