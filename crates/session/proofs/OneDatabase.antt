-- Where no other session comes between, a statement gives what it means over the one database, behind those of its transaction.
use Rattle.std.proofs.Common.{◌≡◌, true, ℕ, List, [], ◌∷◌, ◌++◌, map, Contains, Option, Some, None, Result, Ok, Err, length, refl, sym, ap, subst, ◌∙◌, inl, inr}
use Rattle.std.specs.List.{AllByRecursion}
use Rattle.std.proofs.lemmas.Grind.{flat_map-append}
use Rattle.std.proofs.lemmas.List.{append-nil, append_cancel_left}
use Rattle.std.proofs.lemmas.List.Sorted.{length_permutation}
use Rattle.vt_value.specs.declared.refusal.Refusal.{Refusal}
use Rattle.vt_value.specs.declared.refusal.Refusal.TheVariants.{OutOfMemory, ShardFull}
use Rattle.sql_tree.specs.declared.Statement.{Statement}
use Rattle.sql_parser.specs.Grammar.{Reads}
use Rattle.vschema.specs.declared.schema.VSchema.{VSchema}
use Rattle.vschema.specs.declared.schema.Typed.{Typed}
use Rattle.vschema.specs.declared.schema.Typed.TheVariants as typed
use Rattle.vschema.specs.declared.changes.Write.{Write}
use Rattle.vschema.specs.declared.changes.RowChange.{RowChange}
use Rattle.vschema.specs.Database.{Database, all_applied}
use Rattle.vschema.specs.TypedStatement.{typed_statement}
use Rattle.vschema.specs.TypedWrites.{IsTypedWrite}
use Rattle.vschema.specs.WellFormed.{is_vschema}
use Rattle.journal.specs.Runs.{IsLegal}
use Rattle.journal.specs.Views.{PassView}
use Rattle.journal.proofs.Fronts.{prefix_trans}
use Rattle.shard_run.specs.declared.ShardRecord.{ShardRecord}
use Rattle.shard_run.specs.declared.Event.TheVariants.{Commit}
use Rattle.shard_run.specs.declared.Entry.{Entry}
use Rattle.shard_run.specs.Runs.{Run, Opening, database}
use Rattle.route_engine.specs.Legal.{IsChangeOf}
use Rattle.shard_run.specs.Openings.{IsOpening}
use Rattle.route_engine.proofs.Lists.{In, In-from_Contains, all-append, all-weaker}
use Rattle.route_engine.specs.Limits.{Limits}
use Rattle.route_engine.specs.Entries.{MayFollow, commit_of}
use Rattle.route_engine.proofs.Legality.{legal_is}
use Rattle.route_engine.specs.Answer.{Answer}
use Rattle.route_engine.specs.Reply.{Reply}
use Rattle.route_engine.specs.inner.Answers as a
use Rattle.route_engine.specs.Answers.{counted}
use Rattle.route_engine.specs.inner.Answers.{IsReply, IsRefused}
use Rattle.route_engine.specs.Alone as over
use Rattle.route_engine.specs.Alone.{NoOthers, NoCommits, GivesOver, UsesTables, IsRefusedOver}
use Rattle.route_engine.specs.Transactions as x
use Rattle.route_engine.specs.Transactions.{TransactionStatement, KeptPartition, statement_keyspace, Transaction, PassAndTx, GiveOver, AreOver, NeedsNone, used, if_any, writes_in, write_on, with_step, IsCommitted, GivesIn, GivesAt, IsReplyTo, IsConflict, IsRefusedIn, IsRefusedBy, IsRefusedNow, IsRefusedAt}
use Rattle.route_engine.proofs.NoOthers.{one_still, still_self, still_trans, unchanged, gone_same, looked_unchanged, all_front, all_back}
use Rattle.route_engine.proofs.Over.{reply_over, refusal_over}
use Rattle.route_engine.proofs.Sessions.{is_typed}
use Rattle.route_engine.proofs.WholeWrites.{no_changes}
use Rattle.session.specs.Alone as alone
use Rattle.session.specs.Alone.{AnsweredStatement, OneState, InTurn, GivesNext, AnswersNext, Sees, IsEnding, MeansOver, told_of, LeavesAll, IsOpenOver, IsOverAt}
use Rattle.session.proofs.Steps.{committed_later}

-- ---- lists

pub map-push : (steps : List TransactionStatement) (step : TransactionStatement) → map told_of (steps ++ step ∷ []) ≡ map told_of steps ++ told_of step ∷ []
map-push [] step = refl
map-push (s ∷ steps) step = ap (λ (l : List AnsweredStatement). told_of s ∷ l) (map-push steps step)

module _ {X : Type 0} where
  pub none_left : (xs ys : List X) → xs ++ ys ≡ [] → xs ≡ []
  none_left [] ys e = refl
  none_left (x ∷ xs) ys e = absurd (cc e)

  pub none_right : (xs ys : List X) → xs ++ ys ≡ [] → ys ≡ []
  none_right [] ys e = e
  none_right (x ∷ xs) ys e = absurd (cc e)

  all_in : (P : X → Type 0) (x : X) (xs : List X) → AllByRecursion P xs → In x xs → P x
  all_in P x [] all h = absurd h
  all_in P x (y ∷ xs) all (inl e) = subst P e all.0
  all_in P x (y ∷ xs) all (inr h) = all_in P x xs all.1 h

  nothing_in : (x : X) (xs : List X) → xs ≡ [] → Contains xs x → ⊥
  nothing_in x xs none h = subst (λ (l : List X). In x l) none (In-from_Contains x xs h)

-- no shard was used, so no write used one
pub writes_none : (steps : List TransactionStatement) → used steps ≡ [] → writes_in steps ≡ []
writes_none [] e = refl
writes_none (step ∷ steps) e =
    let first = none_left (if_any step.on) (used steps) e in
    let rest = writes_none steps (none_right (if_any step.on) (used steps) e) in
    by step.on step.typed first ∙ rest
  where
    by : (on : Option ShardRecord) (t : Typed) → if_any on ≡ [] → write_on on t ++ writes_in steps ≡ writes_in steps
    by None t e = refl
    by (Some s) t e = let f : s ∷ [] ≡ [] = e in absurd (cc f)

-- ---- statements one after the other

pub in_turn : (schema : VSchema) (db : Database) (steps : List TransactionStatement) (after : Database) → GiveOver schema db steps after → InTurn schema db (map told_of steps) after
in_turn schema db _ _ over.none = over.none
in_turn schema db _ _ (over.next {before = steps} {mid} {after} step give gives) =
    subst (λ (l : List AnsweredStatement). InTurn schema db l after) (sym (map-push steps step)) (over.next (told_of step) (in_turn schema db steps mid give) gives)

-- without writes they leave the database
pub all_stay : (schema : VSchema) (db : Database) (steps : List TransactionStatement) (after : Database) → GiveOver schema db steps after → AllByRecursion (LeavesAll schema db) steps
    → writes_in steps ≡ [] → after ≡ db
all_stay schema db _ _ over.none all none = refl
all_stay schema db _ _ (over.next {before = steps} {mid} {after} step give gives) all none =
    let split : writes_in steps ++ writes_in (step ∷ []) ≡ [] = sym (flat_map-append (λ (s : TransactionStatement). write_on s.on s.typed) steps (step ∷ [])) ∙ none in
    let here : mid ≡ db =
    all_stay schema db steps mid give (all_front (LeavesAll schema db) steps (step ∷ []) all) (none_left (writes_in steps) (writes_in (step ∷ [])) split) in
    let last : write_on step.on step.typed ≡ [] =
    sym (append-nil (write_on step.on step.typed)) ∙ none_right (writes_in steps) (writes_in (step ∷ [])) split in
    (all_back (LeavesAll schema db) steps (step ∷ []) all).0 last after (subst (λ (d : Database). GivesOver schema d step.typed step.answer after) here gives)

-- one more statement
module _ (o : Opening) (run : Run) (t : Transaction) (told : List AnsweredStatement) (h : IsOpenOver o run t told) (step : TransactionStatement) where
  abbrev more : List TransactionStatement
  more = t.steps ++ step ∷ []

  told_more : told ++ told_of step ∷ [] ≡ map told_of more
  told_more = ap (λ (l : List AnsweredStatement). l ++ told_of step ∷ []) h.same ∙ sym (map-push t.steps step)

  pub opened_more : (at : Run) → NoCommits at run → NoCommits step.seen run → AreOver o run more → LeavesAll o.schema (database o run) step
      → (kept : Option KeptPartition) → IsOpenOver o run (record { at = at; steps = more; kept = kept }) (told ++ told_of step ∷ [])
  opened_more at is seen over leaves kept = record {
    at = is;
    same = told_more;
    seen = all-append (λ (s : TransactionStatement). NoCommits s.seen run) t.steps (step ∷ []) h.seen (seen, tt);
    over = over;
    idle = all-append (LeavesAll o.schema (database o run)) t.steps (step ∷ []) h.idle (leaves, tt);
  }

  pub given_more : (after : Database) → GiveOver o.schema (database o run) more after → InTurn o.schema (database o run) (told ++ told_of step ∷ []) after
  given_more after give =
      subst (λ (l : List AnsweredStatement). InTurn o.schema (database o run) l after) (sym told_more) (in_turn o.schema (database o run) more after give)

module _ (o : Opening) (run : Run) (t : Transaction) (told : List AnsweredStatement) (h : IsOpenOver o run t told) where
  all_given : (after : Database) → GiveOver o.schema (database o run) t.steps after → InTurn o.schema (database o run) told after
  all_given after give = subst (λ (l : List AnsweredStatement). InTurn o.schema (database o run) l after) (sym h.same) (in_turn o.schema (database o run) t.steps after give)

  -- without writes they lead back to the database
  unwritten : writes_in t.steps ≡ [] → InTurn o.schema (database o run) told (database o run)
  unwritten none =
      let same = all_stay o.schema (database o run) t.steps h.over.0 h.over.1 h.idle none in
      subst (λ (d : Database). InTurn o.schema (database o run) told d) same (all_given h.over.0 h.over.1)

-- a statement that used a shard and didn't write leaves the database
pub reads_leave : (schema : VSchema) (db : Database) (t : Typed) (answer : Answer) (seen : Run) (s : ShardRecord)
    → LeavesAll schema db (record { typed = t; answer = answer; seen = seen; on = Some s })
reads_leave schema db t answer seen s none after gives = by t answer after none gives
  where
    by : (t : Typed) (answer : Answer) (after : Database) → write_on (Some s) t ≡ [] → GivesOver schema db t answer after → after ≡ db
    by _ _ _ none (over.selects table join items qualified rows) = refl
    by _ _ _ none (over.writes {w} changes is) = let e : w ∷ [] ≡ [] = none in absurd (cc e)
    by _ _ _ none over.sets_names = refl

empty_is : (xs : List RowChange) → length xs ≡ 0 → xs ≡ []
empty_is [] e = refl
empty_is (x ∷ xs) e = absurd (cc e)

ok_of : (r : Result (List RowChange) Refusal) → List RowChange
ok_of (Ok x) = x
ok_of (Err e) = []

-- nor does one that needs no shard
module _ (o : Opening) (opens : IsOpening o) (formed : is_vschema o.schema ≡ true) (run : Run) (legal : IsLegal (MayFollow o) run) where
  pub nothing_written : (w : Write) → IsTypedWrite o.schema w → NeedsNone o (typed.Write w) → (changes : List RowChange) → IsChangeOf o.schema w (database o run) changes
      → all_applied changes (database o run) ≡ database o run
  unfolding ok_of
  nothing_written w is uses changes of =
      let none = no_changes o opens formed run (legal_is o run legal) uses.0 uses.1 w is uses.2 in
      let exact : of.0 ≡ [] = ap ok_of (sym of.1 ∙ none) in
      let few : length changes ≡ 0 = length_permutation of.0 changes of.2 ∙ ap length exact in
      ap (λ (l : List RowChange). all_applied l (database o run)) (empty_is changes few)

  nowhere_leaves : (tree : Statement) (t : Typed) (answer : Answer) (seen : Run) → typed_statement o.schema tree ≡ Ok t → NeedsNone o t
      → LeavesAll o.schema (database o run) (record { typed = t; answer = answer; seen = seen; on = None })
  nowhere_leaves tree t answer seen is uses none after gives = by t answer after is uses gives
    where
      by : (t : Typed) (answer : Answer) (after : Database) → typed_statement o.schema tree ≡ Ok t → NeedsNone o t → GivesOver o.schema (database o run) t answer after
          → after ≡ database o run
      by _ _ _ is uses (over.selects table join items qualified rows) = refl
      by _ _ _ is uses (over.writes {w} changes of) = nothing_written w (is_typed o.schema tree w is) uses changes of
      by _ _ _ is uses over.sets_names = refl

-- ---- over a run that goes on without commits

module _ (o : Opening) (run now : Run) (still : NoCommits run now) where
  pub same_rows : database o run ≡ database o now
  same_rows = sym (one_still o run now still)

  opened_still : (t : Transaction) (told : List AnsweredStatement) → IsOpenOver o run t told → IsOpenOver o now t told
  opened_still t told h = record {
    at = still_trans t.at run now h.at still;
    same = h.same;
    seen =
        all-weaker (λ (s : TransactionStatement). NoCommits s.seen run) (λ (s : TransactionStatement). NoCommits s.seen now) (λ s x. still_trans s.seen run now x still) t.steps h.seen;
    over = subst (λ (db : Database). (after : Database) × GiveOver o.schema db t.steps after) same_rows h.over;
    idle = subst (λ (db : Database). AllByRecursion (LeavesAll o.schema db) t.steps) same_rows h.idle;
  }

  pub over_still : (tx : Option Transaction) (told : Option (List AnsweredStatement)) → IsOverAt o run tx told → IsOverAt o now tx told
  over_still None None h = h
  over_still None (Some told) h = absurd h
  over_still (Some t) None h = absurd h
  over_still (Some t) (Some told) h = opened_still t told h

-- what has a keyspace is a query or a write
uses_tables : (o : Opening) (t : Typed) (k : ℕ) → statement_keyspace o t ≡ Some k → UsesTables t
uses_tables o (typed.Select q) k is = tt
uses_tables o (typed.Write w) k is = tt
uses_tables o typed.SetNames k is = absurd (cc is)
uses_tables o typed.Begin k is = absurd (cc is)
uses_tables o typed.Commit k is = absurd (cc is)
uses_tables o typed.Rollback k is = absurd (cc is)

-- ---- a statement of a session that is alone

-- what it leads to over the one database
pub record Goes (o : Opening) (p : PassView Entry) (now : PassAndTx) (P : OneState → Type 0) : Type 0 where
  pub state : OneState
  pub holds : P state
  pub rows : state.db ≡ database o now.pass.seen
  pub tx : IsOverAt o now.pass.seen now.tx state.open_one

others_counted : (p now : PassView Entry) → NoOthers p now → NoOthers (counted p) now
others_counted p now h = record { session = h.session; of_session = h.of_session; added = h.added; seen = h.seen; own = h.own }

module _ (o : Opening) (opens : IsOpening o) (formed : is_vschema o.schema ≡ true) (l : Limits) (text : List ℕ) where
  -- in its transaction
  module _ (p now : PassView Entry) (t : Transaction) (told : List AnsweredStatement) (legal : IsLegal (MayFollow o) p.seen) (others : NoOthers p now)
      (h : IsOpenOver o p.seen t told) where
    abbrev Next : Typed → Answer → Option Transaction → Type 0
    Next typed answer tx = Goes o p (record { pass = now; tx = tx }) (λ y. GivesNext o.schema (database o p.seen) (Some told) typed answer y)

    -- it goes on, where nothing was committed
    goes_on : (still : NoCommits p.seen now.seen) (typed : Typed) (answer : Answer) (on : Option ShardRecord) (at seen : Run) → NoCommits at now.seen → NoCommits seen now.seen
        → AreOver o now.seen (with_step t.steps typed answer on seen)
        → LeavesAll o.schema (database o now.seen) (record { typed = typed; answer = answer; seen = seen; on = on })
        → (kept : Option KeptPartition) → Next typed answer (Some (record { at = at; steps = with_step t.steps typed answer on seen; kept = kept }))
    goes_on still typed answer on at seen is then over leaves kept =
        let step : TransactionStatement = record { typed = typed; answer = answer; seen = seen; on = on } in
        let same : database o now.seen ≡ database o p.seen = one_still o p.seen now.seen still in
        let here = opened_still o p.seen now.seen still t told h in record {
          state = record { db = database o p.seen; open_one = Some (told ++ told_of step ∷ []) };
          holds =
              alone.within (told_of step) (subst (λ (db : Database). InTurn o.schema db (told ++ told_of step ∷ []) over.0) same
              (given_more o now.seen t told here step over.0 over.1));
          rows = sym same;
          tx = opened_more o now.seen t told here step at is then over leaves kept;
        }

    -- it has committed nothing
    commits_nothing : NoCommits p.seen now.seen → writes_in t.steps ≡ []
        → Next typed.Commit (Rattle.route_engine.specs.Answer.TheVariants.Count 0) None
    commits_nothing still none = record {
      state = record { db = database o p.seen; open_one = None };
      holds = alone.commits (unwritten o p.seen t told h none);
      rows = same_rows o p.seen now.seen still;
      tx = tt;
    }

    commits_writes : (s : ShardRecord) → IsCommitted o l s p t.steps now → Next typed.Commit (Rattle.route_engine.specs.Answer.TheVariants.Count 0) None
    commits_writes s c =
        let before : database o c.before ≡ database o p.seen =
        one_still o p.seen c.before (unchanged p now others c.before (prefix_trans p.seen c.looked.seen c.before c.look.later c.later) (committed_later o l s p t.steps now c)
        (c.own others.session others.of_session)) in record {
          state = record { db = database o now.seen; open_one = None };
          holds =
              alone.commits (all_given o p.seen t told h (database o now.seen)
              (subst (λ (db : Database). GiveOver o.schema db t.steps (database o now.seen)) before c.over));
          rows = refl;
          tx = tt;
        }

    rolls_back : NoCommits p.seen now.seen → Next typed.Rollback (Rattle.route_engine.specs.Answer.TheVariants.Count 0) None
    rolls_back still =
        record { state = record { db = database o p.seen; open_one = None }; holds = alone.rolls_back; rows = same_rows o p.seen now.seen still; tx = tt }

  gives_in_over : (p : PassView Entry) (t : Transaction) (told : List AnsweredStatement) (typed : Typed) (reply : Reply) (now : PassAndTx) (tree : Statement)
      → typed_statement o.schema tree ≡ Ok typed → IsLegal (MayFollow o) p.seen → NoOthers p now.pass → IsOpenOver o p.seen t told → GivesIn o l p t typed reply now
      → Goes o p now (λ y. GivesNext o.schema (database o p.seen) (Some told) typed reply.answer y)
  gives_in_over p t told _ _ _ tree is legal others h (x.nowhere {typed} {answer} none over) =
      goes_on p p t told legal others h (still_self p.seen) typed answer None t.at p.seen h.at (still_self p.seen)
      (subst (λ (db : Database). (after : Database) × GiveOver o.schema db (with_step t.steps typed answer None p.seen) after) (same_rows o t.at p.seen h.at) over)
      (nowhere_leaves o opens formed p.seen legal tree typed answer p.seen is none) t.kept
  gives_in_over p t told _ _ _ tree is legal others h (x.on_shard {typed} {answer} {now} s seats needs all looked serves clear over) =
      goes_on p now t told legal others h (looked_unchanged p now others o s.slot looked) typed answer (Some s) now.seen now.seen (still_self now.seen) (still_self now.seen) over
      (reads_leave o.schema (database o now.seen) typed answer now.seen s) (Some (record { keyspace = s.place.keyspace; seats = seats }))
  gives_in_over p t told _ _ _ tree is legal others h (x.commits_nothing none) = commits_nothing p p t told legal others h (still_self p.seen) (writes_none t.steps none)
  gives_in_over p t told _ _ _ tree is legal others h (x.commits_reads {now} s uses none looked serves clear over) =
      commits_nothing p now t told legal others h (looked_unchanged p now others o s.slot looked) none
  gives_in_over p t told _ _ _ tree is legal others h (x.commits_writes {now} s uses some c) = commits_writes p now t told legal others h s c
  gives_in_over p t told _ _ _ tree is legal others h x.rolls_back = rolls_back p p t told legal others h (still_self p.seen)

  -- that it is done
  abbrev done : Reply
  done = record { answer = Rattle.route_engine.specs.Answer.TheVariants.Count 0; reads = [] }

  abbrev Told_next : PassView Entry → Option (List AnsweredStatement) → Reply → PassAndTx → Type 0
  Told_next p told reply now = Goes o p now (λ y. AnswersNext o.schema (record { db = database o p.seen; open_one = told }) text reply.answer y)

  told_next : (p : PassView Entry) (told : Option (List AnsweredStatement)) (tree : Statement) (t : Typed) (reply : Reply) (now : PassAndTx) → Reads text tree
      → typed_statement o.schema tree ≡ Ok t → Goes o (counted p) now (λ y. GivesNext o.schema (database o p.seen) told t reply.answer y) → Told_next p told reply now
  told_next p told tree t reply now reads is g = record {
    state = g.state;
    holds = record { statement = tree; typed = t; reads = reads; resolved = is; gives = g.holds };
    rows = g.rows;
    tx = g.tx;
  }

  gives_at_over : (p : PassView Entry) (tx : Option Transaction) (told : Option (List AnsweredStatement)) (t : Typed) (reply : Reply) (now : PassAndTx) (tree : Statement)
      → Reads text tree → typed_statement o.schema tree ≡ Ok t → IsLegal (MayFollow o) p.seen → NoOthers p now.pass → IsOverAt o p.seen tx told
      → GivesAt o l (counted p) tx t reply now → Told_next p told reply now
  gives_at_over p _ None t reply _ tree reads is legal others h (x.alone {now} gives) =
      let said = reply_over o opens formed l text p now reply legal others (record { statement = tree; typed = t; reads = reads; resolved = is; gives = gives }) in record {
        state = record { db = database o now.seen; open_one = None };
        holds = record { statement = said.statement; typed = said.typed; reads = said.reads; resolved = said.resolved; gives = alone.by_itself said.gives };
        rows = refl;
        tx = tt;
      }
  gives_at_over p _ (Some told) t reply _ tree reads is legal others h (x.alone {now} gives) = absurd h
  gives_at_over p _ None _ _ _ tree reads is legal others h x.begins =
      told_next p None tree _ done _ reads is
      (record {
        state = record { db = database o p.seen; open_one = Some [] };
        holds = alone.begins;
        rows = refl;
        tx = record { at = still_self p.seen; same = refl; seen = tt; over = (database o p.seen, over.none); idle = tt };
      })
  gives_at_over p _ (Some told) _ _ _ tree reads is legal others h x.begins = absurd h
  gives_at_over p _ None _ _ _ tree reads is legal others h x.commits =
      told_next p None tree _ done _ reads is (record { state = record { db = database o p.seen; open_one = None }; holds = alone.none_to_commit; rows = refl; tx = tt })
  gives_at_over p _ (Some told) _ _ _ tree reads is legal others h x.commits = absurd h
  gives_at_over p _ None _ _ _ tree reads is legal others h x.rolls_back =
      told_next p None tree _ done _ reads is (record { state = record { db = database o p.seen; open_one = None }; holds = alone.none_to_roll_back; rows = refl; tx = tt })
  gives_at_over p _ (Some told) _ _ _ tree reads is legal others h x.rolls_back = absurd h
  gives_at_over p _ None t reply now tree reads is legal others h (x.within {tx} gives) = absurd h
  gives_at_over p _ (Some told) t reply now tree reads is legal others h (x.within {tx} gives) =
      told_next p (Some told) tree t reply now reads is
      (gives_in_over (counted p) tx told t reply now tree is legal (others_counted p now.pass others) h gives)

  pub answer_over : (s now : PassAndTx) (told : Option (List AnsweredStatement)) (reply : Reply) → IsLegal (MayFollow o) s.pass.seen → NoOthers s.pass now.pass
      → IsOverAt o s.pass.seen s.tx told → IsReplyTo o l s text reply now → Told_next s.pass told reply now
  answer_over s now told reply legal others h is =
      gives_at_over s.pass s.tx told is.typed reply now is.statement is.reads is.resolved legal others h is.gives

  -- ---- refusals

  abbrev Refused_next : PassView Entry → Option (List AnsweredStatement) → Refusal → PassAndTx → Type 0
  Refused_next p told e now =
      Goes o p now (λ y. MeansOver o.schema (record { db = database o p.seen; open_one = told }) text (Rattle.resultset.specs.declared.Outcome.TheVariants.Refused e) y)

  -- some rows that it sees
  sees : (run : Run) (tx : Option Transaction) (told : Option (List AnsweredStatement)) → IsOverAt o run tx told → (rows : Database) × Sees o.schema (database o run) told rows
  sees run None None h = (database o run, refl)
  sees run None (Some told) h = absurd h
  sees run (Some t) None h = absurd h
  sees run (Some t) (Some told) h = (h.over.0, all_given o run t told h h.over.0 h.over.1)

  -- it leaves all
  left : (p now : PassView Entry) (tx : Option Transaction) (told : Option (List AnsweredStatement)) (e : Refusal) (rows : Database) → NoCommits p.seen now.seen → IsOverAt o p.seen tx told
      → Sees o.schema (database o p.seen) told rows → IsRefusedOver o.schema rows text e → Refused_next p told e (record { pass = now; tx = tx })
  left p now tx told e rows still h seen why = record {
    state = record { db = database o p.seen; open_one = told };
    holds = alone.refused rows seen why;
    rows = same_rows o p.seen now.seen still;
    tx = over_still o p.seen now.seen still tx told h;
  }

  -- it ends the transaction
  ended : (p now : PassView Entry) (told : List AnsweredStatement) (e : Refusal) → NoCommits p.seen now.seen → IsEnding e → Refused_next p (Some told) e (record { pass = now; tx = None })
  ended p now told e still ends =
      record { state = record { db = database o p.seen; open_one = None }; holds = alone.ends refl ends; rows = same_rows o p.seen now.seen still; tx = tt }

  -- no other session has changed a table
  no_conflict : (p now : PassView Entry) (t : Transaction) (told : List AnsweredStatement) (s : ShardRecord) → IsOpenOver o p.seen t told → NoCommits p.seen now.seen
      → IsConflict o s p.session now.seen t.steps → ⊥
  no_conflict p now t told s h still c =
      let here : NoCommits c.step.seen now.seen =
      still_trans c.step.seen p.seen now.seen (all_in (λ (step : TransactionStatement). NoCommits step.seen p.seen) c.step t.steps h.seen (In-from_Contains c.step t.steps c.is)) still in
      let same : here.added ≡ c.trailing = append_cancel_left c.step.seen here.added c.trailing (sym here.seen ∙ c.since) in
      let none : AllByRecursion (λ e. commit_of e ≡ None) c.trailing = subst (AllByRecursion (λ e. commit_of e ≡ None)) same here.none in
      let x : Entry = record { shard = s; event = Commit c.commit } in
      let wrong : Some (c.commit.session, c.commit.number) ≡ None = all_in (λ e. commit_of e ≡ None) x c.trailing none (In-from_Contains x c.trailing c.there) in
      absurd (cc wrong)

  refused_in_over : (p : PassView Entry) (t : Transaction) (told : List AnsweredStatement) (typed : Typed) (e : Refusal) (now : PassAndTx) (tree : Statement) → Reads text tree
      → typed_statement o.schema tree ≡ Ok typed → NoOthers p now.pass → IsOpenOver o p.seen t told → IsRefusedIn o l p t typed e now
      → Refused_next p (Some told) e now
  refused_in_over p t told _ _ _ tree reads is others h (x.no_memory {now} gone) =
      left p now (Some t) (Some told) OutOfMemory h.over.0 (gone_same p now others o gone) h (all_given o p.seen t told h h.over.0 h.over.1) over.no_memory
  refused_in_over p t told _ _ _ tree reads is others h x.open_twice =
      record { state = record { db = database o p.seen; open_one = Some told }; holds = alone.begun_twice tree refl reads is; rows = refl; tx = h }
  refused_in_over p t told _ _ _ tree reads is others h (x.several {typed} {now} k seats none of found two gone) =
      left p now (Some t) (Some told) _ h.over.0 (gone_same p now others o gone) h (all_given o p.seen t told h h.over.0 h.over.1)
      (over.several tree typed reads is (uses_tables o typed k of))
  refused_in_over p t told _ _ _ tree reads is others h (x.another {typed} k u uses kept home partition seated of some other) =
      left p p (Some t) (Some told) _ h.over.0 (still_self p.seen) h (all_given o p.seen t told h h.over.0 h.over.1)
      (over.several tree typed reads is (uses_tables o typed k.keyspace of))
  refused_in_over p t told _ _ _ tree reads is others h (x.elsewhere {typed} k seats u uses of away partition some) =
      left p p (Some t) (Some told) _ h.over.0 (still_self p.seen) h (all_given o p.seen t told h h.over.0 h.over.1)
      (over.several tree typed reads is (uses_tables o typed k of))
  refused_in_over p t told _ _ _ tree reads is others h (x.moved {now = now} s its looked mode) =
      ended p now told _ (looked_unchanged p now others o s.slot looked) tt
  refused_in_over p t told _ _ _ tree reads is others h (x.conflict {now = now} s its looked serves conflict) =
      absurd (no_conflict p now t told s h (looked_unchanged p now others o s.slot looked) conflict)
  refused_in_over p t told _ _ _ tree reads is others h (x.duplicate {w} {now} s after its at give twice) =
      let still = looked_unchanged p now others o s.slot at.looked in
      left p now (Some t) (Some told) _ after still h
      (all_given o p.seen t told h after (subst (λ (db : Database). GiveOver o.schema db t.steps after) (one_still o p.seen now.seen still) give)) (over.duplicate tree w reads is twice)
  refused_in_over p t told _ _ _ tree reads is others h (x.full {now} s changes its at wrote made give room) =
      ended p now told _ (looked_unchanged p now others o s.slot at.looked) tt

  -- without a transaction
  refused_by_itself : (p now : PassView Entry) (e : Refusal) (told : Option (List AnsweredStatement)) → NoOthers p now → IsOverAt o p.seen None told → IsRefused o l (counted p) text e now
      → Refused_next p told e (record { pass = now; tx = None })
  refused_by_itself p now e None others h why =
      let says = refusal_over o opens formed l text p e now (a.numbered why) others in
      left p now None None e (database o p.seen) says.same tt refl says.why
  refused_by_itself p now e (Some told) others h why = absurd h

  refused_by_over : (p : PassView Entry) (tx : Option Transaction) (told : Option (List AnsweredStatement)) (t : Typed) (e : Refusal) (now : PassAndTx) (tree : Statement) → Reads text tree
      → typed_statement o.schema tree ≡ Ok t → NoOthers p now.pass → IsOverAt o p.seen tx told → IsRefusedBy o l (counted p) tx t e now → Refused_next p told e now
  refused_by_over p _ told _ e _ tree reads is others h (x.not_read {q} {now} why) = refused_by_itself p now e told others h (a.not_read tree q reads is why)
  refused_by_over p _ told _ e _ tree reads is others h (x.not_written {w} {now} why) = refused_by_itself p now e told others h (a.not_written tree w reads is why)
  refused_by_over p _ None t e now tree reads is others h (x.within {tx} why) = absurd h
  refused_by_over p _ (Some told) t e now tree reads is others h (x.within {tx} why) =
      let g = refused_in_over (counted p) tx told t e now tree reads is (others_counted p now.pass others) h why in
      record { state = g.state; holds = g.holds; rows = g.rows; tx = g.tx }

  -- it leaves all, whatever the rows
  left_so : (s : PassAndTx) (told : Option (List AnsweredStatement)) (e : Refusal) → IsOverAt o s.pass.seen s.tx told → ((rows : Database) → IsRefusedOver o.schema rows text e)
      → Refused_next s.pass told e (x.numbered s)
  left_so s told e h why = let some = sees s.pass.seen s.tx told h in left s.pass (counted s.pass) s.tx told e some.0 (still_self s.pass.seen) h some.1 (why some.0)

  refused_now_over : (s now : PassAndTx) (told : Option (List AnsweredStatement)) (e : Refusal) → NoOthers s.pass now.pass → IsOverAt o s.pass.seen s.tx told
      → IsRefusedNow o l (x.numbered s) text e now → Refused_next s.pass told e now
  refused_now_over s _ told _ others h x.no_memory = left_so s told _ h (λ rows. over.no_memory)
  refused_now_over s _ told _ others h (x.no_tree none) = left_so s told _ h (λ rows. over.no_tree none)
  refused_now_over s _ told e others h (x.not_typed tree reads is) = left_so s told e h (λ rows. over.not_typed tree reads is)
  refused_now_over s now told e others h (x.refused tree t reads is why) = refused_by_over s.pass s.tx told t e now tree reads is others h why

  -- its session's numbers are used up
  used_up_over : (p : PassView Entry) (tx : Option Transaction) (told : Option (List AnsweredStatement)) → IsOverAt o p.seen tx told
      → Refused_next p told ShardFull (record { pass = p; tx = None })
  used_up_over p None None h = left p p None None ShardFull (database o p.seen) (still_self p.seen) tt refl over.full
  used_up_over p None (Some told) h = absurd h
  used_up_over p (Some tx) None h = absurd h
  used_up_over p (Some tx) (Some told) h = ended p p told ShardFull (still_self p.seen) tt

  pub refused_over : (s now : PassAndTx) (told : Option (List AnsweredStatement)) (e : Refusal) → NoOthers s.pass now.pass → IsOverAt o s.pass.seen s.tx told
      → IsRefusedAt o l s text e now → Refused_next s.pass told e now
  refused_over s _ told _ others h (x.used_up many) = used_up_over s.pass s.tx told h
  refused_over s now told e others h (x.refused why) = refused_now_over s now told e others h why
