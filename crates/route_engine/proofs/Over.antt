-- Where no other session comes between, what a text gives is what it gives over the one database that was seen.
use Rattle.std.proofs.Common.{◌≡◌, true, ℕ, List, [], ◌∷◌, ◌++◌, length, Result, Ok, Err, refl, sym, ap, subst, ◌∙◌}
use Rattle.std.specs.List.{AllByRecursion}
use Rattle.std.proofs.lemmas.List.{append-nil}
use Rattle.std.proofs.lemmas.List.Sorted.{IsPermutation-refl}
use mathlib.Core.List.{IsPrefix}
use Rattle.vt_value.specs.declared.refusal.Refusal.{Refusal}
use Rattle.sql_tree.specs.declared.Statement.{Statement}
use Rattle.shard_calls.specs.Grammar.{Reads}
use Rattle.vschema.specs.declared.schema.Query.{Query}
use Rattle.vschema.specs.declared.schema.Typed.{Typed}
use Rattle.vschema.specs.declared.schema.Typed.TheVariants as typed
use Rattle.vschema.specs.declared.schema.VSchema.{VSchema}
use Rattle.vschema.specs.declared.changes.Write.{Write}
use Rattle.vschema.specs.declared.changes.RowChange.{RowChange}
use Rattle.vschema.specs.Database.{Database, applied, all_applied}
use Rattle.vschema.specs.Sources.{SourcesThere, JoinsInPlace}
use Rattle.vschema.specs.TypedStatement.{typed_statement}
use Rattle.vschema.specs.TypedWrites.{IsTypedWrite}
use Rattle.vschema.specs.WellFormed.{is_vschema}
use Rattle.shard_contents.specs.Queries.{Allowed}
use Rattle.shard_contents.specs.Writes.{changes_of, change}
use Rattle.shard_calls.specs.Routes.{table_at}
use Rattle.journal.specs.Runs.{LegalAfter, IsLegal}
use Rattle.journal.specs.Views.{PassView}
use Rattle.journal.proofs.Fronts.{prefix_self, prefix_trans}
use Rattle.shard_run.specs.declared.ShardRecord.{ShardRecord}
use Rattle.shard_run.specs.declared.Entry.{Entry}
use Rattle.shard_run.specs.Runs.{Run, Opening, opening_rows, database, commit_changes}
use Rattle.shard_contents.specs.Legal.{Legal, IsChangeOf, AreChangesOf}
use Rattle.shard_run.specs.Openings.{IsOpening}
use Rattle.shard_contents.proofs.Lists.{all-weaker}
use Rattle.shard_contents.proofs.Runs.{commits, commits-push}
use Rattle.shard_contents.specs.Limits.{Limits}
use Rattle.shard_contents.specs.Entries.{MayFollow, HasLooked}
use Rattle.shard_contents.specs.Commits.{HasCommitted}
use Rattle.shard_contents.proofs.Legality.{legal_is}
use Rattle.shard_calls.specs.declared.reply.Answer.TheVariants.{Rows, Count}
use Rattle.shard_calls.specs.declared.reply.Reply.{Reply}
use Rattle.shard_calls.specs.Mix.{MixPart, LiesBetween, mixed_rows}
use Rattle.shard_calls.specs.Answers as a
use Rattle.route_engine.specs.inner.Answers as i
use Rattle.serving.specs.Partitions.{Seat, IsPartition}
use Rattle.shard_calls.specs.Answers.{counted, HasGone, IsSelected, Gives, IsShardRefusal, MayReadRefuse, MayWriteRefuse, needed_by}
use Rattle.route_engine.specs.inner.Answers.{IsReply, IsRefused, IsRefusal}
use Rattle.shard_calls.specs.Alone as over
use Rattle.shard_calls.specs.Alone.{NoOthers, NoCommits, GivesOver, IsRefusedOver}
use Rattle.route_engine.specs.inner.Alone.{AnswersOver}
use Rattle.route_engine.proofs.SeatRows.{mixed_sources}
use Rattle.shard_contents.proofs.SameAnswers.{same_sources}
use Rattle.route_engine.proofs.NoOthers.{one_still, still_self, still_trans, still_between, gone_unchanged, gone_same, looked_unchanged, committed_at, up_to, trailing}
use Rattle.route_engine.proofs.Sessions.{is_typed}
use Rattle.route_engine.proofs.Theirs.{query_there, query_joins}
use Rattle.route_engine.proofs.Trying.{same_session}
use Rattle.route_engine.proofs.WholeWrites.{no_changes}

-- ---- what a statement leaves of a pass: it goes on from what was seen, which stays legal

later_looked : (o : Opening) (slot : ℕ) (p now : PassView Entry) → HasLooked o slot p now → IsPrefix p.seen now.seen
later_looked o slot p now looked = looked.later

committed_later : (o : Opening) (l : Limits) (s : ShardRecord) (p now : PassView Entry) (w : Write) (count : ℕ) → HasCommitted o l s p w count now → IsPrefix p.seen now.seen
committed_later o l s p now w count c =
    prefix_trans p.seen c.before now.seen (prefix_trans p.seen c.looked.seen c.before c.look.later c.later) (_, sym c.seen)

-- a run that is legal goes on to one
pub record GoesOn (o : Opening) (p now : PassView Entry) : Type 0 where
  pub later : IsPrefix p.seen now.seen
  pub legal : IsLegal (MayFollow o) p.seen → IsLegal (MayFollow o) now.seen

stays : (o : Opening) (p : PassView Entry) → GoesOn o p p
stays o p = record { later = prefix_self p.seen; legal = λ h. h }

gone_on : (o : Opening) (p now : PassView Entry) → HasGone o p now → GoesOn o p now
gone_on o p now gone = record { later = gone.1.later; legal = λ h. gone.1.legal }

gives_on : (o : Opening) (l : Limits) (p : PassView Entry) (t : Typed) (reply : Reply) (now : PassView Entry) → Gives o l p t reply now → GoesOn o p now
gives_on o l p _ _ now (a.selects (a.read is)) = record { later = is.gone.later; legal = λ h. is.gone.legal }
gives_on o l p _ _ now (a.writes (a.nowhere seats partition none gone means)) = gone_on o p now gone
gives_on o l p _ _ now (a.writes {w} (a.wrote {count} {since} s needed gone c means)) =
    record { later = prefix_trans p.seen since.seen now.seen gone.1.later (committed_later o l s since now w count c); legal = λ h. c.legal }
gives_on o l p _ _ _ a.sets_names = stays o p

not_read_on : (o : Opening) (p : PassView Entry) (q : Query) (e : Refusal) (now : PassView Entry) → MayReadRefuse o p q e now → HasGone o p now
not_read_on o p q _ now (a.no_memory gone) = gone
not_read_on o p q _ now (a.buffer_full gone held) = gone

not_written_on : (o : Opening) (l : Limits) (p : PassView Entry) (w : Write) (e : Refusal) (now : PassView Entry) → MayWriteRefuse o l p w e now → GoesOn o p now
not_written_on o l p w _ now (a.no_memory gone) = gone_on o p now gone
not_written_on o l p w _ now (a.several seats found more gone) = gone_on o p now gone
not_written_on o l p w _ now (a.buffer_full gone held) = gone_on o p now gone
not_written_on o l p w _ now (a.refused {since = since} s needed gone looked served serves why) =
    record { later = prefix_trans p.seen since.seen now.seen gone.1.later looked.later; legal = λ h. looked.legal }

refused_on : (o : Opening) (l : Limits) (p : PassView Entry) (text : List ℕ) (e : Refusal) (now : PassView Entry) → IsRefused o l p text e now → GoesOn o p now
refused_on o l p text _ now (i.no_memory gone) = gone_on o p now gone
refused_on o l p text _ _ (i.no_tree none) = stays o p
refused_on o l p text _ _ (i.not_typed tree reads typed) = stays o p
refused_on o l p text e now (i.not_read tree q reads is why) = gone_on o p now (not_read_on o p q e now why)
refused_on o l p text e now (i.not_written tree w reads is why) = not_written_on o l p w e now why

pub reply_on : (o : Opening) (l : Limits) (p now : PassView Entry) (text : List ℕ) (reply : Reply) → IsReply o l (counted p) text reply now → GoesOn o p now
reply_on o l p now text reply is =
    let on = gives_on o l (counted p) is.typed reply now is.gives in
    record { later = on.later; legal = on.legal }

pub refusal_on : (o : Opening) (l : Limits) (p : PassView Entry) (text : List ℕ) (e : Refusal) (now : PassView Entry) → IsRefusal o l p text e now → GoesOn o p now
refusal_on o l p text _ _ (i.used_up many) = stays o p
refusal_on o l p text e now (i.numbered why) =
    let on = refused_on o l (counted p) text e now why in
    record { later = on.later; legal = on.legal }

-- ---- over the one database

pub legal_last : (o : Opening) (before run : Run) (e : Entry) → LegalAfter (MayFollow o) before (run ++ e ∷ []) → MayFollow o (before ++ run) e
legal_last o before [] e h = subst (λ (r : Run). MayFollow o r e) (sym (append-nil before)) h.0
legal_last o before (x ∷ run) e h =
    subst (λ (r : Run). MayFollow o r e) (Rattle.std.proofs.lemmas.List.append_assoc before (x ∷ []) run) (legal_last o (before ++ x ∷ []) run e h.1)

all_applied-append : (xs ys : List RowChange) (db : Database) → all_applied (xs ++ ys) db ≡ all_applied ys (all_applied xs db)
all_applied-append [] ys db = refl
all_applied-append (c ∷ xs) ys db = all_applied-append xs ys (applied c db)

pub one_push : (o : Opening) (before : Run) (e : Entry) → database o (before ++ e ∷ []) ≡ all_applied (commit_changes e.event) (database o before)
one_push o before e =
    ap (λ (l : List RowChange). all_applied l (opening_rows o)) (commits-push before e)
    ∙ all_applied-append (commits before) (commit_changes e.event) (opening_rows o)

-- the changes of one write
pub only_changes : (schema : VSchema) (w : Write) (db : Database) (changes : List RowChange) → AreChangesOf schema (w ∷ []) db changes → IsChangeOf schema w db changes
only_changes schema w db changes (first, rest, is, of, none) =
    subst (IsChangeOf schema w db) (sym (is ∙ ap (λ (l : List RowChange). first ++ l) none ∙ append-nil first)) of

number_of : Result (Database × ℕ) Refusal → ℕ
number_of (Ok r) = r.1
number_of (Err e) = 0

pub count_is : (schema : VSchema) (w : Write) (db after : Database) (exact : List RowChange) (count : ℕ) → changes_of schema w db ≡ Ok exact
    → change schema w db ≡ Ok (after, count) → length exact ≡ count
unfolding number_of
count_is schema w db after exact count is changed =
    let e : ◌≡◌ {A = Result (Database × ℕ) Refusal} (Ok (all_applied exact db, length exact)) (Ok (after, count)) = rw is at changed in
    ap number_of e

module _ (o : Opening) (opens : IsOpening o) (formed : is_vschema o.schema ≡ true) (l : Limits) (p now : PassView Entry) (alone : NoOthers p now) where
  same_runs : (parts : List MixPart) → AllByRecursion (LiesBetween p.seen now.seen) parts → NoCommits p.seen now.seen
      → AllByRecursion (λ part. database o part.run ≡ database o p.seen) parts
  same_runs parts all same =
      all-weaker (LiesBetween p.seen now.seen) (λ part. database o part.run ≡ database o p.seen)
      (λ part h. one_still o p.seen part.run (still_between p.seen part.run now.seen h.0 h.1 same)) parts all

  -- a query
  pub selected_over : (q : Query) (selected : Rattle.shard_calls.specs.declared.reply.Selected.Selected) (reads : List Rattle.shard_calls.specs.declared.reply.ShardRead.ShardRead)
      → SourcesThere (length o.schema.tables) q → JoinsInPlace o.schema q → IsSelected o p (table_at o.schema q.table) q selected reads now
      → GivesOver o.schema (database o p.seen) (typed.Select q) (Rows selected) (database o now.seen)
  selected_over q selected reads there joins is =
      let same = gone_unchanged p now alone o is.added is.gone in
      let rows = mixed_sources o q there joins p.seen is.parts (same_runs is.parts is.mix.between same) is.mix.named is.mix.whole in
      let answer : Allowed q (database o p.seen) selected.rows =
      same_sources q (mixed_rows o (table_at o.schema q.table).keyspace is.parts) (database o p.seen) selected.rows rows is.allowed in
      subst (λ (db : Database). GivesOver o.schema (database o p.seen) (typed.Select q) (Rows selected) db) (sym (one_still o p.seen now.seen same))
      (over.selects is.table is.join is.items is.qualified answer)

  -- a write
  pub committed_over : (w : Write) (s : ShardRecord) (count : ℕ) (c : HasCommitted o l s p w count now)
      → GivesOver o.schema (database o c.before) (typed.Write w) (Count count) (database o now.seen)
      → GivesOver o.schema (database o p.seen) (typed.Write w) (Count count) (database o now.seen)
  committed_over w s count c means =
      let there : database o c.before ≡ database o p.seen = one_still o p.seen c.before (committed_at p now alone o l s w count c) in
      subst (λ (db : Database). GivesOver o.schema db (typed.Write w) (Count count) (database o now.seen)) there means

-- a write that needs no shard
pub nowhere_over : (o : Opening) → IsOpening o → is_vschema o.schema ≡ true → (run : Run) → Legal o run → (w : Write) → IsTypedWrite o.schema w
    → (seats : List Seat) → IsPartition seats → needed_by o w seats ≡ [] → GivesOver o.schema (database o run) (typed.Write w) (Count 0) (database o run)
nowhere_over o opens formed run legal w is seats partition none =
    over.writes [] ([], no_changes o opens formed run legal seats partition w is none, IsPermutation-refl [])

-- a write after looks
module _ (o : Opening) (opens : IsOpening o) (formed : is_vschema o.schema ≡ true) (l : Limits) (p now : PassView Entry) (alone : NoOthers p now) where
  wrote_over : (w : Write) (s : ShardRecord) (count : ℕ) (since : PassView Entry) → HasGone o p since → (c : HasCommitted o l s since w count now)
      → GivesOver o.schema (database o c.before) (typed.Write w) (Count count) (database o now.seen) → GivesOver o.schema (database o p.seen) (typed.Write w) (Count count) (database o now.seen)
  wrote_over w s count since gone c means =
      let after = committed_later o l s since now w count c in
      let same : NoCommits p.seen since.seen = gone_same p since (up_to p now alone since gone.1.later after) o gone in
      let later : NoOthers since now = trailing p now alone since gone.1.later after (same_session o p since gone) in
      subst (λ (db : Database). GivesOver o.schema db (typed.Write w) (Count count) (database o now.seen)) (one_still o p.seen since.seen same)
      (committed_over o opens formed l since now later w s count c means)

  left_over : (w : Write) → IsTypedWrite o.schema w → IsLegal (MayFollow o) p.seen → (seats : List Seat) → IsPartition seats → needed_by o w seats ≡ [] → HasGone o p now
      → GivesOver o.schema (database o p.seen) (typed.Write w) (Count 0) (database o now.seen)
  left_over w is legal seats partition none gone =
      subst (λ (db : Database). GivesOver o.schema (database o p.seen) (typed.Write w) (Count 0) db) (sym (one_still o p.seen now.seen (gone_same p now alone o gone)))
      (nowhere_over o opens formed p.seen (legal_is o p.seen legal) w is seats partition none)

module _ (o : Opening) (opens : IsOpening o) (formed : is_vschema o.schema ≡ true) (l : Limits) (text : List ℕ) (tree : Statement) (reads : Reads text tree) where
  gives_over : (p : PassView Entry) (t : Typed) (reply : Reply) (now : PassView Entry) → Gives o l p t reply now → typed_statement o.schema tree ≡ Ok t
      → IsLegal (MayFollow o) p.seen → NoOthers p now → GivesOver o.schema (database o p.seen) t reply.answer (database o now.seen)
  gives_over p _ _ now (a.selects {query} (a.read {selected} {reads} is)) typed_is legal alone =
      selected_over o opens formed l p now alone query selected reads (query_there o.schema tree query typed_is) (query_joins o.schema tree query typed_is) is
  gives_over p _ _ now (a.writes {w} (a.nowhere seats partition none gone means)) typed_is legal alone =
      left_over o opens formed l p now alone w (is_typed o.schema tree w typed_is) legal seats partition none gone
  gives_over p _ _ now (a.writes {w} (a.wrote {count} {since} s needed gone c means)) typed_is legal alone =
      wrote_over o opens formed l p now alone w s count since gone c means
  gives_over p _ _ _ a.sets_names typed_is legal alone = over.sets_names

-- a numbered pass has seen as much
counted_alone : (p now : PassView Entry) → NoOthers p now → NoOthers (counted p) now
counted_alone p now h = record { session = h.session; of_session = h.of_session; added = h.added; seen = h.seen; own = h.own }

module _ (o : Opening) (opens : IsOpening o) (formed : is_vschema o.schema ≡ true) (l : Limits) (text : List ℕ) where
  pub reply_over : (p now : PassView Entry) (reply : Reply) → IsLegal (MayFollow o) p.seen → NoOthers p now → IsReply o l (counted p) text reply now
      → AnswersOver o.schema (database o p.seen) text reply.answer (database o now.seen)
  reply_over p now reply legal h is = record {
    statement = is.statement;
    typed = is.typed;
    reads = is.reads;
    resolved = is.resolved;
    gives = gives_over o opens formed l text is.statement is.reads (counted p) is.typed reply now is.gives is.resolved legal (counted_alone p now h);
  }

  -- a refusal leaves the database
  pub record Refuses (p : PassView Entry) (e : Refusal) (now : PassView Entry) : Type 0 where
    pub why : IsRefusedOver o.schema (database o p.seen) text e
    pub same : NoCommits p.seen now.seen

  commit_refused : (p now : PassView Entry) (tree : Statement) (w : Write) (s : ShardRecord) (e : Refusal) → Reads text tree → typed_statement o.schema tree ≡ Ok (typed.Write w)
      → IsShardRefusal o l s now.seen w e → database o now.seen ≡ database o p.seen → IsRefusedOver o.schema (database o p.seen) text e
  commit_refused p now tree w s _ reads is a.no_memory same = over.no_memory
  commit_refused p now tree w s _ reads is (a.full changes of room) same = over.full
  commit_refused p now tree w s _ reads is (a.duplicate twice) same =
      over.duplicate tree w reads is (ap (λ (db : Database). changes_of o.schema w db) (sym same) ∙ twice)

  refused_later : (p now : PassView Entry) → NoOthers p now → (tree : Statement) (w : Write) (s : ShardRecord) (e : Refusal) (since : PassView Entry) → Reads text tree
      → typed_statement o.schema tree ≡ Ok (typed.Write w) → HasGone o p since → HasLooked o s.slot since now
      → IsShardRefusal o l s now.seen w e → Refuses p e now
  refused_later p now h tree w s e since reads is gone looked why =
      let same : NoCommits p.seen since.seen = gone_same p since (up_to p now h since gone.1.later looked.later) o gone in
      let later : NoOthers since now = trailing p now h since gone.1.later looked.later (same_session o p since gone) in
      let left : NoCommits p.seen now.seen = still_trans p.seen since.seen now.seen same (looked_unchanged since now later o s.slot looked) in
      record { why = commit_refused p now tree w s e reads is why (one_still o p.seen now.seen left); same = left }

  refused_over : (p : PassView Entry) (e : Refusal) (now : PassView Entry) → IsRefused o l p text e now → NoOthers p now → Refuses p e now
  refused_over p _ now (i.no_memory gone) h = record { why = over.no_memory; same = gone_same p now h o gone }
  refused_over p _ _ (i.no_tree none) h = record { why = over.no_tree none; same = still_self p.seen }
  refused_over p _ _ (i.not_typed tree reads typed) h = record { why = over.not_typed tree reads typed; same = still_self p.seen }
  refused_over p _ now (i.not_read tree q reads is (a.no_memory gone)) h = record { why = over.no_memory; same = gone_same p now h o gone }
  refused_over p _ now (i.not_read tree q reads is (a.buffer_full gone held)) h = record { why = over.waits tree (typed.Select q) reads is tt; same = gone_same p now h o gone }
  refused_over p _ now (i.not_written tree w reads is (a.no_memory gone)) h = record { why = over.no_memory; same = gone_same p now h o gone }
  refused_over p _ now (i.not_written tree w reads is (a.several seats found more gone)) h = record { why = over.several tree (typed.Write w) reads is tt; same = gone_same p now h o gone }
  refused_over p _ now (i.not_written tree w reads is (a.buffer_full gone held)) h = record { why = over.waits tree (typed.Write w) reads is tt; same = gone_same p now h o gone }
  refused_over p e now (i.not_written tree w reads is (a.refused {since = since} s needed gone looked served serves why)) h =
      refused_later p now h tree w s e since reads is gone looked why

  pub refusal_over : (p : PassView Entry) (e : Refusal) (now : PassView Entry) → IsRefusal o l p text e now → NoOthers p now → Refuses p e now
  refusal_over p _ _ (i.used_up many) h = record { why = over.full; same = still_self p.seen }
  refusal_over p e now (i.numbered why) h =
      let r = refused_over (counted p) e now why (counted_alone p now h) in
      record { why = r.why; same = r.same }
