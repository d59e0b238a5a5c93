-- Statements that need no shard, a primary key that is there already, and a pass that has seen more.
use Rattle.std.proofs.Common.{◌≡◌, ℕ, true, List, [], ◌∷◌, ◌++◌, length, get_or, filter, Option, Some, None, Err, refl, sym, ap, ◌∙◌, subst}
use mathlib.Core.List.{IsPrefix}
use Rattle.vt_value.specs.declared.refusal.Refusal.TheVariants.{DuplicateKey}
use Rattle.vschema.specs.declared.schema.Query.{Query}
use Rattle.vschema.specs.declared.schema.Typed.TheVariants as typed
use Rattle.vschema.specs.declared.changes.Write.{Write}
use Rattle.vschema.specs.Schema.{no_table}
use Rattle.vschema.specs.Database.{Database, SameRows, rows_of, restrict, all_applied}
use Rattle.vschema.specs.Sources.{source_rows, SourcesThere, JoinsInPlace}
use Rattle.vschema.specs.TypedWrites.{IsTypedWrite}
use Rattle.vschema.specs.WellFormed.{is_vschema}
use Rattle.shard_contents.specs.Queries.{IsAnswer}
use Rattle.shard_contents.specs.Writes.{written_table, changes_of}
use Rattle.shard_contents.proofs.ChangeLemmas.{same_changes, rows-same}
use Rattle.journal.specs.Runs.{IsLegal, NumbersBelow, by_session}
use Rattle.journal.specs.Views.{PassView}
use Rattle.journal.proofs.Fronts.{prefix_trans}
use Rattle.serving.specs.Partitions.{Seat, IsPartition}
use Rattle.shard_run.specs.declared.Mode.TheVariants.{Serving}
use Rattle.shard_run.specs.declared.ShardRecord.{ShardRecord}
use Rattle.shard_run.specs.declared.Entry.{Entry}
use Rattle.shard_run.specs.Runs.{Run, Opening, database, shard_rows, mode, answers_queries}
use Rattle.shard_contents.specs.Legal.{IsOnItsSlot}
use Rattle.shard_run.specs.Openings.{IsOpening}
use Rattle.shard_contents.specs.Entries.{MayFollow, commit_of}
use Rattle.shard_contents.specs.Transactions.{PendingView, entry_of}
use Rattle.shard_contents.proofs.Legality.{legal_is, part_held}
use Rattle.shard_calls.proofs.Moves.{pending_may}
use Rattle.shard_calls.proofs.Pendings.{legal_then, stands_then, held_then, one_then, serves_then}
use Rattle.shard_calls.specs.declared.reply.Selected.{Selected}
use Rattle.shard_calls.specs.declared.reply.Answer.TheVariants.{Rows, Count}
use Rattle.shard_calls.specs.Answers.{WritesAlone, needed_by}
use Rattle.shard_calls.specs.Alone as over
use Rattle.shard_calls.specs.Transactions.{TransactionStatement, Transaction, needed_for}
use Rattle.shard_calls.specs.Pendings as stands
use Rattle.shard_calls.specs.Pendings.{OpenView, Represents, IsAnywhere}
use Rattle.route_engine.proofs.Going as g
use Rattle.route_engine.proofs.Over.{nowhere_over}
use Rattle.route_engine.proofs.SeatRows.{answers_kept_of, kept_nowhere}
use Rattle.route_engine.proofs.WholeWrites.{whole_changes}

-- a pass that has seen more, and no more commits of its session
pub stands_met : (o : Opening) (p q : PassView Entry) (v : Option OpenView) (t : Option Transaction) → IsPrefix p.seen q.seen → q.session ≡ p.session
    → ((n : ℕ) → p.session ≡ Some n → filter (by_session commit_of n) q.seen ≡ filter (by_session commit_of n) p.seen) → Represents o p v t → Represents o q v t
stands_met o p q _ _ more same own stands.closed = stands.closed
stands_met o p q _ _ more same own (stands.unbound {t} legal all none) = stands.unbound legal all none
stands_met o p q _ _ more same own (stands.bound {v} {t} is) = stands.bound (record {
  shard = is.shard;
  stands = is.stands;
  serves = is.serves;
  seats = is.seats;
  bound = is.bound;
  partition = is.partition;
  seated = is.seated;
  kept = is.kept;
  uses = is.uses;
  pending = is.pending;
  told = is.told;
  touches =
      subst (λ (i : Option ℕ). Rattle.std.specs.List.AllByRecursion (Rattle.shard_calls.specs.Pendings.IsTouchOf o is.shard i t.at t.steps) v.pending.touched) (sym same)
      is.touches;
  trailing = is.trailing;
  seen = prefix_trans t.at p.seen q.seen is.seen more;
  own = λ n mine. let m = sym same ∙ mine in own n m ∙ is.own n m;
})

module _ (o : Opening) (opens : IsOpening o) (formed : is_vschema o.schema ≡ true) where
  -- a query that needs no shard, over no rows
  pub reads_nowhere : (q : Query) (selected : Selected) (seen : Run) → SourcesThere (length o.schema.tables) q → JoinsInPlace o.schema q → (seats : List Seat)
      → IsPartition seats → needed_for o q seats ≡ [] → selected.table ≡ q.table → selected.join ≡ q.join → selected.items ≡ q.items → selected.qualified ≡ q.qualified → IsAnswer q [] selected.rows
      → IsAnywhere o (record { typed = typed.Select q; answer = Rows selected; on = None; seen = seen })
  reads_nowhere q selected seen there joins seats partition none table join items qualified answer = record {
    none = (seats, partition, none);
    on = refl;
    same = λ run legal.
        over.selects table join items qualified
        (answers_kept_of q [] (source_rows q (database o run)) selected.rows
        (kept_nowhere o opens run (legal_is o run legal) q there joins seats partition none) answer);
  }

  -- a write that needs no shard
  pub writes_nowhere : (w : Write) (seen : Run) → IsTypedWrite o.schema w → (seats : List Seat) → IsPartition seats → needed_by o w seats ≡ []
      → IsAnywhere o (record { typed = typed.Write w; answer = Count 0; on = None; seen = seen })
  writes_nowhere w seen is seats partition none = record {
    none = (seats, partition, none);
    on = refl;
    same = λ run legal. nowhere_over o opens formed run (legal_is o run legal) w is seats partition none;
  }

  pub names_anywhere : (seen : Run) → IsAnywhere o (record { typed = typed.SetNames; answer = Count 0; on = None; seen = seen })
  names_anywhere seen = record { none = tt; on = refl; same = λ run legal. over.sets_names }

  -- a primary key that is there already on the one shard is there in the one database
  pub duplicate_over : (s : ShardRecord) (run : Run) → IsOnItsSlot o run s → IsLegal (MayFollow o) run → mode o run s.slot ≡ Serving → (w : Write)
      → IsTypedWrite o.schema w → WritesAlone o w s → changes_of o.schema w (shard_rows o run s) ≡ Err DuplicateKey
      → changes_of o.schema w (database o run) ≡ Err DuplicateKey
  duplicate_over s run stands legal serves w is alone refused =
      let n = written_table w in
      let here : Database = restrict o.schema s.place (database o run) in
      let part : SameRows (shard_rows o run s) here = part_held o opens run s stands (ap answers_queries serves) legal in
      let same = same_changes (get_or o.schema.tables n no_table) w (rows_of (shard_rows o run s) n) (rows_of here n) (rows-same (shard_rows o run s) here part n) in
      sym (whole_changes o opens formed run (legal_is o run legal) w is s alone) ∙ same.refused refused

  -- and so it is with the transaction's own writes
  pub duplicate_in : (s : ShardRecord) (run : Run) (tx : PendingView) (steps : List TransactionStatement) → g.IsAt o s run tx steps → IsOnItsSlot o run s
      → mode o run s.slot ≡ Serving → (session number : ℕ) → NumbersBelow commit_of session number run → (w : Write)
      → IsTypedWrite o.schema w → WritesAlone o w s → changes_of o.schema w (all_applied tx.changes (shard_rows o run s)) ≡ Err DuplicateKey
      → changes_of o.schema w (all_applied tx.changes (database o run)) ≡ Err DuplicateKey
  duplicate_in s run tx steps at stands serves session number low w is alone refused =
      let may = pending_may o s opens run tx at.pending stands serves session number low in
      let e : Entry = entry_of s session number tx.writes tx.changes in
      let legal = at.pending.legal in
      let then = legal_then o opens s run stands legal serves session number low tx.writes tx.changes may in
      let slot_then = stands_then o opens s run stands legal serves session number low tx.writes tx.changes may in
      let held_is = held_then o opens s run stands legal serves session number low tx.writes tx.changes may in
      let one_is = one_then o opens s run stands legal serves session number low tx.writes tx.changes may in
      let serving = serves_then o opens s run stands legal serves session number low tx.writes tx.changes may in
      ap (changes_of o.schema w) (sym one_is)
      ∙ duplicate_over s (run ++ e ∷ []) slot_then then serving w is alone (ap (changes_of o.schema w) held_is ∙ refused)
