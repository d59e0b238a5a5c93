-- How an open transaction goes on: over a later run, by one more statement, and to its commit.
use Rattle.std.proofs.Common.{◌≡◌, ℕ, true, false, List, [], ◌∷◌, ◌++◌, length, get_or, flat_map, Option, Some, None, refl, sym, ap, subst, ◌∙◌}
use Rattle.std.specs.List.{AllByRecursion}
use Rattle.std.proofs.lemmas.List.{append-nil, append_assoc}
use Rattle.std.proofs.lemmas.Grind.{flat_map-append}
use mathlib.Core.List.{IsPrefix}
use Rattle.vt_value.specs.Values.{Row}
use Rattle.vschema.specs.declared.schema.Query.{Query}
use Rattle.vschema.specs.declared.schema.Typed.{Typed}
use Rattle.vschema.specs.declared.schema.Typed.TheVariants as typed
use Rattle.vschema.specs.declared.changes.Write.{Write}
use Rattle.vschema.specs.declared.changes.RowChange.{RowChange}
use Rattle.vschema.specs.Schema.{no_table}
use Rattle.vschema.specs.Database.{rows_of, all_applied}
use Rattle.vschema.specs.Sources.{source_tables, SourcesThere, JoinsInPlace}
use Rattle.vschema.specs.TypedWrites.{IsTypedWrite}
use Rattle.vschema.specs.WellFormed.{is_vschema}
use Rattle.shard_contents.specs.Queries.{IsAnswer, Allowed}
use Rattle.shard_contents.specs.Writes.{written_table, changes_over}
use Rattle.journal.specs.Runs.{IsLegal, NumbersBelow}
use Rattle.shard_contents.proofs.Lists.{all-append, all-weaker}
use Rattle.shard_run.specs.declared.Mode.TheVariants.{Serving}
use Rattle.shard_run.specs.declared.ShardRecord.{ShardRecord}
use Rattle.shard_run.specs.Runs.{Run, Opening, database, shard_rows, mode, stored_on}
use Rattle.shard_contents.specs.Legal.{IsOnItsSlot, IsChangeOf}
use Rattle.shard_run.specs.Openings.{IsOpening}
use Rattle.shard_contents.specs.declared.touched_table.Touch.{Touch}
use Rattle.shard_contents.specs.Entries.{MayFollow, commit_of}
use Rattle.shard_contents.specs.Transactions.{PendingView, nothing_done, is_conflict, is_touched, touched_with, touched_all, IsClear, IsTouchBy, IsPending}
use Rattle.shard_calls.proofs.Moves.{rows_after_stay, still_touched, now_touched, touch_of, now_touched_all, pending_later, pending_touches_all, pending_writes, pending_nothing}
use Rattle.shard_calls.specs.declared.reply.Selected.{Selected}
use Rattle.shard_calls.specs.declared.reply.Answer.TheVariants.{Rows, Count}
use Rattle.shard_calls.specs.Answers.{WritesAlone}
use Rattle.shard_calls.specs.Transactions.{TransactionStatement, GiveOver, ReadsAlone, if_any, used, write_on, writes_in, with_step}
use Rattle.shard_calls.specs.Pendings as p
use Rattle.shard_calls.specs.Pendings.{GaveOnShard, IsAnywhere}
use Rattle.route_engine.proofs.SeatRows.{sources_same}
use Rattle.route_engine.proofs.Told.{placed_on, lifted}

module _ (o : Opening) (s : ShardRecord) where
  -- over a later run, up to which no touched table was changed
  module _ (old new : Run) (later : IsPrefix old new) (legal : IsLegal (MayFollow o) new) (touched : List Touch) (touches : AllByRecursion (IsTouchBy o s old) touched)
      (clear : is_conflict (stored_on s.slot new) touched ≡ false) where
    pub told_later : (steps : List TransactionStatement) (writes : List Write) (changes : List RowChange) → GaveOnShard o s old touched steps writes changes
        → GaveOnShard o s new touched steps writes changes
    told_later _ _ _ p.none = p.none
    told_later _ writes changes (p.anywhere {steps} step told is) = p.anywhere step (told_later steps writes changes told) is
    told_later _ writes changes (p.read {steps} q selected seen told alone there joins on table join items qualified allowed) =
        p.read q selected seen (told_later steps writes changes told) alone there joins on table join items qualified
        (subst (λ (rows : List Row). IsAnswer q rows selected.rows)
        (sources_same q (all_applied changes (shard_rows o old s)) (all_applied changes (shard_rows o new s))
        (all-weaker (λ n. is_touched touched n ≡ true) (λ n. rows_of (all_applied changes (shard_rows o old s)) n ≡ rows_of (all_applied changes (shard_rows o new s)) n)
        (λ n h. sym (rows_after_stay o s old new later legal touched touches clear changes n h)) (source_tables q) on)) allowed)
    told_later _ _ _ (p.wrote {steps} {writes} {changes} w more seen told alone is on (exact, changed, all)) =
        p.wrote w more seen (told_later steps writes changes told) alone is on (
          exact,
          ap (changes_over (get_or o.schema.tables (written_table w) no_table) w)
              (rows_after_stay o s old new later legal touched touches clear changes (written_table w) on) ∙ changed,
          all,
        )

  -- with one more touch
  pub told_touches : (run : Run) (touched : List Touch) (t : Touch) (steps : List TransactionStatement) (writes : List Write) (changes : List RowChange)
      → GaveOnShard o s run touched steps writes changes → GaveOnShard o s run (touched_with touched t) steps writes changes
  told_touches run touched t _ _ _ p.none = p.none
  told_touches run touched t _ writes changes (p.anywhere {steps} step told is) = p.anywhere step (told_touches run touched t steps writes changes told) is
  told_touches run touched t _ writes changes (p.read {steps} q selected seen told alone there joins on table join items qualified allowed) =
      p.read q selected seen (told_touches run touched t steps writes changes told) alone there joins
      (all-weaker (λ n. is_touched touched n ≡ true) (λ n. is_touched (touched_with touched t) n ≡ true) (still_touched touched t) (source_tables q) on)
      table join items qualified allowed
  told_touches run touched t _ _ _ (p.wrote {steps} {writes} {changes} w more seen told alone is on changed) =
      p.wrote w more seen (told_touches run touched t steps writes changes told) alone is (still_touched touched t (written_table w) on) changed

  -- and with several
  pub told_touches_all : (run : Run) (touched : List Touch) (ns : List ℕ) (stored : ℕ) (steps : List TransactionStatement) (writes : List Write) (changes : List RowChange)
      → GaveOnShard o s run touched steps writes changes → GaveOnShard o s run (touched_all touched ns stored) steps writes changes
  told_touches_all run touched [] stored steps writes changes told = told
  told_touches_all run touched (n ∷ ns) stored steps writes changes told =
      told_touches_all run (touched_with touched (touch_of stored n)) ns stored steps writes changes
      (told_touches run touched (touch_of stored n) steps writes changes told)

  -- statements that need no shard
  told_from : (run : Run) (touched : List Touch) (front rest : List TransactionStatement) → GaveOnShard o s run touched front [] [] → AllByRecursion (IsAnywhere o) rest
      → GaveOnShard o s run touched (front ++ rest) [] []
  told_from run touched front [] told all = subst (λ l. GaveOnShard o s run touched l [] []) (sym (append-nil front)) told
  told_from run touched front (step ∷ rest) told all =
      subst (λ l. GaveOnShard o s run touched l [] []) (append_assoc front (step ∷ []) rest)
      (told_from run touched (front ++ step ∷ []) rest (p.anywhere step told all.0) all.1)

  pub told_anywhere : (run : Run) (touched : List Touch) (steps : List TransactionStatement) → AllByRecursion (IsAnywhere o) steps → GaveOnShard o s run touched steps [] []
  told_anywhere run touched steps all = told_from run touched [] steps p.none all

  -- the writes are those of the statements that used a shard
  one_more : {A : Type 0} (f : TransactionStatement → List A) (steps : List TransactionStatement) (step : TransactionStatement) (out more : List A) → flat_map f steps ≡ out → f step ≡ more
      → flat_map f (steps ++ step ∷ []) ≡ out ++ more
  one_more f steps step out more before e =
      flat_map-append f steps (step ∷ []) ∙ ap (λ l. l ++ (f step ++ [])) before ∙ ap (λ l. out ++ l) (append-nil (f step) ∙ e)

  no_write : (on : Option ShardRecord) (t : Typed) → on ≡ None → write_on on t ≡ []
  no_write None t is = refl
  no_write (Some u) t is = absurd (cc is)

  pub told_writes : (run : Run) (touched : List Touch) (steps : List TransactionStatement) (writes : List Write) (changes : List RowChange)
      → GaveOnShard o s run touched steps writes changes → writes_in steps ≡ writes
  told_writes run touched _ _ _ p.none = refl
  told_writes run touched _ writes changes (p.anywhere {steps} step told is) =
      one_more (λ x. write_on x.on x.typed) steps step writes [] (told_writes run touched steps writes changes told) (no_write step.on step.typed is.on)
      ∙ append-nil writes
  told_writes run touched _ writes changes (p.read {steps} q selected seen told alone there joins on table join items qualified allowed) =
      one_more (λ x. write_on x.on x.typed) steps (record { typed = typed.Select q; answer = Rows selected; on = Some s; seen = seen }) writes []
      (told_writes run touched steps writes changes told) refl ∙ append-nil writes
  told_writes run touched _ _ _ (p.wrote {steps} {writes} {changes} w more seen told alone is on changed) =
      one_more (λ x. write_on x.on x.typed) steps (record { typed = typed.Write w; answer = Count (length more); on = Some s; seen = seen }) writes (w ∷ [])
      (told_writes run touched steps writes changes told) refl

  -- they use this shard alone
  pub told_used : (run : Run) (touched : List Touch) (steps : List TransactionStatement) (writes : List Write) (changes : List RowChange)
      → GaveOnShard o s run touched steps writes changes → AllByRecursion (λ u. u ≡ s) (used steps)
  told_used run touched _ _ _ p.none = tt
  told_used run touched _ writes changes (p.anywhere {steps} step told is) =
      subst (AllByRecursion (λ u. u ≡ s)) (sym (one_more (λ x. if_any x.on) steps step (used steps) [] refl (ap if_any is.on) ∙ append-nil (used steps)))
      (told_used run touched steps writes changes told)
  told_used run touched _ writes changes (p.read {steps} q selected seen told alone there joins on table join items qualified allowed) =
      subst (AllByRecursion (λ u. u ≡ s))
      (sym (one_more (λ x. if_any x.on) steps (record { typed = typed.Select q; answer = Rows selected; on = Some s; seen = seen }) (used steps) (s ∷ []) refl refl))
      (all-append (λ u. u ≡ s) (used steps) (s ∷ []) (told_used run touched steps writes changes told) (refl, tt))
  told_used run touched _ _ _ (p.wrote {steps} {writes} {changes} w more seen told alone is on changed) =
      subst (AllByRecursion (λ u. u ≡ s))
      (sym (one_more (λ x. if_any x.on) steps (record { typed = typed.Write w; answer = Count (length more); on = Some s; seen = seen }) (used steps) (s ∷ []) refl refl))
      (all-append (λ u. u ≡ s) (used steps) (s ∷ []) (told_used run touched steps writes changes told) (refl, tt))

  -- A transaction as it is after a run on its shard.
  pub record IsAt (run : Run) (tx : PendingView) (steps : List TransactionStatement) : Type 0 where
    pub pending : IsPending o s run tx
    pub told : GaveOnShard o s run tx.touched steps tx.writes tx.changes

  -- one that has used no shard may use this one
  pub at_first : (run : Run) (steps : List TransactionStatement) → IsLegal (MayFollow o) run → AllByRecursion (IsAnywhere o) steps → IsAt run nothing_done steps
  at_first run steps legal all = record { pending = pending_nothing o s run legal; told = told_anywhere run [] steps all }

  -- it goes on to a later run
  pub at_later : (old new : Run) (tx : PendingView) (steps : List TransactionStatement) → IsAt old tx steps → IsPrefix old new → IsLegal (MayFollow o) new
      → IsClear o s new tx → IsAt new tx steps
  at_later old new tx steps at later legal clear = record {
    pending = pending_later o s old new tx at.pending later legal clear;
    told = told_later old new later legal tx.touched at.pending.touches clear.unchanged steps tx.writes tx.changes at.told;
  }

  -- a statement that needs no shard
  pub at_anywhere : (run : Run) (tx : PendingView) (steps : List TransactionStatement) (step : TransactionStatement) → IsAt run tx steps → IsAnywhere o step
      → IsAt run tx (steps ++ step ∷ [])
  at_anywhere run tx steps step at is = record { pending = at.pending; told = p.anywhere step at.told is }

  -- a query
  pub at_reads : (run : Run) (tx : PendingView) (steps : List TransactionStatement) (stored : ℕ) (q : Query) (selected : Selected) → IsAt run tx steps
      → AllByRecursion (λ n. IsTouchBy o s run (touch_of stored n)) (source_tables q) → ReadsAlone o q s → SourcesThere (length o.schema.tables) q
      → JoinsInPlace o.schema q → selected.table ≡ q.table → selected.join ≡ q.join → selected.items ≡ q.items → selected.qualified ≡ q.qualified
      → Allowed q (all_applied tx.changes (shard_rows o run s)) selected.rows
      → IsAt run (record tx { touched = touched_all tx.touched (source_tables q) stored }) (with_step steps (typed.Select q) (Rows selected) (Some s) run)
  at_reads run tx steps stored q selected at touch alone there joins table join items qualified allowed = record {
    pending = pending_touches_all o s run tx (source_tables q) stored at.pending touch;
    told =
        p.read q selected run (told_touches_all run tx.touched (source_tables q) stored steps tx.writes tx.changes at.told) alone there joins
        (now_touched_all tx.touched (source_tables q) stored) table join items qualified allowed;
  }

  -- a write
  pub at_writes : (run : Run) (tx : PendingView) (steps : List TransactionStatement) (t : Touch) (w : Write) (more : List RowChange) → IsAt run tx steps
      → t.table ≡ written_table w → IsTouchBy o s run t → WritesAlone o w s → IsTypedWrite o.schema w
      → IsChangeOf o.schema w (all_applied tx.changes (shard_rows o run s)) more
      → IsAt run (record { touched = touched_with tx.touched t; writes = tx.writes ++ w ∷ []; changes = tx.changes ++ more })
      (with_step steps (typed.Write w) (Count (length more)) (Some s) run)
  at_writes run tx steps t w more at of touch alone is changed = record {
    pending = pending_writes o s run tx t w more at.pending of touch is (placed_on o w is s alone) changed;
    told =
        p.wrote w more run (told_touches run tx.touched t steps tx.writes tx.changes at.told) alone is
        (subst (λ n. is_touched (touched_with tx.touched t) n ≡ true) of (now_touched tx.touched t)) changed;
  }

  -- All its statements gave what they mean over the one database as the run leaves it, and lead to that with its changes.
  pub at_over : IsOpening o → is_vschema o.schema ≡ true → (run : Run) (tx : PendingView) (steps : List TransactionStatement) → IsAt run tx steps → IsOnItsSlot o run s
      → mode o run s.slot ≡ Serving → (session number : ℕ) → NumbersBelow commit_of session number run
      → GiveOver o.schema (database o run) steps (all_applied tx.changes (database o run))
  at_over opens formed run tx steps at stands serves session number low =
      (lifted o opens formed s run stands at.pending.legal serves session number low tx.touched steps tx.writes tx.changes at.told).over
