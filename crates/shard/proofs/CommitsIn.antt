-- A transaction's commit: its entry is lawful, has room where the counts say so, and is refused for its written causes.
use Rattle.std.proofs.Common.{◌≡◌, ℕ, ◌<◌, true, List, length, sym, ap, ◌∙◌, arith}
use Rattle.std.specs.List.{AllByRecursion}
use mathlib.Core.List.{IsPrefix}
use Rattle.vt_value.specs.declared.refusal.Refusal.{Refusal}
use Rattle.vschema.specs.Database.{changed_table}
use Rattle.vschema.specs.TypedWrites.{IsTypedWrite}
use Rattle.shard_contents.specs.Writes.{written_table}
use Rattle.journal.specs.Runs.{IsLegal, NumbersBelow}
use Rattle.journal.specs.Views.{SeatView, PassView}
use Rattle.journal.proofs.Fronts.{prefix_trans}
use Rattle.shard_run.specs.declared.ShardRecord.{ShardRecord}
use Rattle.shard_run.specs.declared.Entry.{Entry}
use Rattle.shard_run.specs.Runs.{Run, Opening, shard_rows, entries_on, stored_on}
use Rattle.shard_run.specs.Openings.{row_count}
use Rattle.shard_contents.proofs.Lists.{all-weaker}
use Rattle.shard_contents.proofs.Typed.{table_there}
use Rattle.shard_contents.specs.Limits.{Limits}
use Rattle.shard_contents.specs.declared.contents.Contents.{Contents}
use Rattle.shard_contents.specs.Entries.{MayFollow, commit_of}
use Rattle.shard_contents.specs.Shards.{IsAfter}
use Rattle.shard_contents.specs.Commits.{HasRoom}
use Rattle.shard_contents.specs.Transactions.{PendingView, IsClear, is_conflict, IsPending, IsPendingOf, entry_of, IsCommitAllRefusal}
use Rattle.shard_contents.specs.inner.Transactions.{has_room_for, IsAllUnprepared}
use Rattle.shard_contents.specs.inner.Transactions as t
use Rattle.shard_contents.specs.Transactions as refusals
use Rattle.shard_contents.proofs.Bags.{length-same}
use Rattle.shard_contents.proofs.Commits as commits
use Rattle.shard.proofs.Moves.{pending_later, pending_may}
use Rattle.shard_contents.specs.inner.StoredLogs.{count_of}
use Rattle.shard_contents.proofs.States.{stored-same}
use Rattle.shard_contents.proofs.Tables.{all_there}
use Rattle.shard.proofs.Totals.{room_for, no_room_for}

module _ (o : Opening) (most : Limits) (seat : SeatView Entry) (c : Contents) (is : IsAfter o most seat c) (p : PassView Entry) (tx : PendingView)
    (clear : IsClear o c.shard seat.seen tx) (tied : IsPendingOf o c.shard tx p) (prior : IsPrefix p.seen seat.seen) where
  abbrev s : ShardRecord
  s = c.shard

  -- a run that has no more entries on the slot
  module _ (run : Run) (legal : IsLegal (MayFollow o) run) (before : IsPrefix seat.seen run) (alone : entries_on seat.slot run ≡ entries_on seat.slot seat.seen) where
    here : entries_on s.slot run ≡ entries_on s.slot seat.seen
    here = commits.here o most seat c is clear.serving run legal alone

    pub clear_here : IsClear o s run tx
    clear_here = record {
      serving = commits.serves o most seat c is clear.serving run legal alone;
      unchanged = ap (λ (l : List Entry). is_conflict l tx.touched) (stored-same o seat.seen run s here) ∙ clear.unchanged;
    }

    pub pending_here : IsPending o s run tx
    pending_here =
        pending_later o s tied.0 run tx tied.2
        (prefix_trans tied.0 p.seen run tied.1 (prefix_trans p.seen seat.seen run prior before)) legal clear_here

    pub lawful : (session number : ℕ) → NumbersBelow commit_of session number run → MayFollow o run (entry_of s session number tx.writes tx.changes)
    lawful session number low =
        pending_may o s is.opens run tx pending_here (commits.stands o most seat c is clear.serving run legal alone) clear_here.serving session number low

    tables_held : length (shard_rows o run s) ≡ length o.schema.tables
    tables_held =
        sym (length-same c.store.rows (shard_rows o run s) (commits.rows o most seat c is clear.serving run legal alone))
        ∙ (commits.has o most seat c is clear.serving).tables

    -- its writes are on tables of the shard
    written_there : AllByRecursion (λ w. written_table w < length (shard_rows o run s)) tx.writes
    written_there =
        all-weaker (IsTypedWrite o.schema) (λ w. written_table w < length (shard_rows o run s))
        (λ w h. let a = table_there o.schema w h in let k = tables_held in omega (arith, a, k)) tx.writes pending_here.typed

    pub changes_there : AllByRecursion (λ c. changed_table c < length o.schema.tables) tx.changes
    changes_there = all_there o.schema tx.writes (shard_rows o run s) tx.changes pending_here.typed pending_here.made

    tested : (entries stored' : ℕ) → entries ≡ length (entries_on s.slot seat.seen) → stored' ≡ count_of c.stored.log
        → has_room_for c.limits entries stored' (row_count c.store.rows) tx.changes
        ≡ has_room_for most (length (entries_on s.slot run)) (length (stored_on s.slot run)) (row_count (shard_rows o run s)) tx.changes
    tested entries stored' es ss =
        ap (λ (l : Limits). has_room_for l entries stored' (row_count c.store.rows) tx.changes) is.limits
        ∙ ap (λ (n : ℕ). has_room_for most n stored' (row_count c.store.rows) tx.changes) (es ∙ ap length (sym here))
        ∙ ap (λ (n : ℕ). has_room_for most (length (entries_on s.slot run)) n (row_count c.store.rows) tx.changes)
        (ss ∙ commits.count_here o most seat c is clear.serving run legal alone)
        ∙ ap (λ (n : ℕ). has_room_for most (length (entries_on s.slot run)) (length (stored_on s.slot run)) n tx.changes)
        (commits.counted o most seat c is clear.serving run legal alone)

    pub has_room : (entries stored' : ℕ) → entries ≡ length (entries_on s.slot seat.seen) → stored' ≡ count_of c.stored.log
        → has_room_for c.limits entries stored' (row_count c.store.rows) tx.changes ≡ true → HasRoom o most s run tx.changes
    has_room entries stored' es ss h =
        room_for o.schema most o s run tx.writes tx.changes pending_here.made written_there (sym (tested entries stored' es ss) ∙ h)

    pub refused : (entries stored' : ℕ) (e : Refusal) → entries ≡ length (entries_on s.slot seat.seen) → stored' ≡ count_of c.stored.log
        → IsAllUnprepared c.limits entries stored' (row_count c.store.rows) tx.changes e → IsCommitAllRefusal o most s run tx e
    refused entries stored' _ es ss (t.no_memory) = refusals.no_memory
    refused entries stored' _ es ss (t.full h) =
        refusals.full clear_here
        (no_room_for o.schema most o s run tx.writes tx.changes pending_here.made written_there (sym (tested entries stored' es ss) ∙ h))
