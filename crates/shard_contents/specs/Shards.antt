-- What is on a slot, which entry may come next, and what a shard's state says of them.
use Rattle.std.specs.Prelude.{◌≡◌, ℕ, ◌+◌, ◌≤◌, ◌^◌, true, false, IsTrue, List, length, Contains, Option, Some, None, slice_get, if◌then◌else◌}
use Rattle.std.specs.List.{filter}
use Rattle.vt_value.specs.Values.{Row}
use Rattle.vschema.specs.declared.schema.Query.{Query}
use Rattle.shard_store.specs.Queries.{Allowed}
use Rattle.shard_law.specs.Views.{SeatView}
use Rattle.shard_law.specs.ShardRecord.{ShardRecord}
use Rattle.shard_law.specs.Mode.{Mode}
use Rattle.shard_law.specs.Mode.TheVariants.{Following, Frozen, Retired, Dropped}
use Rattle.shard_law.specs.Event.TheVariants.{Retire}
use Rattle.shard_law.specs.Entry.{Entry}
use Rattle.shard_law.specs.ShardRunRuns.{Run, Opening, shard_rows, mode, answers_queries, stored_on, stored_changes, entries_on}
use Rattle.shard_law.specs.Openings.{IsOpening, row_count}
use Rattle.shard_law.specs.Follow as F
use Rattle.vschema.specs.Database.{SameRows, restricted_changes}
use Rattle.shard_law.specs.Legal.{IsOnItsSlot}
use Rattle.shard_law.specs.Copies.{position, change_is_copied}
use Rattle.shard_law.specs.declared.limits.Limits.{Limits}
use Rattle.shard_contents.specs.Kept.{kept_on}
use Rattle.shard_contents.specs.KeptEntries.{entries_kept}
use Rattle.shard_contents.specs.inner.StoredLogs.{StoredLog, HasStored}
use Rattle.shard_contents.specs.declared.contents.Contents.{Contents}
use Rattle.shard_contents.specs.declared.outcomes.Reading.{Reading}
use Rattle.shard_contents.specs.declared.outcomes.ReadOutcome.{ReadOutcome}
use Rattle.shard_contents.specs.declared.outcomes.ReadOutcome.TheVariants.{Rows, NotServing}
use Rattle.shard_law.specs.Entries.{ShardView}

-- from which of its stored entries on a shard has what they change, if somebody follows it
abbrev pub first_kept : StoredLog → Option ℕ
first_kept log = if log.is_followed then Some log.first else None

-- what contracts see of a shard's state
abbrev pub state_view : Run → Contents → ShardView
state_view seen c = record { seen = seen; shard = c.shard; kept_from = first_kept c.stored.log; tables = length c.store.rows }

-- entries beyond the limit of all kinds that a shard of this mode may have: the one by which it serves again or retires
abbrev pub beyond : Mode → ℕ
beyond Following = 0
beyond Frozen = 0
beyond _ = 1

-- Its rows, in any order, its mode, what it keeps of the entries that it has stored and of its steps with its sources are those that the run
-- leaves on it, and if it serves its rows are within the limits.
pub record Holds (o : Opening) (most : Limits) (run : Run) (c : Contents) : Type 0 where
  pub rows : SameRows c.store.rows (shard_rows o run c.shard)
  pub tables : length c.store.rows ≡ length o.schema.tables
  pub within : answers_queries (mode o run c.shard.slot) ≡ true → row_count c.store.rows ≤ most.rows
  pub mode : c.mode ≡ mode o run c.shard.slot
  pub stored : HasStored c.stored.log (entries_kept c.shard.slot run)
  pub steps : c.steps.items ≡ kept_on c.shard.slot run

-- Either that, or its rows are gone, which only a retired shard's may.
pub data Keeps (o : Opening) (most : Limits) (run : Run) (c : Contents) : Type 0 where
  holds : Holds o most run c → Keeps o most run c
  dropped : c.mode ≡ Dropped → mode o run c.shard.slot ≡ Retired → Keeps o most run c

-- What a shard's state keeps: an opening shard or a target, which stands on its slot alone in the run that its seat has seen; what it holds
-- is what that run leaves on it.
pub record IsAfter (o : Opening) (most : Limits) (seat : SeatView Entry) (c : Contents) : Type 0 where
  pub opens : IsOpening o
  pub slot : seat.slot ≡ c.shard.slot
  pub stands : IsOnItsSlot o seat.seen c.shard
  pub keeps : Keeps o most seat.seen c
  pub entries : length (entries_on c.shard.slot seat.seen) ≤ 2 ^ 40 + beyond (mode o seat.seen c.shard.slot)
  pub limits : c.limits ≡ most
  pub most_rows : most.rows ≤ 2 ^ 20

-- a retired shard keeps the targets that its entry names
abbrev pub RetiredFor : Opening → Run → ShardRecord → List ShardRecord → Type 0
RetiredFor o run s targets = mode o run s.slot ≡ Retired → Contains run (record { shard = s; event = Retire targets })

-- A shard was read after a run: it serves, the rows are some that the query may answer over those that the run leaves on it, of which
-- there are at most 2 ^ 20, and so many entries are on it.
pub record IsReadAt (o : Opening) (run : List Entry) (s : ShardRecord) (query : Query) (rows : List Row) (entries : ℕ) : Type 0 where
  pub serves : IsTrue (answers_queries (mode o run s.slot))
  pub few : row_count (shard_rows o run s) ≤ 2 ^ 20
  pub allowed : Allowed query (shard_rows o run s) rows
  pub count : entries ≡ length (entries_on s.slot run)

-- what a shard answers to a query after a run: it was read, or doesn't serve
pub data AnswersQuery (o : Opening) (run : List Entry) (s : ShardRecord) (query : Query) : ReadOutcome → Type 0 where
  read : {r : Reading} → IsReadAt o run s query r.rows r.entries → AnswersQuery o run s query (Rows r)
  not_serving : answers_queries (mode o run s.slot) ≡ false → AnswersQuery o run s query NotServing

-- The step takes over, of rows that are copied and lie in the shard's place, the entry of a source that is next for the shard, and which the run has.
pub record IsNext (o : Opening) (run : Run) (s : ShardView) (f : F.Follow) : Type 0 where
  pub of_source : Contains s.shard.sources f.source
  pub next : position s.seen s.shard.slot f.source ≡ Some f.log_position
  pub entry : Entry
  pub stored : slice_get (stored_on f.source run) f.log_position ≡ Some entry
  pub filtered :
      f.changes
      ≡ filter (change_is_copied o.schema s.seen s.shard.slot f.source) (restricted_changes o.schema s.shard.place (stored_changes entry.event))
