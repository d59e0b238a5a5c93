-- What a target takes over of a source: how far it has come with it, and what the source has for it then.
use Rattle.std.specs.Prelude.{◌≡◌, ◌⊎◌, ℕ, ◌<◌, ◌≤◌, ◌^◌, Bool, false, not, ◌&&◌, IsTrue, List, [], ◌∷◌, ◌++◌, length, filter, take, AllPairs, Contains, IsPermutation, MatchOption, Option, Some, None, slice_get}
use Rattle.vt_value.specs.Values.{Row}
use Rattle.vschema.specs.declared.schema.Table.{Table}
use Rattle.vschema.specs.declared.schema.Place.{Place}
use Rattle.vschema.specs.Schema.{key_of}
use Rattle.vschema.specs.Database.{Database, rows_of, lies_in, restricted_changes}
use Rattle.vschema.specs.Ranges.{is_before}
use Rattle.shard_law.specs.ShardRecord.{ShardRecord}
use Rattle.shard_law.specs.Entry.{Entry}
use Rattle.shard_law.specs.Follow as F
use Rattle.shard_law.specs.Copied.{Copied}
use Rattle.shard_law.specs.Event.{Event}
use Rattle.shard_law.specs.Event.TheVariants.{Follow}
use Rattle.shard_law.specs.Mode.TheVariants.{Following}
use Rattle.shard_law.specs.ShardRunRuns.{Run, Opening, IsShardOf, shard_rows, mode, answers_queries, entries_on, stored_on, stored_changes}
use Rattle.shard_law.specs.Openings.{row_count}
use Rattle.shard_law.specs.Copies.{position, is_key_before, table_at, step, has_copied_all, is_copied}
use Rattle.shard_law.specs.Legal.{Had, IsTableOf, is_left}
use Rattle.shard_law.specs.declared.limits.Limits.{Limits}
use Rattle.shard_law.specs.Entries.{ShardView}
use Rattle.shard_contents.specs.declared.copying.SourceProgress.{SourceProgress}

-- a row is reached if it isn't beyond the last row that was copied; before any was, none is
abbrev pub is_reached : Table → Option Row → Row → Bool
is_reached t None row = false
is_reached t (Some last) row = not (is_key_before (key_of t last) (key_of t row))

-- a row lies in the place and isn't reached
abbrev pub is_left_to_copy : Place → Table → Option Row → Row → Bool
is_left_to_copy place t after row = lies_in place t row && not (is_reached t after row)

-- one row's key is before the other's
abbrev pub IsBefore : Table → Row → Row → Type 0
IsBefore t a b = IsTrue (is_key_before (key_of t a) (key_of t b))

-- the target has copied each table of its keyspace from the source
abbrev pub HasCopiedAll : Opening → Run → ShardRecord → ℕ → Type 0
HasCopiedAll o run target source =
    (n : ℕ) → IsTableOf o.schema target.place.keyspace n → IsTrue (has_copied_all run target.slot source n)

-- the first table of the target's keyspace, by name, that it hasn't wholly copied from the source
pub record IsNextTable (o : Opening) (run : Run) (target : ShardRecord) (source n : ℕ) : Type 0 where
  pub table : IsTableOf o.schema target.place.keyspace n
  pub unfinished : has_copied_all run target.slot source n ≡ false
  pub first : (m : ℕ) → IsTableOf o.schema target.place.keyspace m
      → IsTrue (is_before (table_at o.schema m).name (table_at o.schema n).name)
      → IsTrue (has_copied_all run target.slot source m)

-- After the run the target follows, and has come so far with a source: it stands after so many of the source's stored entries, and copies
-- on with this table after this row of it, if it has not copied all.
pub record IsProgress (o : Opening) (run : Run) (target : ShardRecord) (source : ℕ) (p : SourceProgress) : Type 0 where
  pub following : mode o run target.slot ≡ Following
  pub stands_after : p.stands_after ≡ position run target.slot source
  pub next : MatchOption p.next (HasCopiedAll o run target source)
      (λ n. IsNextTable o run target source n.table
      × ((row : Row) → is_copied o.schema run target.slot source n.table row ≡ is_reached (table_at o.schema n.table) n.after row))

-- what the entry that a source has stored at a position changes in a target's place
pub record IsEntryFor (o : Opening) (run : Run) (source : ℕ) (place : Place) (f : F.Follow) : Type 0 where
  pub of_source : f.source ≡ source
  pub entry : Entry
  pub stored : slice_get (stored_on source run) f.log_position ≡ Some entry
  pub changes : f.changes ≡ restricted_changes o.schema place (stored_changes entry.event)

-- the first rows, by key, of those of a table that a source which serves has beyond the reached ones in a target's place, after what it has
-- stored
pub record IsCopyFor (o : Opening) (run : Run) (source : ShardRecord) (into : Place) (after : Option Row) (c : Copied) : Type 0 where
  pub of_source : c.source ≡ source.slot
  pub of_run : IsShardOf o run source
  pub serves : IsTrue (answers_queries (mode o run source.slot))
  pub place : c.log_position ≡ length (stored_on source.slot run)
  pub arranged : List Row
  pub all : IsPermutation (filter (is_left_to_copy into (table_at o.schema c.table) after) (rows_of (shard_rows o run source) c.table)) arranged
  pub in_order : AllPairs (IsBefore (table_at o.schema c.table)) arranged
  pub rows : c.rows ≡ take step arranged

-- The step, a Copy or a Follow of a target, passes a limit of it: the target has as many entries as a shard may have; it stores as many as it
-- may, and a Follow is stored; or with the step it has more rows than it may.
pub data PassesLimit (o : Opening) (most : Limits) (run : Run) (s : ShardRecord) : Event → Type 0 where
  entries : {step : Event} → 2 ^ 40 ≤ length (entries_on s.slot run) → PassesLimit o most run s step
  stored : {f : F.Follow} → most.stored ≤ length (stored_on s.slot run) → PassesLimit o most run s (Follow f)
  rows : {step : Event} → most.rows < row_count (shard_rows o (run ++ record { shard = s; event = step } ∷ []) s) → PassesLimit o most run s step

-- The Copy is next for the shard: of the first table that it hasn't wholly copied, at its position in the source, and of the first rows by
-- key that aren't copied of those that the source had then.
pub record IsNextCopy (o : Opening) (run : Run) (s : ShardView) (c : Copied) : Type 0 where
  pub of_source : Contains s.shard.sources c.source
  pub next : IsNextTable o s.seen s.shard c.source c.table
  pub place : (position s.seen s.shard.slot c.source ≡ None) ⊎ (position s.seen s.shard.slot c.source ≡ Some c.log_position)
  pub db : Database
  pub had : Had o run c.source c.log_position db
  pub arranged : List Row
  pub all : IsPermutation (filter (is_left o s.seen s.shard c.source c.table) (rows_of db c.table)) arranged
  pub in_order : AllPairs (IsBefore (table_at o.schema c.table)) arranged
  pub rows : c.rows ≡ take step arranged
