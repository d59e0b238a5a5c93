-- What a shard keeps of an entry that it has stored: what it changes. Shards tells how many of them it still has.
use Rattle.std.specs.Prelude.{ℕ, List, map}
use Rattle.vschema.specs.declared.changes.RowChange.{RowChange}
use Rattle.shard_law.specs.Entry.{Entry}
use Rattle.shard_law.specs.ShardRunRuns.{Run, stored_changes, stored_on}

abbrev pub kept_of : Entry → List RowChange
kept_of e = stored_changes e.event

-- what is kept of the entries that a run has stored on a slot
abbrev pub entries_kept : ℕ → Run → List (List RowChange)
entries_kept slot run = map kept_of (stored_on slot run)
