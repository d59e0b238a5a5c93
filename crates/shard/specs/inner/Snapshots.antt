-- What a read in a transaction has after its look, before it answers.
use Rattle.std.specs.Prelude.{◌≡◌, ◌≤◌, ◌^◌, true, List, length, ⊤}
use Rattle.vt_value.specs.Values.{Row}
use Rattle.vschema.specs.declared.schema.Query.{Query}
use Rattle.vschema.specs.declared.changes.RowChange.{RowChange}
use Rattle.vschema.specs.Checks.{is_aggregated}
use Rattle.vschema.specs.Database.{Database, SameRows, all_applied}
use Rattle.vschema.specs.Sources.{source_rows, SourcesThere}
use Rattle.shard_contents.specs.Groups.{CanBeSummed}
use Rattle.shard_contents.specs.Queries.{Allowed}
use Rattle.shard_run.specs.declared.ShardRecord.{ShardRecord}
use Rattle.shard_run.specs.declared.Entry.{Entry}
use Rattle.shard_run.specs.Runs.{Opening, shard_rows, entries_on, stored_on}
use Rattle.shard_contents.specs.Transactions.{PendingView, IsClear}
use Rattle.shard_contents.specs.Stores.{StoreView}
use Rattle.shard.specs.declared.snapshot.RowsIn.{RowsIn}
use Rattle.shard.specs.declared.snapshot.RowsIn.TheVariants.{Selected, ToSelect}
use Rattle.shard.specs.declared.snapshot.BegunReadIn.{BegunReadIn}

-- the rows, or what will be read of them, are what the query gives with the changes over rows that are, in any order, these
pub data HasRows (query : Query) (changes : List RowChange) (db : Database) : RowsIn → Type 0 where
  selected : {rows : List Row} → Allowed query (all_applied changes db) rows → HasRows query changes db (Selected rows)
  to_select : {store : StoreView} → SameRows store.rows db → HasRows query changes db (ToSelect store)

-- A read of the shard in a transaction has looked at it after the run, at which the transaction was clear, and there were so many entries and
-- stored ones on it.
pub record HasBegunIn (o : Opening) (s : ShardRecord) (tx : PendingView) (run : List Entry) (query : Query) (begun : BegunReadIn) : Type 0 where
  pub clear : IsClear o s run tx
  pub rows : HasRows query tx.changes (shard_rows o run s) begun.rows
  pub count : begun.entries ≡ length (entries_on s.slot run)
  pub stored : begun.stored ≡ length (stored_on s.slot run)

-- what is read of them
abbrev pub IsGivenBy : Query → List RowChange → RowsIn → List Row → Type 0
IsGivenBy query changes (Selected rows) given = given ≡ rows
IsGivenBy query changes (ToSelect store) given = Allowed query (all_applied changes store.rows) given

-- The rows with the changes can be looked at: the tables of the query are there, and counts and sums of what it is over fit.
pub record IsReadable (query : Query) (changes : List RowChange) (db : Database) : Type 0 where
  pub there : SourcesThere (length db) query
  pub few : length (source_rows query db) ≤ 2 ^ 60
  pub summed : is_aggregated query ≡ true → length (source_rows query (all_applied changes db)) ≤ 2 ^ 60 → CanBeSummed (source_rows query (all_applied changes db))

abbrev pub IsToRead : Query → List RowChange → RowsIn → Type 0
IsToRead query changes (Selected rows) = ⊤
IsToRead query changes (ToSelect store) = IsReadable query changes store.rows
