-- What a read answers once its shard's lock is given back is what the shard answers at its look.
use Rattle.std.proofs.Common.{◌≡◌, ◌∙◌, ℕ, List, ap, sym, subst}
use Rattle.vt_value.specs.Values.{Row}
use Rattle.vschema.specs.declared.schema.Query.{Query}
use Rattle.vschema.specs.declared.changes.RowChange.{RowChange}
use Rattle.vschema.specs.Database.{Database, SameRows, all_applied}
use Rattle.vschema.specs.Sources.{source_tables}
use Rattle.shard_contents.specs.Queries.{Allowed}
use Rattle.shard_contents.proofs.SameAnswers.{same_allowed}
use Rattle.shard_run.specs.declared.ShardRecord.{ShardRecord}
use Rattle.shard_run.specs.declared.Entry.{Entry}
use Rattle.shard_run.specs.Runs.{Opening, shard_rows}
use Rattle.shard_contents.specs.declared.outcomes.Reading.{Reading}
use Rattle.shard_contents.specs.declared.outcomes.ReadOutcome.{ReadOutcome}
use Rattle.shard_contents.specs.declared.outcomes.ReadOutcome.TheVariants.{Rows}
use Rattle.shard_contents.specs.Shards.{AnswersQuery, read}
use Rattle.shard_contents.specs.Transactions.{PendingView, HasReadIn, touched_all}
use Rattle.shard_contents.proofs.Bags.{same_through, all_applied-same}
use Rattle.shard.specs.Snapshots.{SnapshotView}
use Rattle.shard.specs.BegunReads.{HasBegunRead, answered, begun}
use Rattle.shard.specs.declared.snapshot.BegunRead.TheVariants.{Answered, Begun}
use Rattle.shard.specs.declared.snapshot.RowsIn.{RowsIn}
use Rattle.shard.specs.declared.snapshot.RowsIn.TheVariants.{Selected, ToSelect}
use Rattle.shard.specs.declared.snapshot.BegunReadIn.{BegunReadIn}
use Rattle.shard.specs.inner.Snapshots.{HasRows, selected, to_select, HasBegunIn, IsGivenBy}

module _ (o : Opening) (run : List Entry) (s : ShardRecord) (query : Query) where
  pub answered_so : (outcome : ReadOutcome) → HasBegunRead o run s query (Answered outcome) → AnswersQuery o run s query outcome
  answered_so outcome (answered is) = is

  pub selected_so : (taken : SnapshotView) (r : Reading) → Allowed query taken.rows r.rows → r.entries ≡ taken.entries
      → HasBegunRead o run s query (Begun taken) → AnswersQuery o run s query (Rows r)
  selected_so taken r allowed count (begun is) = read (record {
    serves = is.serves;
    few = is.few;
    allowed = same_allowed query taken.rows (shard_rows o run s) r.rows is.rows allowed;
    count = count ∙ is.count;
  })

-- ---- in a transaction

-- over rows that are the same in another order
pub has_rows_of : (query : Query) (changes : List RowChange) (a b : Database) → SameRows a b → (r : RowsIn) → HasRows query changes a r → HasRows query changes b r
has_rows_of query changes a b same (Selected rows) (selected allowed) =
    selected (same_allowed query (all_applied changes a) (all_applied changes b) rows (all_applied-same changes a b same) allowed)
has_rows_of query changes a b same (ToSelect store) (to_select is) = to_select (same_through store.rows a b is same)

given_so : (query : Query) (changes : List RowChange) (db : Database) (r : RowsIn) (given : List Row) → IsGivenBy query changes r given → HasRows query changes db r
    → Allowed query (all_applied changes db) given
given_so query changes db (Selected rows) given is (selected allowed) = subst (Allowed query (all_applied changes db)) (sym is) allowed
given_so query changes db (ToSelect store) given is (to_select same) =
    same_allowed query (all_applied changes store.rows) (all_applied changes db) given (all_applied-same changes store.rows db same) is

pub read_in_so : (o : Opening) (run : List Entry) (s : ShardRecord) (tx now : PendingView) (query : Query) (b : BegunReadIn) (rows : List Row) (entries : ℕ)
    → IsGivenBy query tx.changes b.rows rows → entries ≡ b.entries → now ≡ record tx { touched = touched_all tx.touched (source_tables query) b.stored }
    → HasBegunIn o s tx run query b → HasReadIn o s tx run query rows entries now
read_in_so o run s tx now query b rows entries is count touch has = record {
  clear = has.clear;
  allowed = given_so query tx.changes (shard_rows o run s) b.rows rows is has.rows;
  count = count ∙ has.count;
  touch = touch ∙ ap (λ (k : ℕ). record tx { touched = touched_all tx.touched (source_tables query) k }) has.stored;
}
