-- Statements of the tests over the small shard.
use Rattle.std.specs.Prelude.{◌≡◌, ℕ, [], ◌∷◌, pos, None, Some}
use Rattle.vt_value.specs.declared.value.Value.TheVariants.{Null, Int}
use Rattle.vschema.specs.declared.changes.Write.{Write}
use Rattle.vschema.specs.declared.changes.Write.TheVariants.{Insert, Update, Delete}
use Rattle.serving.specs.Partitions.{Seat}
use Rattle.shard_run.specs.declared.ShardRecord.{ShardRecord}
use Rattle.shard_run.specs.declared.Entry.{Entry}
use Rattle.journal.specs.Runs.{NumbersBelow}
use Rattle.journal.specs.Views.{PassView}
use Rattle.shard_contents.specs.Entries.{commit_of}
use Rattle.shard_contents.specs.Transactions.{PendingView, IsPendingOf}
use Rattle.test_engine.specs.shard_limits.SmallWorld.{small_shard, small_opening}

-- where it stands
abbrev pub small_seat : Seat
small_seat = (0, small_shard.place.range, 0)

-- INSERT INTO t VALUES (id, NULL)
abbrev pub insert_of : ℕ → Write
insert_of id = Insert 0 ((Int (pos id) ∷ Null ∷ []) ∷ [])

-- UPDATE t SET c = 7
abbrev pub update_all : Write
update_all = Update 0 (record { column = 1; value = Int (pos 7) } ∷ []) None

-- DELETE FROM t
abbrev pub delete_all : Write
delete_all = Delete 0 None

-- what is kept of a transaction is one of the pass's session on the small shard
abbrev pub IsHere : PendingView → PassView Entry → Type 0
IsHere tx p = (s : ShardRecord) → s.slot ≡ 0 → s.place ≡ small_shard.place → IsPendingOf small_opening s tx p

-- the statement of the pass's session is above those of all commits of the session that the pass has seen
abbrev pub IsNumbered : PassView Entry → Type 0
IsNumbered p = (n : ℕ) → p.session ≡ Some n → NumbersBelow commit_of n p.statements p.seen
