-- What a shard is asked, what it gave, and what the gathered readings are.
use Rattle.std.specs.Prelude.{◌≡◌, ℕ, ◌+◌, List, [], ◌∷◌, map, flat_map, Bool, true, false, Contains, IfOk, Result, Ok, Err, None, All, IsSorted}
use Rattle.std.specs.List.{AllByRecursion, AllZip}
use mathlib.Core.List.{IsPrefix}
use Rattle.std.specs.declared.alloc.AllocError.{AllocError}
use Rattle.vt_value.specs.Values.{Row}
use Rattle.planner.specs.Orders.{row_cmp}
use Rattle.vschema.specs.declared.schema.Table.{Table}
use Rattle.vschema.specs.declared.schema.Query.{Query}
use Rattle.planner.specs.declared.plans.Plan.{Plan}
use Rattle.planner.specs.Plans.{piece_of, CanJoin, Finishes}
use Rattle.journal.specs.Views.{PassView, new_pass}
use Rattle.shard.specs.ShardRecord.{ShardRecord}
use Rattle.shard.specs.Entry.{Entry}
use Rattle.shard.specs.Runs.{Opening}
use Rattle.shard.specs.ReadOutcome.{ReadOutcome}
use Rattle.shard.specs.ReadOutcome.TheVariants.{Rows, NotServing}
use Rattle.shard.specs.Legal.{IsOnItsSlot}
use Rattle.vschema.specs.declared.schema.Place.{Place}
use Rattle.serving.specs.Partitions.{Seat, IsPartition}
use Rattle.shard.specs.Entries.{HasLooked}
use Rattle.shard.specs.Shards.{AnswersQuery}
use Rattle.shard.specs.BegunReads.{HasBegunRead}
use Rattle.shard.specs.declared.snapshot.BegunRead.{BegunRead}
use Rattle.shard_calls.specs.declared.reply.ShardRead.{ShardRead}
use Rattle.shard_calls.specs.declared.reply.Tried.{Tried}
use Rattle.shard_calls.specs.declared.reply.Tried.TheVariants.{Done, Again}
use Rattle.vschema.specs.declared.changes.Write.{Write}
use Rattle.shard.specs.Writes.{written_table}
use Rattle.planner.specs.Routes.{table_at, write_route}
use Rattle.shard.specs.Limits.{Limits}
use Rattle.shard.specs.CommitOutcome.{CommitOutcome}
use Rattle.shard.specs.CommitOutcome.TheVariants as c
use Rattle.shard_calls.specs.declared.reply.Answer.TheVariants.{Count}
use Rattle.shard_calls.specs.Answers.{needed, HasGoneOn, HasGone, HasServed, HasWritten, IsHeldUp, is_writable}

-- a shard's slot and place, the query that it is asked, and the pass by which it is read
pub record ShardRequest : Type 0 where
  pub slot : ℕ
  pub place : Place
  pub query : Query
  pub pass : PassView Entry

-- its slot, the pass once it was read, and what it gave
pub record ShardReply : Type 0 where
  pub slot : ℕ
  pub pass : PassView Entry
  pub outcome : Result ReadOutcome AllocError

-- each shard that the plan needs is asked its piece, by a pass that has seen the run
abbrev pub asked : Table → Plan → List Entry → Seat → ShardRequest
asked t p before seat = record {
  slot = seat.0;
  place = record { keyspace = t.keyspace; range = seat.1 };
  query = piece_of t p seat.1;
  pass = new_pass before None;
}

-- numbers one after the other, from this one on
abbrev pub AreConsecutive : ℕ → List ℕ → Type 0
AreConsecutive n [] = Unit {0}
AreConsecutive n (x ∷ xs) = (x ≡ n) × AreConsecutive (n + 1) xs

abbrev pub all_asked : Table → Plan → List Entry → List Seat → List ShardRequest
all_asked t p before seats = map (asked t p before) (needed t p.route seats)

-- the shard of this slot and place was read at one look, unless a growth was refused
pub record IsReadingOf (o : Opening) (a : ShardRequest) (g : ShardReply) : Type 0 where
  pub slot : g.slot ≡ a.slot
  pub shard : ShardRecord
  pub stands : IsOnItsSlot o g.pass.seen shard
  pub served : HasServed o g.pass.seen shard
  pub on_slot : shard.slot ≡ a.slot
  pub in_place : shard.place ≡ a.place
  pub looked : HasLooked o a.slot a.pass g.pass
  pub read : IfOk g.outcome (AnswersQuery o g.pass.seen shard a.query)

-- the shard's slot, the query that it is asked, the pass by which it was looked at, and what the look left to read
pub record ShardLook : Type 0 where
  pub slot : ℕ
  pub query : Query
  pub pass : PassView Entry
  pub begun : Result BegunRead AllocError

-- the shard of this slot and place was looked at once, and what is left to read is of its rows as of that look, unless a growth was refused
pub record IsLookFor (o : Opening) (a : ShardRequest) (l : ShardLook) : Type 0 where
  pub slot : l.slot ≡ a.slot
  pub query : l.query ≡ a.query
  pub shard : ShardRecord
  pub stands : IsOnItsSlot o l.pass.seen shard
  pub served : HasServed o l.pass.seen shard
  pub on_slot : shard.slot ≡ a.slot
  pub in_place : shard.place ≡ a.place
  pub looked : HasLooked o a.slot a.pass l.pass
  pub begun : IfOk l.begun (HasBegunRead o l.pass.seen shard a.query)

-- whatever was asked by the look, this is its reading
abbrev pub IsFinishOf : Opening → ShardLook → ShardReply → Type 0
IsFinishOf o l g = (a : ShardRequest) → IsLookFor o a l → IsReadingOf o a g

abbrev pub rows_of_read : ReadOutcome → List Row
rows_of_read (Rows r) = r.rows
rows_of_read NotServing = []

abbrev pub entries_of_read : ReadOutcome → ℕ
entries_of_read (Rows r) = r.entries
entries_of_read NotServing = 0

abbrev pub has_rows : ReadOutcome → Bool
has_rows (Rows r) = true
has_rows NotServing = false

abbrev pub outcome_rows : Result ReadOutcome AllocError → List Row
outcome_rows (Ok r) = rows_of_read r
outcome_rows (Err e) = []

abbrev pub entries_in : Result ReadOutcome AllocError → ℕ
entries_in (Ok r) = entries_of_read r
entries_in (Err e) = 0

abbrev pub is_read : Result ReadOutcome AllocError → Bool
is_read (Ok r) = has_rows r
is_read (Err e) = false

-- the rows that a shard gave, and what the reply tells of it
abbrev pub given_rows : ShardReply → List Row
given_rows g = outcome_rows g.outcome

abbrev pub given_read : ShardReply → ShardRead
given_read g = record { slot = g.slot; entries = entries_in g.outcome }

abbrev pub given_looks : ShardReply → List (ℕ × ℕ)
given_looks g = g.pass.looks

-- The pass has seen what the readings' passes have seen, their looks are added to its own, and each gave rows.
pub record IsGathered (o : Opening) (gs : List ShardReply) (p now : PassView Entry) : Type 0 where
  pub gone : HasGoneOn o p (flat_map given_looks gs) now
  pub seen : AllByRecursion (λ g. IsPrefix g.pass.seen now.seen) gs
  pub answered : AllByRecursion (λ g. is_read g.outcome ≡ true) gs

-- one of the shards doesn't serve, and the pass has seen what the reading's pass has seen
pub record IsStalled (gs : List ShardReply) (now : PassView Entry) : Type 0 where
  pub given : ShardReply
  pub there : Contains gs given
  pub held_up : given.outcome ≡ Ok NotServing
  pub seen : IsPrefix given.pass.seen now.seen

-- the shards of some partition were read for the plan, after looks at most
pub record IsScattered (o : Opening) (t : Table) (plan : Plan) (p : PassView Entry) (pieces : List (List Row)) (reads : List ShardRead) (now : PassView Entry) : Type 0 where
  pub seats : List Seat
  pub partition : IsPartition seats
  pub since : PassView Entry
  pub gone : HasGone o p since
  pub gs : List ShardReply
  pub given : AllZip (IsReadingOf o) (all_asked t plan since.seen seats) gs
  pub gathered : IsGathered o gs since now
  pub pieces_are : pieces ≡ map given_rows gs
  pub reads_are : reads ≡ map given_read gs

-- by this partition the plan needs one seat alone, whose piece of it is this query
pub record IsPieceAlone (t : Table) (plan : Plan) (seats : List Seat) (seat : Seat) (query : Query) : Type 0 where
  pub partition : IsPartition seats
  pub keyspace : seat.2 ≡ t.keyspace
  pub alone : needed t plan.route seats ≡ seat ∷ []
  pub piece : piece_of t plan seat.1 ≡ query

-- what shards of a partition give for the plan can be joined
abbrev pub CanJoinAll : Opening → Table → Plan → PassView Entry → Type 0
CanJoinAll o t plan p =
    (pieces : List (List Row)) (reads : List ShardRead) (now : PassView Entry) → IsScattered o t plan p pieces reads now
    → CanJoin plan.finish.grouping (flat_map (λ l. l) pieces)

-- if the plan's query isn't aggregated, what each of them gives is in the order of the finish's keys
abbrev pub AllInOrder : Opening → Table → Plan → PassView Entry → Type 0
AllInOrder o t plan p =
    (pieces : List (List Row)) (reads : List ShardRead) (now : PassView Entry) → IsScattered o t plan p pieces reads now
    → plan.finish.grouping ≡ None → All (λ piece. IsSorted (row_cmp plan.finish.order_by) piece) pieces

-- the rows are what the plan makes of what the shards of some partition gave
pub record IsFinished (o : Opening) (t : Table) (plan : Plan) (p : PassView Entry) (rows : List Row) (reads : List ShardRead) (now : PassView Entry) : Type 0 where
  pub pieces : List (List Row)
  pub scattered : IsScattered o t plan p pieces reads now
  pub finished : Finishes plan.finish (flat_map (λ l. l) pieces) rows

-- a count, or the write again if its shard took no commits
abbrev pub tried : CommitOutcome → Tried
tried (c.Count n) = Done n
tried (c.Frozen w) = Again w
tried (c.NotServing w) = Again w

-- What one try to commit a write by a partition gives: it is written; or its one shard took no commits at a look, and the write comes back.
pub data IsTried (o : Opening) (limits : Limits) (seats : List Seat) (p : PassView Entry) (w : Write) : Tried → PassView Entry → Type 0 where
  written : {count : ℕ} {now : PassView Entry} → HasWritten o limits p w (record { answer = Count count; reads = [] }) now
      → IsTried o limits seats p w (Done count) now
  again : {now : PassView Entry} → HasGone o p now
      → IsHeldUp o (table_at o.schema (written_table w)) (write_route o.schema w) is_writable p.seen now.seen seats → IsTried o limits seats p w (Again w) now
