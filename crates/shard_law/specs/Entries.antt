-- The law of the shards' entries as the journal takes it, and what a pass has seen after a look or an append on a shard.
use Rattle.std.specs.Prelude.{◌≡◌, ℕ, ◌+◌, ◌^◌, false, List, [], ◌∷◌, ◌++◌, map, length, codes, Option, Some, None}
use Rattle.std.proofs.Common.{refl}
use Rattle.std.specs.List.{filter}
use mathlib.Core.List.{IsPrefix}
use Rattle.journal.specs.Runs.{IsLegal, by_session}
use Rattle.journal.specs.Views.{SeatView, PassView, IsLater}
use Rattle.shard_run.specs.declared.ShardRecord.{ShardRecord}
use Rattle.shard_run.specs.declared.Event.{Event}
use Rattle.shard_run.specs.declared.Event.TheVariants.{Commit}
use Rattle.shard_run.specs.declared.Entry.{Entry}
use Rattle.shard_run.specs.Runs.{Run, Opening}
use Rattle.shard_law.specs.Legal.{IsOnItsSlot, May}
use Rattle.shard_law.specs.declared.limits.Limits.{Limits}

abbrev pub slot_of : Entry → ℕ
slot_of e = e.shard.slot

abbrev pub commit_in : Event → Option (ℕ × ℕ)
commit_in (Commit c) = Some (c.session, c.number)
commit_in _ = None

-- the session and the number of a commit
abbrev pub commit_of : Entry → Option (ℕ × ℕ)
commit_of e = commit_in e.event

abbrev pub MayFollow : Opening → List Entry → Entry → Type 0
MayFollow o before e = IsOnItsSlot o before e.shard × May o before e.shard e.event

-- What is known of a shard: the run that its seat has seen, and which shard it is; from which of its stored entries on it has what they change,
-- counted from 0, if somebody follows it; and of how many tables it holds the rows.
pub record ShardView : Type 0 where
  pub seen : List Entry
  pub shard : ShardRecord
  pub kept_from : Option ℕ
  pub tables : ℕ

abbrev pub seat_view : ShardView → SeatView Entry
seat_view s = record { seen = s.seen; slot = s.shard.slot }

abbrev pub opening_shards : Opening → List ShardRecord
opening_shards o = map (λ p. p.0) o.shards

-- After one look on the slot the pass has seen a legal run, which begins with what it had seen and has no other commit of its session,
-- and keeps the look.
pub record HasLooked (o : Opening) (slot : ℕ) (p now : PassView Entry) : Type 0 where
  pub legal : IsLegal (MayFollow o) now.seen
  pub later : IsPrefix p.seen now.seen
  pub own : (n : ℕ) → p.session ≡ Some n → filter (by_session commit_of n) now.seen ≡ filter (by_session commit_of n) p.seen
  pub pass : now ≡ record p { seen = now.seen; looks = p.looks ++ (slot, length now.seen) ∷ [] }

-- The shard's entry of this event and nothing else on its slot: seat and pass have then seen a legal run that ends with it.
pub record HasAppended (o : Opening) (s : ShardView) (event : Event) (p now : PassView Entry) : Type 0 where
  pub before : Run
  pub later : IsLater slot_of commit_of (MayFollow o) (seat_view s) p before
  pub seen : now.seen ≡ before ++ record { shard = s.shard; event = event } ∷ []
  pub legal : IsLegal (MayFollow o) now.seen
  pub pass : now ≡ record p { seen = now.seen }

-- an opening without tables or shards
abbrev pub no_opening : Opening
no_opening = record { schema = record { keyspaces = record { name = codes "none"; sharded = false } ∷ []; tables = []; formed = refl }; shards = [] }

-- the limits of every shard that serves
abbrev pub most_limits : Limits
most_limits = record { rows = 2 ^ 20; stored = 2 ^ 20 }
