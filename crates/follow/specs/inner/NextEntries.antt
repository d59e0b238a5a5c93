-- What a source has for a target that has come so far.
use Rattle.std.specs.Prelude.{◌≡◌, ◌≤◌, ℕ, [], ◌∷◌, ◌++◌, length, Contains, Option, Some, None}
use Rattle.journal.specs.Views.{PassView}
use Rattle.shard_run.specs.declared.Entry as E
use Rattle.shard_run.specs.declared.Event.TheVariants as events
use Rattle.shard_run.specs.Copies.{position}
use Rattle.shard_run.specs.declared.ShardRecord.{ShardRecord}
use Rattle.shard_run.specs.declared.Copied as C
use Rattle.shard_run.specs.declared.Follow as F
use Rattle.shard_run.specs.Runs.{Run, Opening, stored_on}
use Rattle.shard.specs.Entries.{ShardView}
use Rattle.shard.specs.NextTable.{NextTable}
use Rattle.shard.specs.SourceProgress.{SourceProgress}
use Rattle.shard.specs.Copying.{IsProgress, IsEntryFor, IsCopyFor, IsNextCopy}
use Rattle.follow.specs.Steps.{HasStepped}
use Rattle.follow.specs.Turns.{HasLookedAt}
use Rattle.follow.specs.declared.steps.Step.{Step}
use Rattle.follow.specs.declared.steps.Step.TheVariants.{Copied, Followed, Level}
use Rattle.follow.specs.declared.steps.NextEntry.{NextEntry}
use Rattle.follow.specs.declared.steps.NextEntry.TheVariants.{Entry, Rows, Nothing}

-- the pass looked at the shard on this slot, once, and then nothing was appended
abbrev pub IsOneLook : ℕ → PassView E.Entry → PassView E.Entry → Type 0
IsOneLook slot p now = now.looks ≡ p.looks ++ (slot, length now.seen) ∷ []

-- the source has stored no more entries than the target stands after
abbrev pub NoneLeft : Run → ℕ → Option ℕ → Type 0
NoneLeft run source stands_after = (n : ℕ) → stands_after ≡ Some n → length (stored_on source run) ≤ n

-- What a source has for a target, whose seat has seen so much: the entry that is next, else the next rows, else nothing.
pub data IsNextForTarget (o : Opening) (run : Run) (source : ShardRecord) (target : ShardView) : NextEntry → Type 0 where
  entry : (f : F.Follow) → position target.seen target.shard.slot source.slot ≡ Some f.log_position → IsEntryFor o run source.slot target.shard.place f
      → IsNextForTarget o run source target (Entry f)
  rows : (p : SourceProgress) (c : C.Copied) (n : NextTable) → IsProgress o target.seen target.shard source.slot p → NoneLeft run source.slot p.stands_after
      → p.next ≡ Some n → c.table ≡ n.table → IsCopyFor o run source target.shard.place n.after c → IsNextForTarget o run source target (Rows c)
  nothing : (p : SourceProgress) → IsProgress o target.seen target.shard source.slot p → NoneLeft run source.slot p.stands_after → p.next ≡ None
      → IsNextForTarget o run source target Nothing

-- The entry is next for the target; the run has it stored.
pub record IsNextEntry (o : Opening) (run : Run) (target : ShardView) (f : F.Follow) : Type 0 where
  pub of_source : Contains target.shard.sources f.source
  pub next : position target.seen target.shard.slot f.source ≡ Some f.log_position
  pub given : IsEntryFor o run f.source target.shard.place f

-- what was given is next for the target
pub data IsTakeable (o : Opening) (run : Run) (target : ShardView) : NextEntry → Type 0 where
  entry : {f : F.Follow} → IsNextEntry o run target f → IsTakeable o run target (Entry f)
  rows : {c : C.Copied} → IsNextCopy o run target c → IsTakeable o run target (Rows c)
  nothing : IsTakeable o run target Nothing

-- what was taken over of what was given, with a look at the target before its entry
pub data HasTaken (o : Opening) (target : ShardRecord) : NextEntry → PassView E.Entry → PassView E.Entry → Step → Type 0 where
  entry : {f : F.Follow} {p now : PassView E.Entry} (taken : F.Follow) → taken.source ≡ f.source → HasStepped o target (events.Follow taken) p now
      → HasLookedAt (target.slot ∷ []) p now → HasTaken o target (Entry f) p now Followed
  rows : {c : C.Copied} {p now : PassView E.Entry} → HasStepped o target (events.Copy c) p now → HasLookedAt (target.slot ∷ []) p now
      → HasTaken o target (Rows c) p now Copied
  nothing : {p : PassView E.Entry} → HasTaken o target Nothing p p Level
