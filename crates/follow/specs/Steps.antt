-- What a step of a target with a source leaves in what the pass has seen.
use Rattle.std.specs.Prelude.{◌≡◌, ℕ, [], ◌∷◌, ◌++◌, length, Some, List}
use Rattle.std.specs.List.{AllByRecursion}
use mathlib.Core.List.{IsPrefix}
use Rattle.journal.specs.Runs.{IsLegal}
use Rattle.journal.specs.Views.{PassView}
use Rattle.shard_run.specs.declared.ShardRecord.{ShardRecord}
use Rattle.shard_run.specs.declared.Event.{Event}
use Rattle.shard_run.specs.declared.Event.TheVariants as events
use Rattle.shard_run.specs.declared.Copied as C
use Rattle.shard_run.specs.declared.Follow as F
use Rattle.shard_run.specs.declared.Entry.{Entry}
use Rattle.shard_run.specs.Runs.{Run, Opening, stored_on}
use Rattle.shard_run.specs.Copies.{position}
use Rattle.shard.specs.Entries.{MayFollow}
use Rattle.shard.specs.Limits.{Limits}
use Rattle.shard.specs.Copying.{HasCopiedAll, PassesLimit}
use Rattle.follow.specs.declared.steps.Step.{Step}
use Rattle.follow.specs.declared.steps.Step.TheVariants.{Copied, Followed, Level}

-- the pass has seen a legal run that begins with what it had seen
pub record IsOnward (o : Opening) (p now : PassView Entry) : Type 0 where
  pub legal : IsLegal (MayFollow o) now.seen
  pub later : IsPrefix p.seen now.seen
  pub session : now.session ≡ p.session

-- the same, and its run ends with this entry of the shard
pub record HasStepped (o : Opening) (s : ShardRecord) (event : Event) (p now : PassView Entry) : Type 0 where
  pub onward : IsOnward o p now
  pub before : Run
  pub since : IsPrefix p.seen before
  pub seen : now.seen ≡ before ++ record { shard = s; event = event } ∷ []

-- a run between what a pass had seen and what it has seen now
pub record IsRunBetween (p now : PassView Entry) (run : Run) : Type 0 where
  pub since : IsPrefix p.seen run
  pub until : IsPrefix run now.seen

-- After a run the target has copied each table of its keyspace from the source, and stands after as many entries as the source has stored
-- after another.
pub record IsLevel (o : Opening) (source target : ShardRecord) (run looked : Run) : Type 0 where
  pub copied : HasCopiedAll o run target source.slot
  pub level : (n : ℕ) → position run target.slot source.slot ≡ Some n → n ≡ length (stored_on source.slot looked)

-- A Copy or a Follow of the target that may come next passes a limit of it.
pub data IsFull (o : Opening) (most : Limits) (target : ShardRecord) (run : Run) : Type 0 where
  copy : (c : C.Copied) → MayFollow o run (record { shard = target; event = events.Copy c }) → PassesLimit o most run target (events.Copy c)
      → IsFull o most target run
  follow : (f : F.Follow) → MayFollow o run (record { shard = target; event = events.Follow f }) → PassesLimit o most run target (events.Follow f)
      → IsFull o most target run

-- What a step of a target with a source does. Either its one entry ends what the pass has seen: a Copy, after all entries that the source had
-- stored at a look since the step began, or a Follow. Or there is none, and the target was level with what the source had stored at a look.
pub data HasMoved (o : Opening) (source target : ShardRecord) (p now : PassView Entry) : Step → Type 0 where
  copied : (c : C.Copied) → c.source ≡ source.slot → (looked : Run) → IsRunBetween p now looked → c.log_position ≡ length (stored_on source.slot looked)
      → HasStepped o target (events.Copy c) p now → HasMoved o source target p now Copied
  followed : (f : F.Follow) → f.source ≡ source.slot → HasStepped o target (events.Follow f) p now → HasMoved o source target p now Followed
  level : IsOnward o p now → (run looked : Run) → IsRunBetween p now run → IsRunBetween p now looked → IsLevel o source target run looked
      → HasMoved o source target p now Level

-- What a step with several sources does, in their order: what one with the first of them that the target isn't level with does, or none is
-- left.
pub data HasMovedWith (o : Opening) (sources : List ShardRecord) (target : ShardRecord) (p now : PassView Entry) : Step → Type 0 where
  one : {step : Step} (before after : List ShardRecord) (source : ShardRecord) → sources ≡ before ++ source ∷ after
      → AllByRecursion (λ s. HasMoved o s target p now Level) before → HasMoved o source target p now step → HasMovedWith o sources target p now step
  all_level : IsOnward o p now → AllByRecursion (λ s. HasMoved o s target p now Level) sources → HasMovedWith o sources target p now Level
