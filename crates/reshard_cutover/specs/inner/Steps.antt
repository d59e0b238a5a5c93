-- How far a target has come with its sources.
use Rattle.std.specs.Prelude.{◌≡◌, ℕ, List, Some, IsTrue}
use Rattle.std.specs.List.{AllByRecursion}
use Rattle.shard_run.specs.declared.ShardRecord.{ShardRecord}
use Rattle.shard_run.specs.Runs.{Run, Opening}
use Rattle.shard_run.specs.Copies.{position}
use Rattle.shard_contents.specs.Copying.{HasCopiedAll}
use Rattle.reshard_cutover.specs.Steps.{Looked, has_source}

-- after the run the target has copied all of the source, and stands after what it has stored
pub record IsUpTo (o : Opening) (run : Run) (target : ShardRecord) (source : Looked) : Type 0 where
  pub copied : HasCopiedAll o run target source.0.slot
  pub level : (n : ℕ) → position run target.slot source.0.slot ≡ Some n → n ≡ source.1

-- and the target is level with them
abbrev pub AreFollowed : Opening → Run → ShardRecord → List Looked → Type 0
AreFollowed o run target sources = AllByRecursion (λ s. IsTrue (has_source s.0.slot target) → IsUpTo o run target s) sources
