-- How a shard's mode changes.
use Rattle.std.specs.Prelude.{◌≡◌, ℕ}
use Rattle.journal.specs.Views.{PassView}
use Rattle.shard_run.specs.declared.Event.{Event}
use Rattle.shard_run.specs.declared.Entry.{Entry}
use Rattle.shard_run.specs.Runs.{Opening, entries_on}
use Rattle.shard_contents.specs.Entries.{ShardView, HasLooked, HasAppended}

-- the pass looked at the shard on the slot twice, and nowhere else between the two
pub record HasLookedTwice (o : Opening) (slot : ℕ) (p now : PassView Entry) : Type 0 where
  pub first : PassView Entry
  pub once : HasLooked o slot p first
  pub again : HasLooked o slot first now

-- Two looks at the shard in a row, and then its entry of this event, and nothing else on its slot.
pub record HasChangedMode (o : Opening) (s : ShardView) (event : Event) (p now : PassView Entry) : Type 0 where
  pub looked : PassView Entry
  pub twice : HasLookedTwice o s.shard.slot p looked
  pub alone : entries_on s.shard.slot looked.seen ≡ entries_on s.shard.slot s.seen
  pub appended : HasAppended o (record s { seen = looked.seen }) event looked now
