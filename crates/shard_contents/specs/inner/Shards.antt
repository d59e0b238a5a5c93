-- Entries that change a mode at most.
use Rattle.std.specs.Prelude.{Bool, true, false}
use Rattle.shard_law.specs.Event.{Event}
use Rattle.shard_law.specs.Event.TheVariants.{Commit, Follow, Copy}

-- an entry that changes a mode at most: nothing is stored, and rows stay
abbrev pub is_plain : Event → Bool
is_plain (Commit c) = false
is_plain (Follow f) = false
is_plain (Copy c) = false
is_plain _ = true
