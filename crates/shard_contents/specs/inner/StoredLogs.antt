-- What a shard still has of the entries that it has stored.
use Rattle.std.specs.Prelude.{◌≡◌, ℕ, ◌+◌, ◌-◌, ◌<◌, ◌≤◌, ◌^◌, Bool, true, false, List, [], ◌∷◌, ◌++◌, length, drop, if◌then◌else◌}
use Rattle.std.specs.List.{AllByRecursion}
use Rattle.vschema.specs.declared.changes.RowChange.{RowChange}
use Rattle.vschema.specs.Database.{changed_table}
use Rattle.shard_contents.specs.inner.KeptConflicts.{keeps_table}
use Rattle.shard_contents.specs.inner.LastChanges.{last_change, TellLastChanges}

-- The entries from a position on, counted from 0, by what is kept of each: those before it are given up. Of each table, how many entries there
-- were when one last changed it. And whether entries are kept from now on, since somebody follows the shard.
pub record StoredLog : Type 0 where
  pub first : ℕ
  pub kept : List (List RowChange)
  pub last : List ℕ
  pub is_followed : Bool

-- no entry yet
abbrev pub nothing_stored : StoredLog
nothing_stored = record { first = 0; kept = []; last = []; is_followed = false }

-- how many were stored, with those that are given up
abbrev pub count_of : StoredLog → ℕ
count_of log = log.first + length log.kept

-- none of them is kept, and none will be
abbrev pub given_up : StoredLog → StoredLog
given_up log = record { first = count_of log; kept = []; last = log.last; is_followed = false }

-- those that were stored after so many
abbrev pub stored_since : StoredLog → ℕ → List (List RowChange)
stored_since log count = drop (count - log.first) log.kept

-- These entries were stored: the last of them are kept, and which tables all of them changed is told.
pub record HasStored (log : StoredLog) (all : List (List RowChange)) : Type 0 where
  pub within : log.first ≤ length all
  pub kept : log.kept ≡ drop log.first all
  pub last : TellLastChanges all log.last

-- One more entry was stored. It is kept if somebody follows; else all are given up.
pub record HasStoredNext (log : StoredLog) (changes : List RowChange) (now : StoredLog) : Type 0 where
  pub is_followed : now.is_followed ≡ log.is_followed
  pub first : now.first ≡ (if log.is_followed then log.first else count_of log + 1)
  pub kept : now.kept ≡ (if log.is_followed then log.kept ++ changes ∷ [] else [])
  pub last : (n : ℕ) → last_change now.last n ≡ (if keeps_table n changes then count_of log + 1 else last_change log.last n)

-- that, and without more memory, for how many more there is room, and of how many tables they may be
pub record StoredView : Type 0 where
  pub log : StoredLog
  pub room : ℕ
  pub tables : ℕ

-- an entry with these changes can be stored without more memory
pub record HasPlaceFor (stored : StoredView) (changes : List RowChange) : Type 0 where
  pub countable : count_of stored.log + 1 < 2 ^ 64
  pub room : stored.log.is_followed ≡ true → 0 < stored.room
  pub tables : AllByRecursion (λ c. changed_table c < stored.tables) changes
