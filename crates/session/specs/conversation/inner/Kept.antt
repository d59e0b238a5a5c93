-- What a device has taken of what was kept for it, and what was read of it and is kept.
use Rattle.std.specs.Prelude.{◌≡◌, ℕ, List, ◌++◌, Option}
use Rattle.std.specs.Io.KnownBytes.{Appends, Consumes}

-- the device took a front of what was unsent
abbrev pub HasSent : Option (List ℕ) → Option (List ℕ) → List ℕ → List ℕ → Type 0
HasSent old new unsent left = (part : List ℕ) × (unsent ≡ part ++ left) × Appends old new part

-- what was read in all is read still
abbrev pub StillRead : Option (List ℕ) → Option (List ℕ) → Type 0
StillRead old new = (begin : Option (List ℕ)) (read : List ℕ) → Consumes begin old read → Consumes begin new read
