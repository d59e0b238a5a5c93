-- What the thread that writes lines makes of them.
use Rattle.std.specs.Prelude.{◌≡◌, ◌<◌, ◌+◌, ◌-◌, ◌^◌, ◌⊎◌, ℕ, min, nat_lt, Bool, true, false, List, [], ◌∷◌, ◌++◌, length, codes}
use Rattle.std.specs.Fmt.{decimal}
use mathlib.Core.List.{IsPrefix}
use Rattle.log.specs.declared.level.Level.TheVariants.{Warn}
use Rattle.jiff.specs.Types.{Timestamp}
use Rattle.program_log.specs.lines.Lines.{LogEntry, TellsAt}

-- a line is written after the break that ends a torn one
abbrev pub mended : Bool → List ℕ → List ℕ
mended true bytes = 0x0A ∷ bytes
mended false bytes = bytes

-- what a write of a line took that didn't take the whole: nothing; or a part of the line, after the break that a torn one needs. The line is torn
-- then, unless the part is empty
abbrev pub TakesPart : Bool → List ℕ → List ℕ → Bool → Type 0
TakesPart torn line taken after =
    ((taken ≡ []) × (after ≡ torn))
    ⊎ ((part : List ℕ) × IsPrefix part line × (length part < length line) × (taken ≡ mended torn part) × (after ≡ nat_lt 0 (length part)))

-- so many lines were lost
abbrev pub lost_entry : ℕ → LogEntry
lost_entry lost = record { level = Warn; event = codes "lost"; fields = (codes "lines", decimal lost) ∷ [] }

abbrev pub IsReport : Timestamp → ℕ → List ℕ → Type 0
IsReport t lost bytes = TellsAt t (lost_entry lost) bytes

-- what a report took that wasn't written whole: nothing, or a part of it
abbrev pub TakesPartOfReport : Timestamp → ℕ → Bool → List ℕ → Bool → Type 0
TakesPartOfReport t lost torn taken after =
    ((taken ≡ []) × (after ≡ torn)) ⊎ ((bytes : List ℕ) × IsReport t lost bytes × TakesPart torn bytes taken after)

-- What was written of a line that is lost, after so many that weren't reported, and how many are left to report then. Nothing follows a part.
pub data IsLost (t : Timestamp) (lost : ℕ) (torn : Bool) (line : List ℕ) (left : ℕ) (taken : List ℕ) (after : Bool) : Type 0 where
  -- a part of the line, if none was lost before it
  alone : lost ≡ 0 → left ≡ 1 → TakesPart torn line taken after → IsLost t lost torn line left taken after
  -- a part of the report, and nothing of the line
  unreported : 0 < lost → left ≡ min (lost + 1) (2 ^ 64 - 1) → TakesPartOfReport t lost torn taken after → IsLost t lost torn line left taken after
  -- the report, and a part of the line
  reported : (bytes part : List ℕ) → 0 < lost → left ≡ 1 → IsReport t lost bytes → TakesPart false line part after → taken ≡ mended torn bytes ++ part
      → IsLost t lost torn line left taken after
