-- The lines of the admin port.
use Rattle.std.specs.Prelude.{◌≡◌, ◌≢◌, ℕ, List, [], ◌∷◌, ◌++◌, codes}
use Rattle.std.specs.List.{AllByRecursion}
use Rattle.keyrange.specs.declared.KeyRange.{KeyRange}
use Rattle.vtgate_lines.specs.Partitions.{IsListOf}
use Rattle.vtgate_lines.specs.declared.admin_lines.AdminLine.{AdminLine}
use Rattle.vtgate_lines.specs.declared.admin_lines.AdminLine.TheVariants.{Status, Create, Step, Switch, Advance, Resume, Cancel, Complete, Unknown}

-- `create`, the names of the ranges that are replaced, and those of the ranges that take their place
pub record IsCreate (words : List ℕ) (sources targets : List KeyRange) : Type 0 where
  pub from : List ℕ
  pub into : List ℕ
  pub written : words ≡ codes "create " ++ from ++ 0x20 ∷ into
  pub named : IsListOf from sources
  pub replaced_by : IsListOf into targets

-- the lines of one word
abbrev pub single_words : List (List ℕ)
single_words =
    codes "status" ∷ codes "step" ∷ codes "switch" ∷ codes "advance" ∷ codes "resume" ∷ codes "cancel" ∷ codes "complete" ∷ []

-- what the words of a line ask for
abbrev pub AsksFor : List ℕ → AdminLine → Type 0
AsksFor words Status = words ≡ codes "status"
AsksFor words (Create sources targets) = IsCreate words sources.items targets.items
AsksFor words Step = words ≡ codes "step"
AsksFor words Switch = words ≡ codes "switch"
AsksFor words Advance = words ≡ codes "advance"
AsksFor words Resume = words ≡ codes "resume"
AsksFor words Cancel = words ≡ codes "cancel"
AsksFor words Complete = words ≡ codes "complete"
AsksFor words Unknown =
    AllByRecursion (λ word. words ≢ word) single_words × ((sources targets : List KeyRange) → IsCreate words sources targets → ⊥)
