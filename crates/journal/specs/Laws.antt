-- What the public clauses say together.
use Rattle.std.specs.Prelude.{◌≡◌, ◌⊎◌, ℕ, List, Option}
use mathlib.Core.List.{IsPrefix}
use Rattle.journal.specs.Views.{PassView, SeatView, IsLater, IsLonger}

module _ {E : Type 0} (slot_of : E → ℕ) (commit_of : E → Option (ℕ × ℕ)) (may : List E → E → Type 0) where
  -- of what two passes had seen when they met, one begins with the other
  abbrev pub RunsAgree : Type 0
  RunsAgree =
      (p q : PassView E) (run : List E) → IsLonger slot_of commit_of may p q run
      → (IsPrefix p.seen q.seen) ⊎ (IsPrefix q.seen p.seen)

  -- what comes later than a later run comes later
  abbrev pub LaterThanLater : Type 0
  LaterThanLater =
      (s t : SeatView E) (p q : PassView E) (run : List E) → IsLater slot_of commit_of may s p t.seen
      → t.slot ≡ s.slot → q.seen ≡ t.seen → q.session ≡ p.session
      → IsLater slot_of commit_of may t q run → IsLater slot_of commit_of may s p run
