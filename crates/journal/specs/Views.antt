-- What contracts see of a pass, of a shard's seat and of the opener.
use Rattle.std.specs.Prelude.{◌≡◌, ◌⊎◌, ℕ, zero, suc, List, [], ◌∷◌, ◌++◌, Option, Some}
use Rattle.std.specs.List.{filter}
use mathlib.Core.List.{IsPrefix}
use Rattle.journal.specs.Runs.{IsLegal, on_slot, by_session}

-- the run that was seen, each look with its slot and the run's length then, the session's number and the statements
-- so far
pub record PassView (E : Type 0) : Type 0 where
  pub seen : List E
  pub looks : List (ℕ × ℕ)
  pub session : Option ℕ
  pub statements : ℕ

-- the run that was seen, and the slot
pub record SeatView (E : Type 0) : Type 0 where
  pub seen : List E
  pub slot : ℕ

module _ {E : Type 0} (slot_of : E → ℕ) (commit_of : E → Option (ℕ × ℕ)) (may : List E → E → Type 0) where
  -- a legal run that begins with what the seat and the pass have seen, and has no more entries on the seat's slot or of
  -- the pass's session
  pub record IsLater (s : SeatView E) (p : PassView E) (run : List E) : Type 0 where
    pub legal : IsLegal may run
    pub seat : IsPrefix s.seen run
    pub pass : IsPrefix p.seen run
    pub alone : filter (on_slot slot_of s.slot) run ≡ filter (on_slot slot_of s.slot) s.seen
    pub own : (n : ℕ) → p.session ≡ Some n
        → filter (by_session commit_of n) run ≡ filter (by_session commit_of n) p.seen

  -- the longer of what two passes have seen, which has no more entries of their sessions
  pub record IsLonger (p q : PassView E) (run : List E) : Type 0 where
    pub legal : IsLegal may run
    pub one : IsPrefix p.seen run
    pub other : IsPrefix q.seen run
    pub either : (run ≡ p.seen) ⊎ (run ≡ q.seen)
    pub own : (n : ℕ) → p.session ≡ Some n
        → filter (by_session commit_of n) run ≡ filter (by_session commit_of n) p.seen
    pub theirs : (n : ℕ) → q.session ≡ Some n
        → filter (by_session commit_of n) run ≡ filter (by_session commit_of n) q.seen

-- a pass that has made no look and no statement
abbrev pub new_pass : {E : Type 0} → List E → Option ℕ → PassView E
new_pass run number = record { seen = run; looks = []; session = number; statements = 0 }

-- the seats of the first n slots, which have seen nothing
abbrev pub fresh_seats : {E : Type 0} → ℕ → List (SeatView E)
fresh_seats zero = []
fresh_seats (suc n) = fresh_seats n ++ record { seen = []; slot = n } ∷ []
