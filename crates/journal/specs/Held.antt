-- What a pass, a shard's seat and the opener hold.
use Rattle.std.specs.Prelude.{◌≡◌, ℕ, ◌+◌, ◌<◌, ◌≤◌, ◌^◌, List, [], Option, Some, None}
use Rattle.atomic_table.specs.Table.{Me}
use Rattle.journal.specs.declared.rule.View.{View}
use Rattle.journal.specs.Runs.{IsLegal, NumbersBelow}
use Rattle.journal.specs.Views.{PassView, SeatView}

module _ {E : Type 0} where
  -- the sessions are the numbered one alone
  abbrev pub OfNumber : Option ℕ → View E → Type 0
  OfNumber None v = (v.session_from ≡ 0) × (v.session_end ≡ 0)
  OfNumber (Some n) v = (v.session_from ≡ n) × (v.session_end ≡ n + 1)

  -- a pass has no slot and one session or none, and has numbered all commits of its session that it has seen
  pub record IsPass (commit_of : E → Option (ℕ × ℕ)) (may : List E → E → Type 0)
      (number : Option ℕ) (statements : ℕ) (me : Me E (View E)) : Type 0 where
    pub legal : IsLegal may me.0.seen
    pub told : me.0.told ≡ []
    pub none_out : me.1 ≡ []
    pub no_slot : (me.0.slot_from ≡ 0) × (me.0.slot_end ≡ 0)
    pub session : OfNumber number me.0
    pub no_held : (me.0.held_from ≡ 0) × (me.0.held_end ≡ 0)
    pub numbers : (n : ℕ) → number ≡ Some n → NumbersBelow commit_of n (statements + 1) me.0.seen

  -- a shard's seat has one slot and no session
  pub record IsSeat (may : List E → E → Type 0) (place : ℕ) (me : Me E (View E)) : Type 0 where
    pub legal : IsLegal may me.0.seen
    pub told : me.0.told ≡ []
    pub none_out : me.1 ≡ []
    pub slots : (me.0.slot_from ≡ place) × (me.0.slot_end ≡ place + 1)
    pub no_session : (me.0.session_from ≡ 0) × (me.0.session_end ≡ 0)
    pub no_held : (me.0.held_from ≡ 0) × (me.0.held_end ≡ 0)
    pub below : place < 64

  -- the opener has the sessions from the next number on, and has seen nothing
  pub record IsOpener (next : ℕ) (me : Me E (View E)) : Type 0 where
    pub blank : me.0.seen ≡ []
    pub none_out : me.1 ≡ []
    pub sessions : (me.0.session_from ≡ next) × (me.0.session_end ≡ 2 ^ 62)
    pub most : next ≤ 2 ^ 62

  abbrev pub pass_view : Option ℕ → ℕ → Me E (View E) → PassView E
  pass_view number statements me =
      record { seen = me.0.seen; looks = me.0.looks; session = number; statements = statements }

  abbrev pub seat_view : ℕ → Me E (View E) → SeatView E
  seat_view place me = record { seen = me.0.seen; slot = place }
