-- The rule of the words, and what its steps tell.
use Rattle.std.specs.Prelude.{◌≡◌, ℕ, ◌+◌, ◌<◌, ◌≤◌, ◌^◌, Bool, List, [], ◌∷◌, ◌++◌, ◌⊎◌, length, slice_index, Option}
use Rattle.std.specs.List.{count_by}
use mathlib.Core.Option.{some}
use mathlib.Core.List.{IsPrefix}
use lib.ListN.{get_elem?}
use Rattle.atomic_table.specs.Table.{State, Me, Step}
use Rattle.journal.specs.declared.rule.View.{View}
use Rattle.journal.specs.Runs.{IsLegal, on_slot, by_session}

-- what a seat may have the right to: the entries on a slot, or those of a session
pub data Key : Type 0 where
  slot : ℕ → Key
  session : ℕ → Key

module _ {E : Type 0} where
  -- the seat has the right to these entries: nobody else appends any
  abbrev pub Owns : View E → Key → Type 0
  Owns v (slot i) = (v.slot_from ≤ i) × (i < v.slot_end)
  Owns v (session n) = ((v.session_from ≤ n) × (n < v.session_end)) ⊎ ((v.held_from ≤ n) × (n < v.held_end))

  -- no session is both the seat's own and lent to it
  abbrev pub NoneLentIsOwn : View E → Type 0
  NoneLentIsOwn v = (n : ℕ) → (v.session_from ≤ n) × (n < v.session_end) → (v.held_from ≤ n) × (n < v.held_end) → ⊥

  -- a view that has no right
  abbrev pub knower : List E → List (ℕ × ℕ) → View E
  knower run looks = record {
    seen = run;
    told = [];
    looks = looks;
    slot_from = 0;
    slot_end = 0;
    session_from = 0;
    session_end = 0;
    held_from = 0;
    held_end = 0;
  }

  -- the first seat has the right to all 64 slots and 2 ^ 62 sessions, and has seen nothing
  abbrev pub opening_view : View E
  opening_view = record (knower [] []) { slot_end = 64; session_end = 4611686018427387904 }

  -- the view, which has seen the run
  abbrev pub seeing : View E → List E → View E
  seeing v run = record v { seen = run; told = [] }

  abbrev pub noted : View E → View E
  noted v = knower v.seen []

  -- told of what another seat has seen
  abbrev pub hears : View E → View E → View E
  hears v w = record v { told = w.seen }

  -- the same, with the looks that the other hands over
  abbrev pub hears_looks : View E → View E → View E
  hears_looks v w = record v { told = w.seen; looks = v.looks ++ w.looks }

  abbrev pub look_noted : View E → View E
  look_noted v = knower v.seen ((v.slot_from, length v.seen) ∷ [])

  abbrev pub without_sessions : View E → View E
  without_sessions v = record v { session_from = 0; session_end = 0; held_from = 0; held_end = 0 }

  abbrev pub sessions_of : View E → View E
  sessions_of v = record (knower v.seen []) { session_from = v.session_from; session_end = v.session_end }

  -- has the other's sessions besides its own slots
  abbrev pub borrows : View E → View E → View E
  borrows v w = record v {
    told = [];
    session_from = w.session_from;
    session_end = w.session_end;
    held_from = 0;
    held_end = 0;
  }

  -- has the sessions back, and sees what the other has seen
  abbrev pub returns : View E → View E → View E
  returns v w = record v {
    seen = w.seen;
    told = [];
    session_from = w.session_from;
    session_end = w.session_end;
    held_from = 0;
    held_end = 0;
  }

  -- has the other's sessions besides its own
  abbrev pub holding : View E → View E → View E
  holding v w = record v { told = []; held_from = w.session_from; held_end = w.session_end }

  abbrev pub without_held : View E → View E
  without_held v = record v { held_from = 0; held_end = 0 }

  abbrev pub held_of : View E → View E
  held_of v = record (knower v.seen []) { session_from = v.held_from; session_end = v.held_end }

  abbrev pub later_sessions : View E → View E
  later_sessions v = record v { session_from = v.session_from + 1; held_from = 0; held_end = 0 }

  abbrev pub first_session : View E → View E
  first_session v = record (knower v.seen []) { session_from = v.session_from; session_end = v.session_from + 1 }

  abbrev pub later_slots : View E → View E
  later_slots v = record v { slot_from = v.slot_from + 1; held_from = 0; held_end = 0 }

  abbrev pub first_slot : View E → View E
  first_slot v = record (knower v.seen []) { slot_from = v.slot_from; slot_end = v.slot_from + 1 }

module _ {E : Type 0} (slot_of : E → ℕ) (commit_of : E → Option (ℕ × ℕ)) (may : List E → E → Type 0) where
  abbrev pub under : Key → E → Bool
  under (slot i) e = on_slot slot_of i e
  under (session n) e = by_session commit_of n e

  abbrev pub many : Key → List E → ℕ
  many k run = count_by (under k) run

  -- what was seen begins the run, and all entries that the seat has the right to were seen; session numbers are below
  -- 2 ^ 62
  pub record IsViewOf (run : List E) (v : View E) : Type 0 where
    pub seen : IsPrefix v.seen run
    pub told : IsPrefix v.told run
    pub covers : (k : Key) → Owns v k → many k v.seen ≡ many k run
    pub apart : NoneLentIsOwn v
    pub below : (n : ℕ) → Owns v (session n) → n < 2 ^ 62

  -- one legal run, which each word counts on its slot and each view begins. No two seats have one right, and a number that
  -- none can have has no commits
  pub record IsRunOf (words : List ℕ) (views : List (View E)) (run : List E) : Type 0 where
    pub legal : IsLegal may run
    pub long : length words ≡ 64
    pub counts : (i : ℕ) → i < 64 → slice_index words i ≡ many (slot i) run
    pub fits : (j : ℕ) (v : View E) → get_elem? views j ≡ some v → IsViewOf run v
    pub apart : (j k : ℕ) (v w : View E) (key : Key) → get_elem? views j ≡ some v → get_elem? views k ≡ some w
        → Owns v key → Owns w key → j ≡ k
    pub unused : (n : ℕ) → 2 ^ 62 ≤ n → many (session n) run ≡ 0

  abbrev pub HasRun : State E (View E) → Type 0
  HasRun s = (run : List E) × IsRunOf s.words s.views run

  -- what is then seen is legal, begins with all that was seen and told, and has no more entries that the seat has the
  -- right to
  pub record Goes (v : View E) (run : List E) : Type 0 where
    pub legal : IsLegal may run
    pub seen : IsPrefix v.seen run
    pub told : IsPrefix v.told run
    pub covers : (k : Key) → Owns v k → many k run ≡ many k v.seen

  -- the run was seen as it is
  abbrev pub Looks : Step E → Me E (View E) → ℕ → Me E (View E) → Type 0
  Looks s m found n =
      (run : List E) × (n ≡ (seeing m.0 run, m.1)) × Goes m.0 run × (found ≡ many (slot s.word) run)

  -- the longer of what was seen and what was told
  abbrev pub Settles : Step E → Me E (View E) → ℕ → Me E (View E) → Type 0
  Settles s m found n =
      (run : List E) × (n ≡ (seeing m.0 run, m.1)) × Goes m.0 run × ((run ≡ m.0.seen) ⊎ (run ≡ m.0.told))
      × (Owns m.0 (slot s.word) → found ≡ many (slot s.word) run) × NoneLentIsOwn m.0

  -- the entry came next after a run that begins with what was seen
  abbrev pub Appends : Step E → Me E (View E) → ℕ → Me E (View E) → Type 0
  Appends s m found n =
      (run : List E) × (e : E) × (s.said ≡ some e) × (n ≡ (seeing m.0 (run ++ e ∷ []), m.1)) × Goes m.0 run
      × IsLegal may (run ++ e ∷ [])

  -- what was told has no more entries that the seat has the right to than what it has seen, and no commit of a number that
  -- none can have; one begins the other
  pub record IsCovered (v : View E) : Type 0 where
    pub either : (IsPrefix v.seen v.told) ⊎ (IsPrefix v.told v.seen)
    pub covers : (k : Key) → Owns v k → many k v.told ≤ many k v.seen
    pub unused : (n : ℕ) → 2 ^ 62 ≤ n → many (session n) v.told ≡ 0

  -- what was told was compared with what was seen, and put away
  abbrev pub Compares : Step E → Me E (View E) → ℕ → Me E (View E) → Type 0
  Compares s m found n = (n ≡ (record m.0 { told = [] }, m.1)) × IsCovered m.0
