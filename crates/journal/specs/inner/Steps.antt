-- What the steps of a word tell to the seats and passes that take part in them.
use Rattle.std.specs.Prelude.{◌≡◌, ℕ, ◌+◌, ◌<◌, ◌≤◌, ◌⊎◌, ◌∷◌, ◌++◌, true, List, [], Option, length}
use mathlib.Core.Option.{none}
use mathlib.Core.List.{IsPrefix}
use Rattle.atomic_table.specs.Table.{Me, step}
use Rattle.journal.specs.declared.rule.View.{View}
use Rattle.journal.specs.Runs.{IsLegal, by_session}
use Rattle.journal.specs.Rules.{Key, Owns, Goes, Settles, Looks, opening_view, under, seeing, many, slot}

module _ {E : Type 0} where
  -- the slots before i were dealt
  abbrev pub dealing_view : ℕ → View E
  dealing_view i = record opening_view { slot_from = i }

  -- the view, which has seen the run with one look more
  abbrev pub looking : View E → ℕ → List E → View E
  looking v i run = record v { seen = run; told = []; looks = v.looks ++ (i, length run) ∷ [] }

  abbrev pub NoneHeld : View E → Type 0
  NoneHeld v = (v.held_from ≡ 0) × (v.held_end ≡ 0)

  -- nothing was told or lent to it
  pub record IsPlain (v : View E) : Type 0 where
    pub told : v.told ≡ []
    pub no_held : (v.held_from ≡ 0) × (v.held_end ≡ 0)

  -- no session is of both
  abbrev pub NoCommon : View E → View E → Type 0
  NoCommon v w = (n : ℕ) → (v.session_from ≤ n) × (n < v.session_end) → (w.session_from ≤ n) × (n < w.session_end) → ⊥

module _ {E : Type 0} (slot_of : E → ℕ) (commit_of : E → Option (ℕ × ℕ)) (may : List E → E → Type 0) where
  -- a legal run that begins with what was seen, and has no more entries that the seat has the right to
  pub record Grows (v : View E) (run : List E) : Type 0 where
    pub legal : IsLegal may run
    pub seen : IsPrefix v.seen run
    pub covers : (k : Key) → Owns v k → many slot_of commit_of may k run ≡ many slot_of commit_of may k v.seen

  -- what a load that settles tells
  abbrev pub settled : ℕ → Me E (View E) → ℕ → Me E (View E) → Type 0
  settled i m found n = Settles slot_of commit_of may (step 0 i 0 0 none) m found n

  abbrev pub looked : ℕ → Me E (View E) → ℕ → Me E (View E) → Type 0
  looked i m found n = Looks slot_of commit_of may (step 0 i 0 0 none) m found n

  -- two seats have seen one run, the longer of what they had seen
  abbrev pub Agrees : Me E (View E) → Me E (View E) → Me E (View E) → Me E (View E) → Type 0
  Agrees a b a' b' =
      (run : List E) × (a' ≡ (seeing a.0 run, a.1)) × (b' ≡ (seeing b.0 run, b.1))
      × Grows a.0 run × Grows b.0 run
      × ((run ≡ a.0.seen) ⊎ (run ≡ b.0.seen))

  -- both have seen the run as it is, and the second has one look more
  abbrev pub LooksBoth : ℕ → Me E (View E) → Me E (View E) → ℕ → Me E (View E) → Me E (View E) → Type 0
  LooksBoth i a b found a' b' =
      (run : List E) × (a' ≡ (seeing a.0 run, a.1)) × (b' ≡ (looking b.0 a.0.slot_from run, b.1))
      × Grows a.0 run × Grows b.0 run
      × (found ≡ many slot_of commit_of may (slot i) run)

  -- both have seen a run that ends with the entry
  abbrev pub AppendsBoth : E → Me E (View E) → Me E (View E) → Me E (View E) → Me E (View E) → Type 0
  AppendsBoth e a b a' b' =
      (run : List E) × (a' ≡ (seeing a.0 (run ++ e ∷ []), a.1)) × (b' ≡ (seeing b.0 (run ++ e ∷ []), b.1))
      × Grows a.0 run × Grows b.0 run × IsLegal may (run ++ e ∷ [])

  -- the seat has this one slot, and the pass no slot and the entry's session
  pub record IsEntitled (i : ℕ) (e : E) (a b : View E) : Type 0 where
    pub slots : (a.slot_from ≡ i) × (a.slot_end ≡ i + 1)
    pub no_session : (a.session_from ≡ 0) × (a.session_end ≡ 0)
    pub no_held : (a.held_from ≡ 0) × (a.held_end ≡ 0)
    pub no_slot : (b.slot_from ≡ 0) × (b.slot_end ≡ 0)
    pub none_held : (b.held_from ≡ 0) × (b.held_end ≡ 0)
    pub here : slot_of e ≡ i
    pub session : (n : ℕ) → by_session commit_of n e ≡ true → (b.session_from ≤ n) × (n < b.session_end)
    pub lawful : (run : List E) → Grows a run → Grows b run → may run e

  -- the entry is on the slot, the seat has the right to it, and it may come next
  pub record MayPut (i : ℕ) (e : E) (v : View E) : Type 0 where
    pub told : v.told ≡ []
    pub right : Owns v (slot i)
    pub here : slot_of e ≡ i
    pub entitled : (k : Key) → under slot_of commit_of may k e ≡ true → Owns v k
    pub lawful : (run : List E) → Goes slot_of commit_of may v run → may run e

  -- the entry came next
  abbrev pub PutsEntry : E → Me E (View E) → Me E (View E) → Type 0
  PutsEntry e m n =
      (run : List E) × (n ≡ (seeing m.0 (run ++ e ∷ []), m.1)) × Goes slot_of commit_of may m.0 run
      × IsLegal may (run ++ e ∷ [])
