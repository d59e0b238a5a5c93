-- The splits and joins that the crate makes keep the rule.
use Rattle.std.proofs.Common.{◌≡◌, ◌≤◌, ◌⊎◌, ℕ, ◌<◌, List, [], ◌∷◌, length, Option, refl, inl, inr, ⊎_elim, arith}
use mathlib.Core.List.{IsPrefix}
use Rattle.atomic_table.specs.Table.{State, Splits, Joins}
use Rattle.journal.specs.declared.rule.View.{View}
use Rattle.journal.specs.Rules.{Key, slot, session, Owns, NoneLentIsOwn, holding, without_held, held_of, knower, noted, look_noted}
use Rattle.journal.specs.Rules.{hears, hears_looks, without_sessions, sessions_of, borrows, returns}
use Rattle.journal.specs.Rules.{later_sessions, first_session, later_slots, first_slot, HasRun}
use Rattle.journal.proofs.Fronts.{prefix_self}
use Rattle.journal.proofs.Keeps.{knower_owns, knower_apart, splits, joins}

-- none in an empty range
none_in : (n : ℕ) → (0 ≤ n) × (n < 0) → ⊥
none_in n x = omega (arith, x.1)

module _ {E : Type 0} where
  hears_owns : (v w : View E) (k : Key) → Owns (hears v w) k → Owns v k
  hears_owns v w (slot i) o = o
  hears_owns v w (session n) o = o

  hears_looks_owns : (v w : View E) (k : Key) → Owns (hears_looks v w) k → Owns v k
  hears_looks_owns v w (slot i) o = o
  hears_looks_owns v w (session n) o = o

  no_held : (v : View E) → v.held_end ≡ 0 → NoneLentIsOwn v
  no_held v e n a b = omega (arith, b.1, e)

  borrows_owns : (v w : View E) → IsPrefix w.seen v.seen → (k : Key) → Owns (borrows v w) k → (Owns v k) ⊎ (Owns w k × IsPrefix w.seen v.seen)
  borrows_owns v w p (slot i) o = inl o
  borrows_owns v w p (session n) o = ⊎_elim (λ x. inr (inl x, p)) (λ x. absurd (none_in n x)) o

  holding_owns : (v w : View E) → IsPrefix w.seen v.seen → (k : Key) → Owns (holding v w) k → (Owns v k) ⊎ (Owns w k × IsPrefix w.seen v.seen)
  holding_owns v w p (slot i) o = inl o
  holding_owns v w p (session n) o = ⊎_elim (λ x. inl (inl x)) (λ x. inr (inl x, p)) o

  holding_apart : (v w : View E) → ((k : Key) → Owns v k → Owns w k → ⊥) → NoneLentIsOwn (holding v w)
  holding_apart v w two n a b = two (session n) (inl a) (inl b)

  returns_owns : (v w : View E) (k : Key) → Owns (returns v w) k → (Owns v k) ⊎ (Owns w k × IsPrefix w.seen w.seen)
  returns_owns v w (slot i) o = inl o
  returns_owns v w (session n) o = ⊎_elim (λ x. inr (inl x, prefix_self w.seen)) (λ x. absurd (none_in n x)) o

  without_less : (v : View E) (k : Key) → Owns (without_sessions v) k → Owns v k
  without_less v (slot i) o = o
  without_less v (session n) o = absurd (⊎_elim (λ x. none_in n x) (λ x. none_in n x) o)

  sessions_less : (v : View E) (k : Key) → Owns (sessions_of v) k → Owns v k
  sessions_less v (slot i) o = absurd (omega (arith, o.1))
  sessions_less v (session n) o = ⊎_elim (λ x. inl x) (λ x. absurd (none_in n x)) o

  lent_apart : (v : View E) (k : Key) → Owns (without_sessions v) k → Owns (sessions_of v) k → ⊥
  lent_apart v (slot i) o p = omega (arith, p.1)
  lent_apart v (session n) o p = ⊎_elim (λ x. none_in n x) (λ x. none_in n x) o

  without_held_less : (v : View E) (k : Key) → Owns (without_held v) k → Owns v k
  without_held_less v (slot i) o = o
  without_held_less v (session n) o = ⊎_elim (λ x. inl x) (λ x. absurd (none_in n x)) o

  held_less : (v : View E) (k : Key) → Owns (held_of v) k → Owns v k
  held_less v (slot i) o = absurd (omega (arith, o.1))
  held_less v (session n) o = ⊎_elim (λ x. inr x) (λ x. absurd (none_in n x)) o

  held_apart : (v : View E) → NoneLentIsOwn v → (k : Key) → Owns (without_held v) k → Owns (held_of v) k → ⊥
  held_apart v apart (slot i) o p = omega (arith, p.1)
  held_apart v apart (session n) o p = ⊎_elim (λ x. ⊎_elim (λ y. apart n x y) (λ y. none_in n y) p) (λ x. none_in n x) o

  later_less : (v : View E) (k : Key) → Owns (later_sessions v) k → Owns v k
  later_less v (slot i) o = o
  later_less v (session n) o = ⊎_elim (λ x. inl (omega (arith, x.0), x.1)) (λ x. absurd (none_in n x)) o

  first_less : (v : View E) → v.session_from < v.session_end → (k : Key) → Owns (first_session v) k → Owns v k
  first_less v some_left (slot i) o = absurd (omega (arith, o.1))
  first_less v some_left (session n) o = ⊎_elim (λ x. inl (x.0, omega (arith, x.1, some_left))) (λ x. absurd (none_in n x)) o

  numbers_apart : (v : View E) (k : Key) → Owns (later_sessions v) k → Owns (first_session v) k → ⊥
  numbers_apart v (slot i) o p = omega (arith, p.1)
  numbers_apart v (session n) o p = ⊎_elim (λ x. ⊎_elim (λ y. absurd (omega (arith, x.0, y.1))) (λ y. none_in n y) p) (λ x. none_in n x) o

  later_slots_less : (v : View E) (k : Key) → Owns (later_slots v) k → Owns v k
  later_slots_less v (slot i) o = (omega (arith, o.0), o.1)
  later_slots_less v (session n) o = ⊎_elim (λ x. inl x) (λ x. absurd (none_in n x)) o

  first_slot_less : (v : View E) → v.slot_from < v.slot_end → (k : Key) → Owns (first_slot v) k → Owns v k
  first_slot_less v some_left (slot i) o = (o.0, omega (arith, o.1, some_left))
  first_slot_less v some_left (session n) o = absurd (⊎_elim (λ x. none_in n x) (λ x. none_in n x) o)

  slots_apart : (v : View E) (k : Key) → Owns (later_slots v) k → Owns (first_slot v) k → ⊥
  slots_apart v (slot i) o p = omega (arith, o.0, p.1)
  slots_apart v (session n) o p = ⊎_elim (λ x. none_in n x) (λ x. none_in n x) p

module _ {E : Type 0} (slot_of : E → ℕ) (commit_of : E → Option (ℕ × ℕ)) (may : List E → E → Type 0) where
  abbrev Holds : State E (View E) → Type 0
  Holds = HasRun slot_of commit_of may

  pub notes : (id : ℕ) (v : View E) → Splits Holds id v v (noted v)
  notes id v =
      splits slot_of commit_of may id v v (noted v) refl refl refl refl (λ _ o. o) (λ k o. absurd (knower_owns {E = E} v.seen [] k o))
      (λ k _ o. knower_owns {E = E} v.seen [] k o) (λ a. a) (knower_apart {E = E} v.seen [])

  pub look_notes : (id : ℕ) (v : View E) → Splits Holds id v v (look_noted v)
  look_notes id v =
      let looks : List (ℕ × ℕ) = (v.slot_from, length v.seen) ∷ [] in
      splits slot_of commit_of may id v v (look_noted v) refl refl refl refl (λ _ o. o) (λ k o. absurd (knower_owns {E = E} v.seen looks k o))
      (λ k _ o. knower_owns {E = E} v.seen looks k o) (λ a. a) (knower_apart {E = E} v.seen looks)

  pub tells : (id : ℕ) (v : View E) (other : ℕ) (w : View E) → Joins Holds id v other w (hears v w) (knower [] [])
  tells id v other w = joins slot_of commit_of may id v other w (hears v w) (inl refl) (prefix_self v.seen) (inr refl) (λ k o. inl (hears_owns v w k o)) (λ a _. a)

  pub tells_looks : (id : ℕ) (v : View E) (other : ℕ) (w : View E) → Joins Holds id v other w (hears_looks v w) (knower [] [])
  tells_looks id v other w =
      joins slot_of commit_of may id v other w (hears_looks v w) (inl refl) (prefix_self v.seen) (inr refl) (λ k o. inl (hears_looks_owns v w k o)) (λ a _. a)

  pub lends : (id : ℕ) (v : View E) → Splits Holds id v (without_sessions v) (sessions_of v)
  lends id v =
      splits slot_of commit_of may id v (without_sessions v) (sessions_of v) refl refl refl refl (without_less v) (sessions_less v) (lent_apart v)
      (λ _. no_held (without_sessions v) refl) (no_held (sessions_of v) refl)

  pub borrowed : (id : ℕ) (v : View E) (other : ℕ) (w : View E) → IsPrefix w.seen v.seen → Joins Holds id v other w (borrows v w) (knower [] [])
  borrowed id v other w p =
      joins slot_of commit_of may id v other w (borrows v w) (inl refl) (prefix_self v.seen) (inl refl) (borrows_owns v w p) (λ _ _. no_held (borrows v w) refl)

  pub held : (id : ℕ) (v : View E) (other : ℕ) (w : View E) → IsPrefix w.seen v.seen → Joins Holds id v other w (holding v w) (knower [] [])
  held id v other w p =
      joins slot_of commit_of may id v other w (holding v w) (inl refl) (prefix_self v.seen) (inl refl) (holding_owns v w p) (λ _ two. holding_apart v w two)

  pub lets_go : (id : ℕ) (v : View E) → NoneLentIsOwn v → Splits Holds id v (without_held v) (held_of v)
  lets_go id v apart =
      splits slot_of commit_of may id v (without_held v) (held_of v) refl refl refl refl (without_held_less v) (held_less v) (held_apart v apart)
      (λ _. no_held (without_held v) refl) (no_held (held_of v) refl)

  pub returned : (id : ℕ) (v : View E) (other : ℕ) (w : View E) → IsPrefix v.seen w.seen → Joins Holds id v other w (returns v w) (knower [] [])
  returned id v other w p = joins slot_of commit_of may id v other w (returns v w) (inr refl) p (inl refl) (returns_owns v w) (λ _ _. no_held (returns v w) refl)

  pub opens : (id : ℕ) (v : View E) → v.session_from < v.session_end → Splits Holds id v (later_sessions v) (first_session v)
  opens id v left =
      splits slot_of commit_of may id v (later_sessions v) (first_session v) refl refl refl refl (later_less v) (first_less v left) (numbers_apart v)
      (λ _. no_held (later_sessions v) refl) (no_held (first_session v) refl)

  pub deals : (id : ℕ) (v : View E) → v.slot_from < v.slot_end → Splits Holds id v (later_slots v) (first_slot v)
  deals id v left =
      splits slot_of commit_of may id v (later_slots v) (first_slot v) refl refl refl refl (later_slots_less v) (first_slot_less v left)
      (slots_apart v) (λ _. no_held (later_slots v) refl) (no_held (first_slot v) refl)
