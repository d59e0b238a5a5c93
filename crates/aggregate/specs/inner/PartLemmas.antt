-- Parts that are gathered by an operation with a unit keep the laws.
use Rattle.std.proofs.Common.{◌≡◌, ℕ, ◌<◌, List, [], ◌∷◌, ◌++◌, length, get_or, set, Option, Some, None, refl, sym, ap, ◌∙◌, zero, suc, arith}
use Rattle.std.specs.Prelude.{IsPermutation}
use Rattle.std.specs.List.{swap}
use Rattle.std.proofs.lemmas.List.Sorted.{IsPermutation-keeps}
use Rattle.vt_value.specs.declared.value.Value.{Value}
use Rattle.aggregate.specs.Laws.{PartLaws}
use Rattle.aggregate.specs.Parts.{gathered, join_options}

pub record IsCommutativeMonoid {P : Type 0} (op : P → P → P) (nothing : P) : Type 0 where
  pub associative : (p q r : P) → op (op p q) r ≡ op p (op q r)
  pub commutative : (p q : P) → op p q ≡ op q p
  pub unit : (p : P) → op nothing p ≡ p

module _ {P : Type 0} {op : P → P → P} {nothing : P} (monoid : IsCommutativeMonoid op nothing) (one : Value → P) where
  abbrev all : List Value → P
  all = gathered op nothing one

  -- the first two of three change places
  in_turn : (p q r : P) → op p (op q r) ≡ op q (op p r)
  in_turn p q r = sym (monoid.associative p q r) ∙ ap (λ s. op s r) (monoid.commutative p q) ∙ monoid.associative q p r

  splits : (vs ws : List Value) → all (vs ++ ws) ≡ op (all vs) (all ws)
  splits [] ws = sym (monoid.unit (all ws))
  splits (v ∷ vs) ws = ap (op (one v)) (splits vs ws) ∙ sym (monoid.associative (one v) (all vs) (all ws))

  exchanged : (w : Value) (vs : List Value) (j : ℕ) (d : Value) → j < length vs → op (one (get_or vs j d)) (all (set vs j w)) ≡ op (one w) (all vs)
  exchanged w [] j d h = absurd (omega arith)
  exchanged w (v ∷ vs) zero d h = in_turn (one v) (one w) (all vs)
  exchanged w (v ∷ vs) (suc j) d h =
      in_turn (one (get_or vs j d)) (one v) (all (set vs j w)) ∙ ap (op (one v)) (exchanged w vs j d (omega arith)) ∙ in_turn (one v) (one w) (all vs)

  swapped : (vs : List Value) (i j : ℕ) (d : Value) → i < length vs → j < length vs → all (set (set vs i (get_or vs j d)) j (get_or vs i d)) ≡ all vs
  swapped [] i j d p q = absurd (omega arith)
  swapped (v ∷ vs) zero zero d p q = refl
  swapped (v ∷ vs) zero (suc j) d p q = exchanged v vs j d (omega arith)
  swapped (v ∷ vs) (suc i) zero d p q = exchanged v vs i d (omega arith)
  swapped (v ∷ vs) (suc i) (suc j) d p q = ap (op (one v)) (swapped vs i j d (omega arith) (omega arith))

  swap_stays : (vs : List Value) (i j : ℕ) → i < length vs → j < length vs → all (swap vs i j) ≡ all vs
  swap_stays [] i j p q = refl
  swap_stays (v ∷ vs) i j p q = swapped (v ∷ vs) i j v p q

  bag : (vs ws : List Value) → IsPermutation vs ws → all vs ≡ all ws
  bag vs ws = IsPermutation-keeps vs (λ xs. all vs ≡ all xs) refl (λ xs i j p q h. h ∙ sym (swap_stays xs i j p q)) ws

  pub gathered-laws : PartLaws (gathered op nothing one) op
  gathered-laws = record { associative = monoid.associative; commutative = monoid.commutative; unit = monoid.unit; splits = splits; bag = bag }

module _ {X : Type 0} (op : X → X → X) (associative : (a b c : X) → op (op a b) c ≡ op a (op b c)) (commutative : (a b : X) → op a b ≡ op b a) where
  chained : (p q r : Option X) → join_options op (join_options op p q) r ≡ join_options op p (join_options op q r)
  chained None q r = refl
  chained (Some a) None r = refl
  chained (Some a) (Some b) None = refl
  chained (Some a) (Some b) (Some c) = ap Some (associative a b c)

  either_way : (p q : Option X) → join_options op p q ≡ join_options op q p
  either_way None None = refl
  either_way None (Some b) = refl
  either_way (Some a) None = refl
  either_way (Some a) (Some b) = ap Some (commutative a b)

  pub options_monoid : IsCommutativeMonoid (join_options op) None
  options_monoid = record { associative = chained; commutative = either_way; unit = λ p. refl }
