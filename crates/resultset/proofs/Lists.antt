-- Payloads are read one after another.
use Rattle.std.proofs.Common.{◌≡◌, ℕ, zero, suc, ◌+◌, ◌<◌, List, [], ◌∷◌, ◌++◌, length, map, get_or, take, refl, ap, sym, subst, ◌∙◌, arith}
use Rattle.std.specs.List.{AllByRecursion}
use Rattle.std.proofs.lemmas.List.{take_more, length-map, length-append, get_or-map}
use Rattle.std.proofs.lemmas.List.Elements.{All-from_recursion}
use Rattle.resultset.specs.declared.unread.Unread.{Unread}
use Rattle.resultset.specs.inner.Reading.{IsMemory}

-- Where the payloads are those of values, the first of these values are read.
pub record ReadSoFar {X : Type 0} (P : X → Type 0) (write : X → List ℕ) (payloads : List (List ℕ)) (i : ℕ) (read : List X) : Type 0 where
  pub len : length read ≡ i
  pub again : (xs : List X) → AllByRecursion P xs → payloads ≡ map write xs → read ≡ take i xs

-- an element that there is
at : {X : Type 0} (xs : List X) (i : ℕ) → i < length xs → (x : X) × (x ≡ get_or xs i x)
at [] i lt = absurd (omega arith)
at (x ∷ xs) zero lt = (x, refl)
at (x ∷ xs) (suc i) lt = let r = at xs i (omega arith) in (r.0, r.1)

module _ {X : Type 0} (P : X → Type 0) (write : X → List ℕ) (payloads : List (List ℕ)) (i : ℕ) (read : List X) where
  -- the value of the payload at this place
  value_of : (payload : List ℕ) (xs : List X) → i < length payloads → payload ≡ get_or payloads i payload → AllByRecursion P xs → payloads ≡ map write xs
      → (y : X) × (i < length xs) × (y ≡ get_or xs i y) × P y × (payload ≡ write y)
  value_of payload xs lt is all e =
      let lt' : i < length xs = omega (arith, lt, ap length e, length-map xs write) in
      let r = at xs i lt' in (
        r.0,
        lt',
        r.1,
        subst P (sym r.1) (All-from_recursion P xs all i r.0 lt'),
        is ∙ ap (λ (ps : List (List ℕ)). get_or ps i payload) e ∙ get_or-map write xs i r.0 payload lt' ∙ ap write (sym r.1),
      )

  pub reads_next : (x : X) (payload : List ℕ) → ReadSoFar P write payloads i read → i < length payloads → payload ≡ get_or payloads i payload
      → ((y : X) → P y → payload ≡ write y → x ≡ y) → ReadSoFar P write payloads (i + 1) (read ++ x ∷ [])
  reads_next x payload so_far lt is again = record {
    len = omega (arith, length-append read (x ∷ []), so_far.len);
    again = λ xs all e.
        let v = value_of payload xs lt is all e in
        ap (λ (l : List X). l ++ x ∷ []) (so_far.again xs all e) ∙ ap (λ (y : X). take i xs ++ y ∷ []) (again v.0 v.3 v.4 ∙ v.2) ∙ sym (take_more xs i v.0 v.1);
  }

  pub no_next : (e : Unread) (payload : List ℕ) → i < length payloads → payload ≡ get_or payloads i payload → ((y : X) → P y → payload ≡ write y → IsMemory e)
      → (xs : List X) → AllByRecursion P xs → payloads ≡ map write xs → IsMemory e
  no_next e payload lt is none xs all written = let v = value_of payload xs lt is all written in none v.0 v.3 v.4

pub all_push : {X : Type 0} (P : X → Type 0) (xs : List X) (x : X) → AllByRecursion P xs → P x → AllByRecursion P (xs ++ x ∷ [])
all_push P [] x all p = (p, tt)
all_push P (y ∷ xs) x all p = (all.0, all_push P xs x all.1 p)
