-- Elements that are counted by a test, and ids that ranges hold.
use Rattle.std.proofs.Common.{◌≡◌, ℕ, zero, suc, ◌+◌, ◌<◌, ◌≤◌, Bool, true, false, not, cond, List, [], ◌∷◌, ◌++◌, length, filter, map, count_by, get_or, refl, ap, ◌∙◌, inl, inr, arith}
use Rattle.std.proofs.lemmas.List.Sums.{sum_by-cons}
use Rattle.keyrange.specs.declared.KeyRange.{KeyRange}
use Rattle.keyrange.specs.Ranges.{has_id, IsByteString}
use Rattle.shard_law.proofs.Lists.{In}
use Rattle.reshard_create.specs.split.Choices.{HoldTheSame}

module _ {X : Type 0} (p : X → Bool) where
  pub counted-cons : (x : X) (xs : List X) → count_by p (x ∷ xs) ≡ cond (p x) 1 0 + count_by p xs
  counted-cons x xs = sum_by-cons (λ x. cond (p x) 1 0) x xs

  pub counted-append : (xs ys : List X) → count_by p (xs ++ ys) ≡ count_by p xs + count_by p ys
  counted-append [] ys = omega arith
  counted-append (x ∷ xs) ys =
      let h = counted-cons x (xs ++ ys) in
      let k = counted-cons x xs in
      let rest = counted-append xs ys in
      omega (arith, h, k, rest)

  -- one that passes is counted, and where one is counted, one passes
  pub counted-among : (x : X) (xs : List X) → In x xs → p x ≡ true → 1 ≤ count_by p xs
  counted-among x [] h passes = absurd h
  counted-among x (y ∷ xs) (inl e) passes =
      let h = counted-cons y xs in
      let k : cond {A = ℕ} (p y) 1 0 ≡ 1 = ap (λ b. cond {A = ℕ} b 1 0) (ap p e ∙ passes) in
      omega (arith, h, k)
  counted-among x (y ∷ xs) (inr m) passes =
      let h = counted-cons y xs in
      let rest = counted-among x xs m passes in
      omega (arith, h, rest)

  counted-at : (xs : List X) (j : ℕ) (d : X) → j < length xs → p (get_or xs j d) ≡ true → 1 ≤ count_by p xs
  counted-at [] j d within passes = absurd (omega (arith, within))
  counted-at (x ∷ xs) zero d within passes =
      let h = counted-cons x xs in
      let k : cond {A = ℕ} (p x) 1 0 ≡ 1 = simp passes in
      omega (arith, h, k)
  counted-at (x ∷ xs) (suc j) d within passes =
      let h = counted-cons x xs in
      let rest = counted-at xs j d (omega (arith, within)) passes in
      omega (arith, h, rest)

  pub among-counted : (xs : List X) → 1 ≤ count_by p xs → (x : X) × In x xs × (p x ≡ true)
  among-counted [] some = absurd (omega (arith, some))
  among-counted (x ∷ xs) some = by (λ h. among-counted xs h) (p x) refl
    where
      by : (1 ≤ count_by p xs → (y : X) × In y xs × (p y ≡ true)) → (b : Bool) → p x ≡ b → (y : X) × In y (x ∷ xs) × (p y ≡ true)
      by rest true e = (x, inl refl, e)
      by rest false e =
          let h = counted-cons x xs in
          let k : cond {A = ℕ} (p x) 1 0 ≡ 0 = ap (λ b. cond {A = ℕ} b 1 0) e in
          let w = rest (omega (arith, h, k, some)) in
          (w.0, inr w.1, w.2)

  -- and two are counted twice
  pub counted-twice : (xs : List X) (i j : ℕ) (d : X) → i < j → j < length xs → p (get_or xs i d) ≡ true → p (get_or xs j d) ≡ true → 2 ≤ count_by p xs
  counted-twice [] i j d before within one other = absurd (omega (arith, within))
  counted-twice (x ∷ xs) i zero d before within one other = absurd (omega (arith, before))
  counted-twice (x ∷ xs) zero (suc j) d before within one other =
      let h = counted-cons x xs in
      let k : cond {A = ℕ} (p x) 1 0 ≡ 1 = simp one in
      let rest = counted-at xs j d (omega (arith, within)) other in
      omega (arith, h, k, rest)
  counted-twice (x ∷ xs) (suc i) (suc j) d before within one other =
      let h = counted-cons x xs in
      let rest = counted-twice xs i j d (omega (arith, before)) (omega (arith, within)) one other in
      omega (arith, h, rest)

  -- those that pass another test and those that don't
  pub counted-apart : (c : X → Bool) (xs : List X) → count_by p xs ≡ count_by p (filter c xs) + count_by p (filter (λ x. not (c x)) xs)
  counted-apart c [] = omega arith
  counted-apart c (x ∷ xs) = by (c x) (counted-apart c xs)
    where
      by : (b : Bool) → count_by p xs ≡ count_by p (filter c xs) + count_by p (filter (λ x. not (c x)) xs)
          → count_by p (x ∷ xs) ≡ count_by p (cond b (x ∷ filter c xs) (filter c xs)) + count_by p (cond (not b) (x ∷ filter (λ x. not (c x)) xs) (filter (λ x. not (c x)) xs))
      by true rest =
          let h = counted-cons x xs in
          let k = counted-cons x (filter c xs) in
          omega (arith, h, k, rest)
      by false rest =
          let h = counted-cons x xs in
          let k = counted-cons x (filter (λ x. not (c x)) xs) in
          omega (arith, h, k, rest)

pub counted-map : {X Y : Type 0} (p : Y → Bool) (f : X → Y) (xs : List X) → count_by p (map f xs) ≡ count_by (λ x. p (f x)) xs
counted-map p f [] = refl
counted-map p f (x ∷ xs) =
    let h = counted-cons p (f x) (map f xs) in
    let k = counted-cons (λ x. p (f x)) x xs in
    let rest = counted-map p f xs in
    omega (arith, h, k, rest)

-- an id of the one lies in one of the others
pub held_too : (a b : List KeyRange) → HoldTheSame a b → (id : List ℕ) → IsByteString id → (r : KeyRange) → In r a → has_id r id ≡ true
    → (s : KeyRange) × In s b × (has_id s id ≡ true)
held_too a b same id bytes r among lies =
    let h = counted-among (λ r. has_id r id) r a among lies in
    let k = same id bytes in
    among-counted (λ r. has_id r id) b (omega (arith, h, k))
