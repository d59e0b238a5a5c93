-- Lists: the first element that passes a test, and shards that are numbered.
use Rattle.std.proofs.Common.{◌≡◌, ◌≢◌, ℕ, zero, suc, ◌+◌, ◌<◌, ◌≤◌, Bool, true, false, not, cond, ◌==◌, List, [], ◌∷◌, ◌++◌, length, get_or, slice_get, filter, map, AllPairs, Option, Some, None, refl, sym, ap, ◌∙◌, arith}
use Rattle.std.specs.List.{AllByRecursion}
use Rattle.vschema.specs.Schema.{ordinal_from}

same_ordinal : (a b : ℕ) → Some a ≡ Some b → a ≡ b
same_ordinal a b e = ap or e
  where
    or : Option ℕ → ℕ
    or None = a
    or (Some z) = z

module _ {X : Type 0} where
  pub passing : (p : X → Bool) (k : ℕ) (x : X) (xs : List X) → slice_get xs k ≡ Some x → p x ≡ true → 1 ≤ length (filter p xs)
  passing p k x [] e t = absurd (cc e)
  passing p zero x (y ∷ xs) e t = by (p y) (ap p (some_is e) ∙ t)
    where
      or : Option X → X
      or None = y
      or (Some z) = z

      some_is : Some y ≡ Some x → y ≡ x
      some_is e = ap or e

      by : (b : Bool) → b ≡ true → 1 ≤ length (cond b (y ∷ filter p xs) (filter p xs))
      by true i = omega arith
      by false i = absurd (cc i)
  passing p (suc k) x (y ∷ xs) e t = by (p y) (passing p k x xs e t)
    where
      by : (b : Bool) → 1 ≤ length (filter p xs) → 1 ≤ length (cond b (y ∷ filter p xs) (filter p xs))
      by true h = omega arith
      by false h = h

  -- the only element that passes is the first
  pub ordinal_only : (p : X → Bool) (n k : ℕ) (x : X) (xs : List X) → slice_get xs k ≡ Some x → p x ≡ true → length (filter p xs) ≤ 1
      → ordinal_from p n xs ≡ Some (n + k)
  ordinal_only p n k x [] e t l = absurd (cc e)
  ordinal_only p n zero x (y ∷ xs) e t l = by (p y) (ap p (some_is e) ∙ t)
    where
      or : Option X → X
      or None = y
      or (Some z) = z

      some_is : Some y ≡ Some x → y ≡ x
      some_is e = ap or e

      same : n ≡ n + zero
      same = omega arith

      by : (b : Bool) → b ≡ true → cond b (Some n) (ordinal_from p (n + 1) xs) ≡ Some (n + zero)
      by true i = ap Some same
      by false i = absurd (cc i)
  ordinal_only p n (suc k) x (y ∷ xs) e t l = by (p y) l (passing p k x xs e t) (λ m. ordinal_only p (n + 1) k x xs e t m)
    where
      next : (n + 1) + k ≡ n + suc k
      next = omega arith

      by : (b : Bool) → length (cond b (y ∷ filter p xs) (filter p xs)) ≤ 1 → 1 ≤ length (filter p xs)
          → (length (filter p xs) ≤ 1 → ordinal_from p (n + 1) xs ≡ Some ((n + 1) + k))
          → cond b (Some n) (ordinal_from p (n + 1) xs) ≡ Some (n + suc k)
      by true l m f = absurd (omega (arith, l, m))
      by false l m f = f l ∙ ap Some next

  -- what is found is there, and passes
  pub record Placed (p : X → Bool) (n : ℕ) (xs : List X) (ordinal : ℕ) : Type 0 where
    pub k : ℕ
    pub x : X
    pub is : ordinal ≡ n + k
    pub there : slice_get xs k ≡ Some x
    pub passes : p x ≡ true

  pub placed : (p : X → Bool) (n : ℕ) (xs : List X) (ordinal : ℕ) → ordinal_from p n xs ≡ Some ordinal → Placed p n xs ordinal
  placed p n [] ordinal e = absurd (cc e)
  placed p n (x ∷ xs) ordinal e = by (p x) refl e (placed p (n + 1) xs ordinal)
    where
      by : (b : Bool) → p x ≡ b → cond b (Some n) (ordinal_from p (n + 1) xs) ≡ Some ordinal
          → (ordinal_from p (n + 1) xs ≡ Some ordinal → Placed p (n + 1) xs ordinal) → Placed p n (x ∷ xs) ordinal
      by true t e f =
          let i : n ≡ ordinal = same_ordinal n ordinal e in
          record { k = zero; x = x; is = omega (arith, i); there = refl; passes = t }
      by false t e f =
          let g = f e in
          let i = g.is in
          record { k = suc g.k; x = g.x; is = omega (arith, i); there = g.there; passes = g.passes }

  pub all-append : (P : X → Type 0) (xs ys : List X) → AllByRecursion P xs → AllByRecursion P ys → AllByRecursion P (xs ++ ys)
  all-append P [] ys h g = g
  all-append P (x ∷ xs) ys h g = (h.0, all-append P xs ys h.1 g)

  -- numbers that rise by one
  abbrev pub Numbered : (X → ℕ) → ℕ → List X → Type 0
  Numbered f n [] = Unit {0}
  Numbered f n (x ∷ xs) = (f x ≡ n) × Numbered f (n + 1) xs

  pub numbered-append : (f : X → ℕ) (n : ℕ) (xs ys : List X) → Numbered f n xs → Numbered f (n + length xs) ys → Numbered f n (xs ++ ys)
  numbered-append f n [] ys h g = let k : n + 0 ≡ n = omega arith in rw k at g
  numbered-append f n (x ∷ xs) ys h g =
      let k : n + suc (length xs) ≡ (n + 1) + length xs = omega arith in
      (h.0, numbered-append f (n + 1) xs ys h.1 (Rattle.std.proofs.Common.subst (λ m. Numbered f m ys) k g))

  numbered-at : (f : X → ℕ) (n : ℕ) (xs : List X) → Numbered f n xs → (i : ℕ) (d : X) → i < length xs → f (get_or xs i d) ≡ n + i
  numbered-at f n [] h i d l = absurd (omega (arith, l))
  numbered-at f n (x ∷ xs) h zero d l = let e = h.0 in omega (arith, e)
  numbered-at f n (x ∷ xs) h (suc i) d l = let e = numbered-at f (n + 1) xs h.1 i d (omega (arith, l)) in omega (arith, e)

  pub numbered-apart : (f : X → ℕ) (xs : List X) → Numbered f 0 xs → AllPairs (λ a b. f a ≢ f b) xs
  numbered-apart f xs h i j d l within e =
      let a = numbered-at f 0 xs h i d (omega (arith, l, within)) in
      let b = numbered-at f 0 xs h j d within in
      absurd (omega (arith, a, b, e, l))

  pub numbered-below : (f : X → ℕ) (n : ℕ) (xs : List X) → Numbered f n xs → AllByRecursion (λ x. f x < n + length xs) xs
  numbered-below f n [] h = tt
  numbered-below f n (x ∷ xs) h =
      let e = h.0 in
      (omega (arith, e), weaker xs (numbered-below f (n + 1) xs h.1))
    where
      weaker : (ys : List X) → AllByRecursion (λ y. f y < (n + 1) + length xs) ys → AllByRecursion (λ y. f y < n + suc (length xs)) ys
      weaker [] g = tt
      weaker (y ∷ ys) g = (let a = g.0 in omega (arith, a), weaker ys g.1)
