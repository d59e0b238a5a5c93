-- Lists and their elements.
use Rattle.std.proofs.Common.{◌≡◌, ◌⊎◌, ℕ, zero, suc, ◌+◌, ◌<◌, ◌≤◌, Bool, true, false, cond, List, [], ◌∷◌, ◌++◌, length, get_or, filter, map, flat_map, count_by, take, zip, Contains, AllPairs, refl, sym, ap, ◌∙◌, subst, inl, inr, arith, length-append, slice_get, Option, Some, None}
use Rattle.std.specs.List.{list_all, AllByRecursion}
use Rattle.std.proofs.lemmas.Bool.{false≢true, and_parts, cases_order}
use Rattle.std.proofs.lemmas.List.{take-append-le, append-nil, append_assoc, get_or_default}
use Rattle.std.proofs.lemmas.List.Elements.{filter-append}
use Rattle.std.proofs.lemmas.List.Sums.{length-filter}
use Rattle.shard_law.proofs.Rows.{nil_is}

module _ {X : Type 0} where
  -- membership by recursion
  abbrev pub In : X → List X → Type 0
  In x [] = ⊥
  In x (y ∷ ys) = (y ≡ x) ⊎ In x ys

  pub In-from_Contains : (x : X) (xs : List X) → Contains xs x → In x xs
  In-from_Contains x [] h = absurd (omega (arith, h.1))
  In-from_Contains x (y ∷ ys) h = by h.0 h.1 h.2 (In-from_Contains x ys)
    where
      by : (k : ℕ) → k < length (y ∷ ys) → get_or (y ∷ ys) k x ≡ x → (Contains ys x → In x ys) → In x (y ∷ ys)
      by zero l e ih = inl e
      by (suc k) l e ih = inr (ih (k, omega (arith, l), e))

  pub Contains-from_In : (x : X) (xs : List X) → In x xs → Contains xs x
  Contains-from_In x [] h = absurd h
  Contains-from_In x (y ∷ ys) (inl e) = (0, omega arith, e)
  Contains-from_In x (y ∷ ys) (inr h) = let c = Contains-from_In x ys h in (suc c.0, (let l = c.1 in omega (arith, l)), c.2)

  pub In-left : (x : X) (xs ys : List X) → In x xs → In x (xs ++ ys)
  In-left x [] ys h = absurd h
  In-left x (y ∷ xs) ys (inl e) = inl e
  In-left x (y ∷ xs) ys (inr h) = inr (In-left x xs ys h)

  pub In-right : (x : X) (xs ys : List X) → In x ys → In x (xs ++ ys)
  In-right x [] ys h = h
  In-right x (y ∷ xs) ys h = inr (In-right x xs ys h)

  pub In-last : (x : X) (xs : List X) → In x (xs ++ x ∷ [])
  In-last x [] = inl refl
  In-last x (y ∷ xs) = inr (In-last x xs)

  pub In-push : (x y : X) (xs : List X) → In x (xs ++ y ∷ []) → In x xs ⊎ (y ≡ x)
  In-push x y [] (inl e) = inr e
  In-push x y [] (inr h) = absurd h
  In-push x y (z ∷ xs) (inl e) = inl (inl e)
  In-push x y (z ∷ xs) (inr h) = by (In-push x y xs h)
    where
      by : In x xs ⊎ (y ≡ x) → In x (z ∷ xs) ⊎ (y ≡ x)
      by (inl h) = inl (inr h)
      by (inr e) = inr e

  pub In-filter : (p : X → Bool) (x : X) → p x ≡ true → (xs : List X) → In x xs → In x (filter p xs)
  In-filter p x t [] h = absurd h
  In-filter p x t (y ∷ ys) (inl e) = let f : p y ≡ true = ap p e ∙ t in rw f (inl e)
  In-filter p x t (y ∷ ys) (inr h) = by (p y) (In-filter p x t ys h)
    where
      by : (b : Bool) → In x (filter p ys) → In x (cond b (y ∷ filter p ys) (filter p ys))
      by true h = inr h
      by false h = h

  pub In-from_filter : (p : X → Bool) (x : X) (xs : List X) → In x (filter p xs) → In x xs × (p x ≡ true)
  In-from_filter p x [] h = absurd h
  In-from_filter p x (y ∷ ys) h = by (In-from_filter p x ys) (p y) refl h
    where
      by : (In x (filter p ys) → In x ys × (p x ≡ true)) → (b : Bool) → p y ≡ b
          → In x (cond b (y ∷ filter p ys) (filter p ys)) → In x (y ∷ ys) × (p x ≡ true)
      by ih true e (inl f) = (inl f, ap p (sym f) ∙ e)
      by ih true e (inr g) = (inr (ih g).0, (ih g).1)
      by ih false e g = (inr (ih g).0, (ih g).1)

  -- at most one element
  pub only : (x y : X) (xs : List X) → length xs ≤ 1 → In x xs → In y xs → x ≡ y
  only x y [] l h g = absurd h
  only x y (z ∷ []) l (inl e) (inl f) = sym e ∙ f
  only x y (z ∷ []) l (inl e) (inr g) = absurd g
  only x y (z ∷ []) l (inr h) g = absurd h
  only x y (z ∷ w ∷ xs) l h g = absurd (omega (arith, l))

  pub In-all : (P : X → Type 0) (x : X) (xs : List X) → AllByRecursion P xs → In x xs → P x
  In-all P x [] a h = absurd h
  In-all P x (y ∷ ys) a (inl e) = subst P e a.0
  In-all P x (y ∷ ys) a (inr h) = In-all P x ys a.1 h

  pub AllByRecursion-push : (P : X → Type 0) (xs : List X) (x : X) → AllByRecursion P xs → P x → AllByRecursion P (xs ++ x ∷ [])
  AllByRecursion-push P [] x a p = (p, tt)
  AllByRecursion-push P (y ∷ ys) x a p = (a.0, AllByRecursion-push P ys x a.1 p)

  pub slice_get-In : (xs : List X) (k : ℕ) (x : X) → slice_get xs k ≡ Some x → In x xs
  slice_get-In [] k x e = absurd (cc e)
  slice_get-In (y ∷ ys) zero x e = inl (some_is e)
    where
      or : Option X → X
      or None = y
      or (Some z) = z

      some_is : Some y ≡ Some x → y ≡ x
      some_is e = ap or e
  slice_get-In (y ∷ ys) (suc k) x e = inr (slice_get-In ys k x e)

  -- two elements of which neither may stand before the other are one
  pub pair_is : (R : X → X → Type 0) (xs : List X) → AllPairs R xs → (x y : X) → Contains xs x → Contains xs y → (R x y → ⊥) → (R y x → ⊥) → x ≡ y
  pair_is R xs a x y h g n m = by (cases_order h.0 g.0)
    where
      ex : (d : X) → get_or xs h.0 d ≡ x
      ex d = get_or_default xs h.0 d x h.1 ∙ h.2

      ey : (d : X) → get_or xs g.0 d ≡ y
      ey d = get_or_default xs g.0 d y g.1 ∙ g.2

      by : (h.0 ≡ g.0) ⊎ ((h.0 < g.0) ⊎ (g.0 < h.0)) → x ≡ y
      by (inl e) = sym (ex x) ∙ (ap (λ k. get_or xs k x) e ∙ ey x)
      by (inr (inl l)) = absurd (n (subst (λ z. R z y) (ex x) (subst (λ z. R (get_or xs h.0 x) z) (ey x) (a h.0 g.0 x l g.1))))
      by (inr (inr l)) = absurd (m (subst (λ z. R z x) (ey x) (subst (λ z. R (get_or xs g.0 x) z) (ex x) (a g.0 h.0 x l h.1))))

  pub flat_map-push : {A : Type 0} (f : X → List A) (xs : List X) (x : X) → flat_map f (xs ++ x ∷ []) ≡ flat_map f xs ++ f x
  flat_map-push f [] x = append-nil (f x)
  flat_map-push f (y ∷ ys) x = ap (λ z. f y ++ z) (flat_map-push f ys x) ∙ sym (append_assoc (f y) (flat_map f ys) (f x))

  pub count_by-push : (p : X → Bool) (xs : List X) (x : X) → count_by p (xs ++ x ∷ []) ≡ count_by p xs + cond (p x) 1 0
  count_by-push p xs x =
      sym (length-filter p (xs ++ x ∷ [])) ∙ (ap length (filter-append p xs (x ∷ [])) ∙ (length-append (filter p xs) (filter p (x ∷ []))
      ∙ (ap (λ n. n + length (filter p (x ∷ []))) (length-filter p xs) ∙ ap (λ n. count_by p xs + n) (one (p x)))))
    where
      one : (b : Bool) → length (cond b (x ∷ []) []) ≡ cond b 1 0
      one true = refl
      one false = refl

  -- filters one after the other
  pub filter-filter_weaker : (p q : X → Bool) (xs : List X) → AllByRecursion (λ x. q x ≡ true → p x ≡ true) xs → filter q (filter p xs) ≡ filter q xs
  filter-filter_weaker p q [] h = refl
  filter-filter_weaker p q (x ∷ xs) h = by (filter-filter_weaker p q xs h.1) (p x) refl (q x) refl
    where
      by : filter q (filter p xs) ≡ filter q xs → (b : Bool) → p x ≡ b → (c : Bool) → q x ≡ c
          → filter q (cond (p x) (x ∷ filter p xs) (filter p xs)) ≡ cond (q x) (x ∷ filter q xs) (filter q xs)
      by ih true e true f = simp (e, f, ih)
      by ih true e false f = simp (e, f, ih)
      by ih false e true f = absurd (false≢true (sym e ∙ h.0 f))
      by ih false e false f = simp (e, f, ih)

  pub filter-none : (q : X → Bool) (xs : List X) → AllByRecursion (λ x. q x ≡ false) xs → filter q xs ≡ []
  filter-none q [] h = refl
  filter-none q (x ∷ xs) h = let e = h.0 in let f = filter-none q xs h.1 in simp (e, f)

  pub all-from_list_all : (p : X → Bool) (xs : List X) → list_all p xs ≡ true → AllByRecursion (λ x. p x ≡ true) xs
  all-from_list_all p [] e = tt
  all-from_list_all p (x ∷ xs) e = let h = and_parts (p x) (list_all p xs) e in (h.0, all-from_list_all p xs h.1)

  pub all-filter : (P : X → Type 0) (p : X → Bool) (xs : List X) → AllByRecursion P xs → AllByRecursion P (filter p xs)
  all-filter P p [] h = tt
  all-filter P p (x ∷ xs) h = by (p x) (all-filter P p xs h.1)
    where
      by : (b : Bool) → AllByRecursion P (filter p xs) → AllByRecursion P (cond b (x ∷ filter p xs) (filter p xs))
      by true g = (h.0, g)
      by false g = g

  pub all-passed : (p : X → Bool) (xs : List X) → AllByRecursion (λ x. p x ≡ true) (filter p xs)
  all-passed p [] = tt
  all-passed p (x ∷ xs) = by (p x) refl (all-passed p xs)
    where
      by : (b : Bool) → p x ≡ b → AllByRecursion (λ x. p x ≡ true) (filter p xs)
          → AllByRecursion (λ x. p x ≡ true) (cond b (x ∷ filter p xs) (filter p xs))
      by true e g = (e, g)
      by false e g = g

  pub all-weaker : (P Q : X → Type 0) → ((x : X) → P x → Q x) → (xs : List X) → AllByRecursion P xs → AllByRecursion Q xs
  all-weaker P Q f [] h = tt
  all-weaker P Q f (x ∷ xs) h = (f x h.0, all-weaker P Q f xs h.1)

  pub all-append : (P : X → Type 0) (xs ys : List X) → AllByRecursion P xs → AllByRecursion P ys → AllByRecursion P (xs ++ ys)
  all-append P [] ys h g = g
  all-append P (x ∷ xs) ys h g = (h.0, all-append P xs ys h.1 g)

pub In-map : {X Y : Type 0} (f : X → Y) (x : X) (xs : List X) → In x xs → In (f x) (map f xs)
In-map f x [] h = absurd h
In-map f x (y ∷ ys) (inl e) = inl (ap f e)
In-map f x (y ∷ ys) (inr h) = inr (In-map f x ys h)

pub all-flat_map : {X A : Type 0} (P : A → Type 0) (f : X → List A) (xs : List X)
    → AllByRecursion (λ x. AllByRecursion P (f x)) xs → AllByRecursion P (flat_map f xs)
all-flat_map P f [] h = tt
all-flat_map P f (x ∷ xs) h = all-append P (f x) (flat_map f xs) h.0 (all-flat_map P f xs h.1)

pub In-from_map : {X Y : Type 0} (f : X → Y) (y : Y) (xs : List X) → In y (map f xs) → (x : X) × In x xs × (f x ≡ y)
In-from_map f y [] h = absurd h
In-from_map f y (x ∷ xs) (inl e) = (x, inl refl, e)
In-from_map f y (x ∷ xs) (inr h) = let g = In-from_map f y xs h in (g.0, inr g.1, g.2)

module _ {X : Type 0} where
  pub all-each : (P : X → Type 0) → ((x : X) → P x) → (xs : List X) → AllByRecursion P xs
  all-each P f [] = tt
  all-each P f (x ∷ xs) = (f x, all-each P f xs)

  pub all-front : (P : X → Type 0) (xs : List X) (x : X) → AllByRecursion P (xs ++ x ∷ []) → AllByRecursion P xs
  all-front P [] x h = tt
  all-front P (y ∷ ys) x h = (h.0, all-front P ys x h.1)

  pub all-last : (P : X → Type 0) (xs : List X) (x : X) → AllByRecursion P (xs ++ x ∷ []) → P x
  all-last P [] x h = h.0
  all-last P (y ∷ ys) x h = all-last P ys x h.1

  pub append_none : (xs ys : List X) → xs ++ ys ≡ [] → xs ≡ []
  append_none [] ys e = refl
  append_none (x ∷ xs) ys e = nil_is (sym e)

  pub append_none_right : (xs ys : List X) → xs ++ ys ≡ [] → ys ≡ []
  append_none_right [] ys e = e
  append_none_right (x ∷ xs) ys e = nil_is (sym e)

  pub take-next : (xs : List X) (n : ℕ) (x : X) → slice_get xs n ≡ Some x → take (n + 1) xs ≡ take n xs ++ x ∷ []
  take-next [] n x e = absurd (cc e)
  take-next (y ∷ ys) zero x e = ap (λ z. z ∷ []) (some_is e)
    where
      or : Option X → X
      or None = y
      or (Some z) = z

      some_is : Some y ≡ Some x → y ≡ x
      some_is e = ap or e
  take-next (y ∷ ys) (suc n) x e =
      let k : suc n + 1 ≡ suc (n + 1) = omega arith in
      rw k (ap (λ z. y ∷ z) (take-next ys n x e))

  pub take-append_before : (n : ℕ) (xs ys : List X) → n ≤ length xs → take n (xs ++ ys) ≡ take n xs
  take-append_before n xs ys l = take-append-le n xs ys l

pub piece_none : {X A : Type 0} (p : A → Bool) (f : X → List A) (x : X) (xs : List X) → In x xs → filter p (flat_map f xs) ≡ [] → filter p (f x) ≡ []
piece_none p f x [] h e = absurd h
piece_none p f x (y ∷ ys) h e = by h (piece_none p f x ys)
  where
    g : filter p (f y) ++ filter p (flat_map f ys) ≡ []
    g = sym (filter-append p (f y) (flat_map f ys)) ∙ e

    by : (y ≡ x) ⊎ In x ys → (In x ys → filter p (flat_map f ys) ≡ [] → filter p (f x) ≡ []) → filter p (f x) ≡ []
    by (inl i) ih = ap (λ z. filter p (f z)) (sym i) ∙ append_none (filter p (f y)) (filter p (flat_map f ys)) g
    by (inr h) ih = ih h (append_none_right (filter p (f y)) (filter p (flat_map f ys)) g)

pub all-from_In : {X : Type 0} (P : X → Type 0) (xs : List X) → ((x : X) → In x xs → P x) → AllByRecursion P xs
all-from_In P [] f = tt
all-from_In P (x ∷ xs) f = (f x (inl refl), all-from_In P xs (λ y h. f y (inr h)))

-- the partner of an element
pub zip-right : {X Y : Type 0} (xs : List X) (ys : List Y) → length ys ≡ length xs → (y : Y) → In y ys → (x : X) × In (x, y) (zip xs ys)
zip-right [] [] e y h = absurd h
zip-right [] (z ∷ ys) e y h = absurd (omega (arith, e))
zip-right (x ∷ xs) [] e y h = absurd h
zip-right (x ∷ xs) (z ∷ ys) e y (inl i) = (x, inl (ap (λ y. (x, y)) i))
zip-right (x ∷ xs) (z ∷ ys) e y (inr h) = let g = zip-right xs ys (omega (arith, e)) y h in (g.0, inr g.1)

pub zip-left : {X Y : Type 0} (xs : List X) (ys : List Y) → length ys ≡ length xs → (x : X) → In x xs → (y : Y) × In (x, y) (zip xs ys)
zip-left [] ys e x h = absurd h
zip-left (z ∷ xs) [] e x h = absurd (omega (arith, e))
zip-left (z ∷ xs) (y ∷ ys) e x (inl i) = (y, inl (ap (λ x. (x, y)) i))
zip-left (z ∷ xs) (y ∷ ys) e x (inr h) = let g = zip-left xs ys (omega (arith, e)) x h in (g.0, inr g.1)

pub take-all : {X : Type 0} (xs : List X) → take (length xs) xs ≡ xs
take-all [] = refl
take-all (x ∷ xs) = ap (λ z. x ∷ z) (take-all xs)

pub In-zip_left : {X Y : Type 0} (xs : List X) (ys : List Y) (x : X) (y : Y) → In (x, y) (zip xs ys) → In x xs
In-zip_left [] ys x y h = absurd h
In-zip_left (z ∷ xs) [] x y h = absurd h
In-zip_left (z ∷ xs) (w ∷ ys) x y (inl e) = inl (ap (λ p. p.0) e)
In-zip_left (z ∷ xs) (w ∷ ys) x y (inr h) = inr (In-zip_left xs ys x y h)
