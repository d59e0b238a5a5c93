-- The modes of sources and targets tell how far a cutover is, in one way.
use Rattle.std.proofs.Common.{◌≡◌, ◌⊎◌, ℕ, zero, suc, ◌+◌, ◌-◌, ◌<◌, ◌≤◌, List, [], ◌∷◌, ◌++◌, length, take, drop, get_or, replicate, refl, subst, sym, ap, ◌∙◌, inl, inr, arith, length-append}
use Rattle.std.specs.Prelude.{MatchOption, Option}
use Rattle.std.proofs.lemmas.List.{append-nil, length-replicate, take-append-drop}
use Rattle.shard_run.specs.declared.Mode.{Mode}
use Rattle.shard_run.specs.declared.Mode.TheVariants.{Following, Serving, Frozen, Retired}
use Rattle.reshard_create.specs.reopening.Rebuilt.{IsCutoverProgress}
use Rattle.reshard_create.specs.reopening.inner.Leading.{IsLed}

abbrev without_first : {X : Type 0} → List X → List X
without_first [] = []
without_first (x ∷ xs) = xs

-- two lists that begin with the item as often as can be
alike : {X : Type 0} (x : X) (a b : ℕ) (xs ys : List X) → replicate a x ++ xs ≡ replicate b x ++ ys → ((t : List X) → xs ≡ x ∷ t → ⊥)
    → ((t : List X) → ys ≡ x ∷ t → ⊥) → (a ≡ b) × (xs ≡ ys)
alike x zero zero xs ys e p q = (refl, e)
alike x zero (suc b) xs ys e p q = absurd (p (replicate b x ++ ys) e)
alike x (suc a) zero xs ys e p q = absurd (q (replicate a x ++ xs) (sym e))
alike x (suc a) (suc b) xs ys e p q = let w = alike x a b xs ys (ap without_first e) p q in (ap suc w.0, w.1)

not_retired : (h s : ℕ) (t : List Mode) → replicate h Frozen ++ replicate s Serving ≡ Retired ∷ t → ⊥
not_retired zero zero t e = absurd (cc e)
not_retired zero (suc s) t e = absurd (cc e)
not_retired (suc h) s t e = absurd (cc e)

not_frozen : (s : ℕ) (t : List Mode) → replicate s Serving ≡ Frozen ∷ t → ⊥
not_frozen zero t e = absurd (cc e)
not_frozen (suc s) t e = absurd (cc e)

not_serving : (f : ℕ) (t : List Mode) → replicate f Following ≡ Serving ∷ t → ⊥
not_serving zero t e = absurd (cc e)
not_serving (suc f) t e = absurd (cc e)

nothing : {X : Type 0} (x : X) (t : List X) → [] ≡ x ∷ t → ⊥
nothing x t e = absurd (cc e)

head_at : {X : Type 0} (xs : List X) (n : ℕ) (x y : X) → n < length xs → y ≡ get_or xs n y → (t : List X) → drop n xs ≡ x ∷ t → y ≡ x
head_at [] n x y there is t e = absurd (omega (arith, there))
head_at (z ∷ xs) zero x y there is t e = let h : z ≡ x = cc e in is ∙ h
head_at (z ∷ xs) (suc n) x y there is t e = head_at xs n x y (omega (arith, there)) is t e

-- the first that is another item ends those
pub led_here : {X : Type 0} (xs : List X) (x y : X) (n : ℕ) → take n xs ≡ replicate n x → n < length xs → y ≡ get_or xs n y → (y ≡ x → ⊥) → IsLed xs x n (drop n xs)
led_here xs x y n so_far there is differs = record {
  is = sym (take-append-drop n xs) ∙ ap (λ l. l ++ drop n xs) so_far;
  other = λ t e. differs (head_at xs n x y there is t e);
}

none_after : {X : Type 0} (xs : List X) (n : ℕ) → length xs ≤ n → drop n xs ≡ []
none_after [] zero l = refl
none_after [] (suc n) l = refl
none_after (x ∷ xs) zero l = absurd (omega (arith, l))
none_after (x ∷ xs) (suc n) l = none_after xs n (omega (arith, l))

-- or there is none
pub led_all : {X : Type 0} (xs : List X) (x : X) (n : ℕ) → take n xs ≡ replicate n x → length xs ≤ n → IsLed xs x n (drop n xs)
led_all xs x n so_far l = record {
  is = sym (take-append-drop n xs) ∙ ap (λ l. l ++ drop n xs) so_far;
  other = λ t e. let h : [] ≡ x ∷ t = sym (none_after xs n l) ∙ e in absurd (cc h);
}

led_length : (xs : List Mode) (m : Mode) (n : ℕ) (rest : List Mode) → IsLed xs m n rest → length xs ≡ n + length rest
led_length xs m n rest is = ap length is.is ∙ length-append (replicate n m) rest ∙ ap (λ (k : ℕ). k + length rest) (length-replicate n m)

module _ (sources targets : List Mode) (r h s v f : ℕ) (d1 d2 d3 e1 e2 : List Mode) (a : IsLed sources Retired r d1) (b : IsLed d1 Frozen h d2)
    (c : IsLed d2 Serving s d3) (t : IsLed targets Serving v e1) (u : IsLed e1 Following f e2) where
  pub left : d3 ≡ [] → length d1 ≡ h + s
  left none =
      let y = led_length d1 Frozen h d2 b in
      let z = led_length d2 Serving s d3 c in
      let n = ap length none in
      omega (arith, y, z, n)

  pub counted : d3 ≡ [] → length sources ≡ r + h + s
  counted none =
      let x = led_length sources Retired r d1 a in
      let y = left none in
      omega (arith, x, y)

  -- what the numbers must be
  record Are (frozen retired served held serving : ℕ) : Type 0 where
    retired_is : retired ≡ r
    held_is : held ≡ h
    serving_is : serving ≡ s
    none : d3 ≡ []
    served_is : served ≡ v
    no_more : e2 ≡ []

  are : (frozen retired served : ℕ) → (is : IsCutoverProgress sources targets frozen retired served) → Are frozen retired served is.held is.serving
  are frozen retired served is =
      let one = alike Retired retired r (replicate is.held Frozen ++ replicate is.serving Serving) d1 (sym is.of_sources ∙ a.is) (not_retired is.held is.serving) a.other in
      let two = alike Frozen is.held h (replicate is.serving Serving) d2 (one.1 ∙ b.is) (not_frozen is.serving) b.other in
      let three = alike Serving is.serving s [] d3 (append-nil (replicate is.serving Serving) ∙ two.1 ∙ c.is) (nothing Serving) c.other in
      let four = alike Serving served v (replicate is.following Following) e1 (sym is.of_targets ∙ t.is) (not_serving is.following) t.other in
      let five = alike Following is.following f [] e2 (append-nil (replicate is.following Following) ∙ four.1 ∙ u.is) (nothing Following) u.other in
      record { retired_is = one.0; held_is = two.0; serving_is = three.0; none = sym three.1; served_is = four.0; no_more = sym five.1 }

  -- some shard is in a mode that it can't be in
  pub other_source : (d3 ≡ [] → ⊥) → (frozen retired served : ℕ) → IsCutoverProgress sources targets frozen retired served → ⊥
  other_source n frozen retired served is = n (are frozen retired served is).none

  pub other_target : (e2 ≡ [] → ⊥) → (frozen retired served : ℕ) → IsCutoverProgress sources targets frozen retired served → ⊥
  other_target n frozen retired served is = n (are frozen retired served is).no_more

  -- one was retired before all were frozen
  pub unfrozen : (r ≡ 0 → ⊥) → (s ≡ 0 → ⊥) → (frozen retired served : ℕ) → IsCutoverProgress sources targets frozen retired served → ⊥
  unfrozen n m frozen retired served is = by is.frozen_first
    where
      by : (retired ≡ 0) ⊎ (is.serving ≡ 0) → ⊥
      by (inl e) = n (sym (are frozen retired served is).retired_is ∙ e)
      by (inr e) = m (sym (are frozen retired served is).serving_is ∙ e)

  -- a target served before all were retired
  pub unretired : d3 ≡ [] → (v ≡ 0 → ⊥) → (length d1 ≡ 0 → ⊥) → (frozen retired served : ℕ) → IsCutoverProgress sources targets frozen retired served → ⊥
  unretired none n m frozen retired served is = by is.retired_first
    where
      by : (served ≡ 0) ⊎ (is.held + is.serving ≡ 0) → ⊥
      by (inl e) = n (sym (are frozen retired served is).served_is ∙ e)
      by (inr e) =
          let x = (are frozen retired served is).held_is in
          let y = (are frozen retired served is).serving_is in
          let w = left none in
          m (omega (arith, e, x, y, w))

  pub is_progress : d3 ≡ [] → e2 ≡ [] → (r ≡ 0) ⊎ (s ≡ 0) → (v ≡ 0) ⊎ (h + s ≡ 0) → (frozen : ℕ) → frozen ≡ r + h → IsCutoverProgress sources targets frozen r v
  is_progress none no_more first then frozen is = record {
    held = h;
    serving = s;
    following = f;
    of_sources =
        a.is ∙ ap (λ l. replicate r Retired ++ l) (b.is ∙ ap (λ l. replicate h Frozen ++ l) (c.is ∙ ap (λ l. replicate s Serving ++ l) none
        ∙ append-nil (replicate s Serving)));
    of_targets = t.is ∙ ap (λ l. replicate v Serving ++ l) (u.is ∙ ap (λ l. replicate f Following ++ l) no_more ∙ append-nil (replicate f Following));
    all_frozen = is;
    frozen_first = first;
    retired_first = then;
  }

-- ---- as the code counts them

module _ (sources targets : List Mode) (r h s v f : ℕ) (u1 u2 t1 : List Mode) (is1 : u1 ≡ drop r sources) (is2 : u2 ≡ drop h u1) (is3 : t1 ≡ drop v targets)
    (a : IsLed sources Retired r (drop r sources)) (b : IsLed u1 Frozen h (drop h u1)) (c : IsLed u2 Serving s (drop s u2))
    (t : IsLed targets Serving v (drop v targets)) (u : IsLed t1 Following f (drop f t1)) where
  a1 : IsLed sources Retired r u1
  a1 = subst (IsLed sources Retired r) (sym is1) a

  b1 : IsLed u1 Frozen h u2
  b1 = subst (IsLed u1 Frozen h) (sym is2) b

  v1 : IsLed targets Serving v t1
  v1 = subst (IsLed targets Serving v) (sym is3) t

  all_of : (xs : List Mode) (m : Mode) (n : ℕ) (rest : List Mode) → IsLed xs m n rest → rest ≡ [] → n ≡ length xs
  all_of xs m n rest is none =
      let x = led_length xs m n rest is in
      let y = ap length none in
      omega (arith, x, y)

  none : s ≡ length u2 → drop s u2 ≡ []
  none all = none_after u2 s (omega (arith, all))

  pub counts_other : (s ≡ length u2 → ⊥) → (frozen retired served : ℕ) → IsCutoverProgress sources targets frozen retired served → ⊥
  counts_other n = other_source sources targets r h s v f u1 u2 (drop s u2) t1 (drop f t1) a1 b1 c v1 u (λ e. n (all_of u2 Serving s (drop s u2) c e))

  pub counts_other_target : (f ≡ length t1 → ⊥) → (frozen retired served : ℕ) → IsCutoverProgress sources targets frozen retired served → ⊥
  counts_other_target n = other_target sources targets r h s v f u1 u2 (drop s u2) t1 (drop f t1) a1 b1 c v1 u (λ e. n (all_of t1 Following f (drop f t1) u e))

  pub counts_unfrozen : (r ≡ 0 → ⊥) × (s ≡ 0 → ⊥) → (frozen retired served : ℕ) → IsCutoverProgress sources targets frozen retired served → ⊥
  counts_unfrozen n = unfrozen sources targets r h s v f u1 u2 (drop s u2) t1 (drop f t1) a1 b1 c v1 u n.0 n.1

  pub counts_unretired : s ≡ length u2 → (v ≡ 0 → ⊥) × (length u1 ≡ 0 → ⊥) → (frozen retired served : ℕ) → IsCutoverProgress sources targets frozen retired served → ⊥
  counts_unretired all n = unretired sources targets r h s v f u1 u2 (drop s u2) t1 (drop f t1) a1 b1 c v1 u (none all) n.0 n.1

  pub counts : s ≡ length u2 → f ≡ length t1 → (r ≡ 0) ⊎ (s ≡ 0) → (v ≡ 0) ⊎ (length u1 ≡ 0) → (frozen : ℕ) → frozen ≡ length sources - s
      → IsCutoverProgress sources targets frozen r v
  counts all all' first then frozen is =
      let x = counted sources targets r h s v f u1 u2 (drop s u2) t1 (drop f t1) a1 b1 c v1 u (none all) in
      let y = left sources targets r h s v f u1 u2 (drop s u2) t1 (drop f t1) a1 b1 c v1 u (none all) in
      is_progress sources targets r h s v f u1 u2 (drop s u2) t1 (drop f t1) a1 b1 c v1 u (none all) (none_after t1 f (omega (arith, all')))
      first (by y then) frozen (omega (arith, is, x))
    where
      by : length u1 ≡ h + s → (v ≡ 0) ⊎ (length u1 ≡ 0) → (v ≡ 0) ⊎ (h + s ≡ 0)
      by y (inl e) = inl e
      by y (inr e) = inr (sym y ∙ e)

-- ---- seen through a map

pub same_progress : {X : Type 0} (f r s : X → ℕ) (o : Option X) (a a' b b' : List Mode) → a ≡ a' → b ≡ b'
    → MatchOption o ((frozen retired served : ℕ) → IsCutoverProgress a b frozen retired served → ⊥) (λ x. IsCutoverProgress a b (f x) (r x) (s x))
    → MatchOption o ((frozen retired served : ℕ) → IsCutoverProgress a' b' frozen retired served → ⊥) (λ x. IsCutoverProgress a' b' (f x) (r x) (s x))
same_progress f r s o a a' b b' e e' h =
    subst (λ (l : List Mode). MatchOption o ((frozen retired served : ℕ) → IsCutoverProgress l b' frozen retired served → ⊥) (λ x. IsCutoverProgress l b' (f x) (r x) (s x))) e
    (subst (λ (l : List Mode). MatchOption o ((frozen retired served : ℕ) → IsCutoverProgress a l frozen retired served → ⊥) (λ x. IsCutoverProgress a l (f x) (r x) (s x))) e' h)

pub progress_of_modes : (a a' b b' : List Mode) (frozen retired served : ℕ) → a ≡ a' → b ≡ b' → IsCutoverProgress a b frozen retired served
    → IsCutoverProgress a' b' frozen retired served
progress_of_modes a a' b b' frozen retired served e e' h =
    subst (λ (l : List Mode). IsCutoverProgress l b' frozen retired served) e (subst (λ (l : List Mode). IsCutoverProgress a l frozen retired served) e' h)
