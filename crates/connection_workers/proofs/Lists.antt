-- Lists that begin with a list, and facts of each element.
use Rattle.std.proofs.Common.{◌≡◌, ◌<◌, ◌≤◌, ◌⊎◌, inl, inr, ℕ, Bool, true, false, List, [], ◌∷◌, ◌++◌, length, sym, refl, ap, ◌∙◌, subst, ⊎_elim, append_assoc, arith}
use Rattle.std.specs.Prelude.{nat_le, if◌then◌else◌}
use Rattle.std.proofs.lemmas.List.{append-nil}
use Rattle.std.proofs.lemmas.Bool.Decides.{leb_tells}
use Rattle.connection_workers.specs.Order.{StartsWith, longer, Each}

pub one_more : {A : Type 0} (whole front : List A) (x : A) → StartsWith whole front → StartsWith (whole ++ x ∷ []) front
one_more whole front x s = (s.0 ++ x ∷ [], ap (λ l. l ++ x ∷ []) s.1 ∙ append_assoc front s.0 (x ∷ []))

pub begins_itself : {A : Type 0} (whole : List A) → StartsWith whole whole
begins_itself whole = ([], sym (append-nil whole))

pub begins_through : {A : Type 0} (whole middle front : List A) → StartsWith whole middle → StartsWith middle front → StartsWith whole front
begins_through whole middle front s t = (t.0 ++ s.0, s.1 ∙ ap (λ l. l ++ s.0) t.1 ∙ append_assoc front t.0 s.0)

tail_same : {A : Type 0} (x y : A) (xs ys : List A) → x ∷ xs ≡ y ∷ ys → xs ≡ ys
tail_same x y xs ys e = cc

head_same : {A : Type 0} (x y : A) (xs ys : List A) → x ∷ xs ≡ y ∷ ys → x ≡ y
head_same x y xs ys e = cc

-- of two beginnings of one list, the longer begins with the shorter
shorter_begins : {A : Type 0} (a b r s : List A) → a ++ r ≡ b ++ s → length a ≤ length b → StartsWith b a
shorter_begins [] b r s e short = (b, refl)
shorter_begins (x ∷ a) [] r s e short = absurd (omega arith)
shorter_begins (x ∷ a) (y ∷ b) r s e short =
    let rest = shorter_begins a b r s (tail_same x y (a ++ r) (b ++ s) e) (omega arith) in
    (rest.0, ap (λ z. z ∷ b) (sym (head_same x y (a ++ r) (b ++ s) e)) ∙ ap (λ l. x ∷ l) rest.1)

le_tells : (m n : ℕ) → ((nat_le m n ≡ true) × (m ≤ n)) ⊎ ((nat_le m n ≡ false) × (n ≤ m))
le_tells m n = ⊎_elim (λ (t : (nat_le m n ≡ true) × (m ≤ n)). inl t) (λ (t : (nat_le m n ≡ false) × (n < m)). inr (t.0, omega (arith, t.1))) (leb_tells m n)

pub record IsLonger {A : Type 0} (all a b : List A) : Type 0 where
  pub whole : StartsWith all (longer a b)
  pub left : StartsWith (longer a b) a
  pub right : StartsWith (longer a b) b

pub longer_begins : {A : Type 0} (whole a b : List A) → StartsWith whole a → StartsWith whole b → IsLonger whole a b
longer_begins whole a b s t = ⊎_elim
    (λ (le : (nat_le (length a) (length b) ≡ true) × (length a ≤ length b)).
    let is : longer a b ≡ b = ap (λ (c : Bool). if c then b else a) le.0 in
    record {
      whole = subst (StartsWith whole) (sym is) t;
      left = subst (λ l. StartsWith l a) (sym is) (shorter_begins a b s.0 t.0 (sym s.1 ∙ t.1) le.1);
      right = subst (λ l. StartsWith l b) (sym is) (begins_itself b);
    })
    (λ (le : (nat_le (length a) (length b) ≡ false) × (length b ≤ length a)).
    let is : longer a b ≡ a = ap (λ (c : Bool). if c then b else a) le.0 in
    record {
      whole = subst (StartsWith whole) (sym is) s;
      left = subst (λ l. StartsWith l a) (sym is) (begins_itself a);
      right = subst (λ l. StartsWith l b) (sym is) (shorter_begins b a t.0 s.0 (sym t.1 ∙ s.1) le.1);
    })
    (le_tells (length a) (length b))

pub each_more : {A : Type 0} {P Q R : A → Type 0} → ((x : A) → P x → Q x → R x) → (xs : List A) → Each P xs → Each Q xs → Each R xs
each_more f [] p q = tt
each_more f (x ∷ xs) p q = (f x p.0 q.0, each_more f xs p.1 q.1)

pub each_last : {A : Type 0} (P : A → Type 0) (xs : List A) (x : A) → Each P xs → P x → Each P (xs ++ x ∷ [])
each_last P [] x p last = (last, tt)
each_last P (y ∷ xs) x p last = (p.0, each_last P xs x p.1 last)
