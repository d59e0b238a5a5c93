-- Lists of rows: without a row, and lists that have the same of each key.
use Rattle.std.proofs.Common.{◌≡◌, Bool, true, false, cond, List, [], ◌∷◌, ◌++◌, filter, IsPermutation, Decides, refl, sym, ap, ◌∙◌, subst}
use Rattle.std.proofs.lemmas.Bool.{false≢true}
use Rattle.std.proofs.lemmas.List.Elements.{filter-append}
use Rattle.std.proofs.lemmas.List.Sorted.{IsPermutation-refl, IsPermutation-sym, IsPermutation-cons, IsPermutation-trans, IsPermutation-middle}
use Rattle.std.proofs.lemmas.Map.Lookups.{exact_bytes, exact_signed}
use Rattle.std.specs.Cmp.{Equal-is}
use Rattle.std.specs.Cmp.Lexicographic.{slice_cmp}
use Rattle.std.specs.Ordering.{is_eq, ordering_then, nat_cmp, int_cmp}
use Rattle.std.specs.declared.cmp.Ordering.{Ordering}
use Rattle.std.specs.declared.cmp.Ordering.TheVariants.{Less, Equal, Greater}
use Rattle.vt_value.specs.declared.value.Value.{Value}
use Rattle.vt_value.specs.declared.value.Value.TheVariants.{Null, Int, Bytes}
use Rattle.vt_value.specs.Values.{Row, value_cmp}
use Rattle.sql_eval.specs.Database.{same_row, without}

both-equal : (a b : Ordering) → is_eq (ordering_then a b) ≡ true → (is_eq a ≡ true) × (is_eq b ≡ true)
both-equal Less b e = absurd (false≢true e)
both-equal Equal b e = (refl, e)
both-equal Greater b e = absurd (false≢true e)

value_is : (a b : Value) → is_eq (value_cmp a b) ≡ true → a ≡ b
value_is Null Null e = refl
value_is Null (Int n) e = absurd (false≢true e)
value_is Null (Bytes t) e = absurd (false≢true e)
value_is (Int m) Null e = absurd (false≢true e)
value_is (Int m) (Int n) e = ap Int (exact_signed m n ((Equal-is (int_cmp m n)).0 e))
value_is (Int m) (Bytes t) e = absurd (false≢true e)
value_is (Bytes s) Null e = absurd (false≢true e)
value_is (Bytes s) (Int n) e = absurd (false≢true e)
value_is (Bytes s) (Bytes t) e = ap Bytes (exact_bytes s t ((Equal-is (slice_cmp nat_cmp s t)).0 e))

-- a row that is the same is equal
pub row_is : (a b : Row) → same_row a b ≡ true → a ≡ b
row_is [] [] e = refl
row_is [] (y ∷ b) e = absurd (false≢true e)
row_is (x ∷ a) [] e = absurd (false≢true e)
row_is (x ∷ a) (y ∷ b) e =
    let h = both-equal (value_cmp x y) (slice_cmp value_cmp a b) e in
    ap (λ z. z ∷ a) (value_is x y h.0) ∙ ap (λ z. y ∷ z) (row_is a b h.1)

-- a test that the row passes
pub filter-without_in : (p : Row → Bool) (r : Row) → p r ≡ true → (xs : List Row) → filter p (without r xs) ≡ without r (filter p xs)
filter-without_in p r passed [] = refl
filter-without_in p r passed (x ∷ xs) = by (filter-without_in p r passed xs) (same_row r x) refl (p x) refl
  where
    by : filter p (without r xs) ≡ without r (filter p xs) → (s : Bool) → same_row r x ≡ s → (b : Bool) → p x ≡ b
        → filter p (cond (same_row r x) xs (x ∷ without r xs)) ≡ without r (cond (p x) (x ∷ filter p xs) (filter p xs))
    by ih true e true f = simp (e, f)
    by ih true e false f = absurd (false≢true (sym f ∙ (ap p (sym (row_is r x e)) ∙ passed)))
    by ih false e true f = simp (e, f, ih)
    by ih false e false f = simp (e, f, ih)

-- a test that it does not pass
pub filter-without_out : (p : Row → Bool) (r : Row) → p r ≡ false → (xs : List Row) → filter p (without r xs) ≡ filter p xs
filter-without_out p r failed [] = refl
filter-without_out p r failed (x ∷ xs) = by (filter-without_out p r failed xs) (same_row r x) refl (p x) refl
  where
    by : filter p (without r xs) ≡ filter p xs → (s : Bool) → same_row r x ≡ s → (b : Bool) → p x ≡ b
        → filter p (cond (same_row r x) xs (x ∷ without r xs)) ≡ cond (p x) (x ∷ filter p xs) (filter p xs)
    by ih true e true f = absurd (false≢true (sym failed ∙ (ap p (row_is r x e) ∙ f)))
    by ih true e false f = simp (e, f)
    by ih false e true f = simp (e, f, ih)
    by ih false e false f = simp (e, f, ih)

head_or : {X : Type 0} → X → List X → X
head_or d [] = d
head_or d (x ∷ xs) = x

tail : {X : Type 0} → List X → List X
tail [] = []
tail (x ∷ xs) = xs

pub head_is : {X : Type 0} {x y : X} {xs ys : List X} → x ∷ xs ≡ y ∷ ys → x ≡ y
unfolding head_or
head_is {X} {x} e = ap (head_or x) e

pub tail_is : {X : Type 0} {x y : X} {xs ys : List X} → x ∷ xs ≡ y ∷ ys → xs ≡ ys
unfolding tail
tail_is e = ap tail e

pub nil_is : {X : Type 0} {P : Type 0} {x : X} {xs : List X} → [] ≡ x ∷ xs → P
nil_is e = absurd (cc e)

module _ {X K : Type 0} (key : X → K) (E : K → K → Bool) (decides : (a b : K) → Decides (E a b) (a ≡ b)) where
  -- the elements of a key
  abbrev of_key : K → List X → List X
  of_key k xs = filter (λ x. E (key x) k) xs

  record Split (k : K) (a : X) (rest ys : List X) : Type 0 where
    front : List X
    back : List X
    is : ys ≡ front ++ a ∷ back
    none : of_key k front ≡ []
    later : of_key k back ≡ rest

  split : (k : K) (a : X) (rest ys : List X) → of_key k ys ≡ a ∷ rest → Split k a rest ys
  split k a rest [] e = nil_is e
  split k a rest (y ∷ ys) e = by (split k a rest ys) (E (key y) k) refl
    where
      by : (of_key k ys ≡ a ∷ rest → Split k a rest ys) → (b : Bool) → E (key y) k ≡ b → Split k a rest (y ∷ ys)
      by ih true t =
          let f : y ∷ of_key k ys ≡ a ∷ rest = rw t at e in
          record { front = []; back = ys; is = ap (λ z. z ∷ ys) (head_is f); none = refl; later = tail_is f }
      by ih false t =
          let f : of_key k ys ≡ a ∷ rest = rw t at e in
          let s = ih f in
          record { front = y ∷ s.front; back = s.back; is = ap (λ z. y ∷ z) s.is; none = simp (t, s.none); later = s.later }

  module _ (a : X) (xs ys : List X) (h : (k : K) → of_key k (a ∷ xs) ≡ of_key k ys) where
    here : of_key (key a) ys ≡ a ∷ of_key (key a) xs
    here =
        let t = (decides (key a) (key a)).1 refl in
        let g = h (key a) in
        let f : a ∷ of_key (key a) xs ≡ of_key (key a) ys = rw t at g in
        sym f

    abbrev cut : Split (key a) a (of_key (key a) xs) ys
    cut = split (key a) a (of_key (key a) xs) ys here

    others : (k : K) (b : Bool) → E (key a) k ≡ b → of_key k xs ≡ of_key k cut.front ++ of_key k cut.back
    others k true t =
        let e : key a ≡ k = (decides (key a) k).0 t in
        let f : of_key (key a) xs ≡ of_key (key a) cut.front ++ of_key (key a) cut.back = simp (cut.none, cut.later) in
        subst (λ k. of_key k xs ≡ of_key k cut.front ++ of_key k cut.back) e f
    others k false t =
        let g = h k in
        let f : of_key k xs ≡ of_key k ys = rw t at g in
        let f : of_key k xs ≡ of_key k (cut.front ++ a ∷ cut.back) = f ∙ ap (of_key k) cut.is in
        f ∙ (filter-append (λ x. E (key x) k) cut.front (a ∷ cut.back) ∙ simp t)

    same : (k : K) → of_key k xs ≡ of_key k (cut.front ++ cut.back)
    same k = others k (E (key a) k) refl ∙ sym (filter-append (λ x. E (key x) k) cut.front cut.back)

  -- lists with the same elements of each key, in the same order, are one bag
  pub permutation_by_key : (xs ys : List X) → ((k : K) → of_key k xs ≡ of_key k ys) → IsPermutation xs ys
  permutation_by_key [] [] h = IsPermutation-refl []
  permutation_by_key [] (y ∷ ys) h =
      let t = (decides (key y) (key y)).1 refl in
      let g = h (key y) in
      let f : [] ≡ y ∷ of_key (key y) ys = rw t at g in
      nil_is f
  permutation_by_key (a ∷ xs) ys h =
      let s = cut a xs ys h in
      let e = s.is in
      rw e (IsPermutation-trans (a ∷ xs) (a ∷ (s.front ++ s.back)) (s.front ++ a ∷ s.back)
      (IsPermutation-cons a xs (s.front ++ s.back) (permutation_by_key xs (s.front ++ s.back) (same a xs ys h)))
      (IsPermutation-sym (s.front ++ a ∷ s.back) (a ∷ (s.front ++ s.back)) (IsPermutation-middle s.front a s.back)))
