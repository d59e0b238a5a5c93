-- Places in their turn, and rows of which all is shown.
use Rattle.std.proofs.Common.{◌≡◌, ℕ, ◌+◌, ◌<◌, ◌≤◌, length-append, zero, suc, List, [], ◌∷◌, ◌++◌, length, map, take, get_or, refl, sym, ap, ◌∙◌, arith}
use Rattle.std.specs.List.{range_with_len}
use Rattle.std.proofs.lemmas.List.{take_more, take-append-le, length-take-le}
use Rattle.std.proofs.lemmas.List.FromFn.{fill_by_all}
use Rattle.vt_value.specs.Values.{Row, value_at}
use Rattle.vt_value.specs.declared.value.Value.TheVariants.{Null}
use Rattle.operators.specs.Slices.{columns_of}

one_more : (a n j : ℕ) → a + n ≡ j → range_with_len a (suc n) ≡ range_with_len a n ++ j ∷ []
one_more a zero j e = let same : a ≡ j = omega arith in ap (λ k. k ∷ []) same
one_more a (suc n) j e = ap (λ l. a ∷ l) (one_more (a + 1) n j (omega arith))

pub next_in_turn : (ordinals : List ℕ) (n : ℕ) → n < length ordinals → get_or ordinals n 0 ≡ n → take n ordinals ≡ range_with_len 0 n
    → take (n + 1) ordinals ≡ range_with_len 0 (n + 1)
next_in_turn ordinals n there is so_far =
    let on : n + 1 ≡ suc n = omega arith in
    take_more ordinals n 0 there ∙ ap (λ l. l ++ get_or ordinals n 0 ∷ []) so_far ∙ ap (λ (k : ℕ). range_with_len 0 n ++ k ∷ []) is
    ∙ sym (one_more 0 n n (omega arith)) ∙ ap (range_with_len 0) (sym on)

pub shown_whole : (ordinals : List ℕ) (row : Row) (n : ℕ) → n ≡ length row → length ordinals ≡ n → ordinals ≡ range_with_len 0 (length ordinals)
    → columns_of ordinals row ≡ row
shown_whole ordinals row n long same in_turn =
    ap (λ (l : List ℕ). map (value_at row) l) (in_turn ∙ ap (range_with_len 0) (same ∙ long))
    ∙ sym (fill_by_all (value_at row) row (length row) Null refl (λ k less. refl))

at_front : (row : Row) (n k : ℕ) → k < length (take n row) → value_at row k ≡ get_or (take n row) k Null
at_front [] zero k h = absurd (omega (arith, h))
at_front [] (suc n) k h = absurd (omega (arith, h))
at_front (v ∷ row) zero k h = absurd (omega (arith, h))
at_front (v ∷ row) (suc n) zero h = refl
at_front (v ∷ row) (suc n) (suc k) h = at_front row n k (omega (arith, h))

-- the first values of a row
pub shown_first : (ordinals : List ℕ) (row : Row) → length ordinals ≤ length row → ordinals ≡ range_with_len 0 (length ordinals)
    → columns_of ordinals row ≡ take (length ordinals) row
shown_first ordinals row less in_turn =
    let n = length ordinals in
    let long : n ≡ length (take n row) = sym (length-take-le n row less) in
    ap (λ (l : List ℕ). map (value_at row) l) (in_turn ∙ ap (range_with_len 0) long)
    ∙ sym (fill_by_all (value_at row) (take n row) (length (take n row)) Null refl (λ k within. sym (at_front row n k within)))

pub take_all : {X : Type 0} (n : ℕ) (xs : List X) → length xs ≤ n → take n xs ≡ xs
take_all zero [] h = refl
take_all zero (x ∷ xs) h = absurd (omega (arith, h))
take_all (suc n) [] h = refl
take_all (suc n) (x ∷ xs) h = ap (λ l. x ∷ l) (take_all n xs (omega (arith, h)))

-- one value less, after the first n
pub still_first : {X : Type 0} (n : ℕ) (old new all : List X) (last : X) → old ≡ new ++ last ∷ [] → n < length old → take n old ≡ take n all → take n new ≡ take n all
still_first n old new all last is more so_far =
    let long = ap length is in
    sym (take-append-le n new (last ∷ []) (omega (arith, more, long, length-append new (last ∷ [])))) ∙ ap (take n) (sym is) ∙ so_far
