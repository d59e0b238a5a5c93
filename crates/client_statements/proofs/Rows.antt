-- The rows of LIKE: each of one more piece is made of the one before.
use Rattle.std.proofs.Common.{◌≡◌, ℕ, suc, ◌+◌, ◌<◌, Bool, true, false, List, [], ◌∷◌, ◌++◌, length, drop, get_or, refl, sym, ap, ◌∙◌, arith, add-one, drop-cons}
use Rattle.std.specs.Prelude.{replicate}
use Rattle.client_statements.specs.declared.likes.Piece.{Piece}
use Rattle.client_statements.specs.Likes.{fits_step, like_fits}
use Rattle.client_statements.specs.inner.Rows.{row_of, onto_row, next_row}

-- the row of one more piece, whatever is next
onto_rows : (p : Piece) (c : ℕ) (x : Bool) (ps : List Piece) (text : List ℕ)
    → onto_row p c x (row_of ps text) (row_of (p ∷ ps) text) ≡ fits_step p c x (like_fits (p ∷ ps) text) (like_fits ps text) ∷ row_of (p ∷ ps) text
onto_rows p c x ps [] = refl
onto_rows p c x ps (d ∷ text) = refl

pub row_next : (p : Piece) (ps : List Piece) (text : List ℕ) → next_row p text (row_of ps text) ≡ row_of (p ∷ ps) text
row_next p ps [] = refl
row_next p ps (c ∷ text) = ap (onto_row p c (like_fits ps (c ∷ text)) (row_of ps text)) (row_next p ps text) ∙ onto_rows p c (like_fits ps (c ∷ text)) ps text

pub row_size : (ps : List Piece) (text : List ℕ) → length (row_of ps text) ≡ suc (length text)
row_size ps [] = refl
row_size ps (c ∷ text) = ap suc (row_size ps text)

pub row_last : (text : List ℕ) → replicate (length text) false ++ true ∷ [] ≡ row_of [] text
row_last [] = refl
row_last (c ∷ text) = ap (λ (xs : List Bool). false ∷ xs) (row_last text)

pub row_first : (ps : List Piece) (text : List ℕ) → get_or (row_of ps text) 0 false ≡ like_fits ps text
row_first ps [] = refl
row_first ps (c ∷ text) = refl

-- what the loop makes at a place of what it made at the next one
pub row_step : (p : Piece) (text : List ℕ) (old row : List Bool) (a : ℕ) → a < length text → length old ≡ suc (length text)
    → length row ≡ suc (length text) → drop (a + 1) row ≡ next_row p (drop (a + 1) text) (drop (a + 1) old)
    → fits_step p (get_or text a 0) (get_or old a false) (get_or row (a + 1) false) (get_or old (a + 1) false) ∷ drop (a + 1) row
    ≡ next_row p (drop a text) (drop a old)
row_step p text old row a here old_size sized made =
    let c = get_or text a 0 in
    let x = get_or old a false in
    let y = get_or old (suc a) false in
    let z = get_or row (suc a) false in
    let text_cut : drop a text ≡ c ∷ drop (suc a) text = drop-cons text a 0 here in
    let old_cut : drop a old ≡ x ∷ drop (suc a) old = drop-cons old a false (omega arith) in
    let old_more : drop (suc a) old ≡ y ∷ drop (suc (suc a)) old = drop-cons old (suc a) false (omega arith) in
    let row_more : drop (suc a) row ≡ z ∷ drop (suc (suc a)) row = drop-cons row (suc a) false (omega arith) in
    let made_here : drop (suc a) row ≡ next_row p (drop (suc a) text) (drop (suc a) old) = simp add-one at made in
    let whole : next_row p (drop a text) (drop a old) ≡ onto_row p c x (drop (suc a) old) (drop (suc a) row) = rw (text_cut, old_cut, ← made_here) refl in
    let last : onto_row p c x (drop (suc a) old) (drop (suc a) row) ≡ fits_step p c x z y ∷ drop (suc a) row = rw (old_more, row_more) refl in
    simp add-one (sym (whole ∙ last))
