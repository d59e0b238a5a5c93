-- Pieces that are cut off one after another are those of the whole text.
use Rattle.std.proofs.Common.{◌≡◌, ℕ, Bool, true, false, List, [], ◌∷◌, ◌++◌, refl, ap, sym, ◌∙◌, append_assoc, append-nil}
use Rattle.std.specs.Prelude.{if◌then◌else◌}
use Rattle.prepared_statements.specs.declared.cutting.Place.{Place}
use Rattle.prepared_statements.specs.declared.cutting.Place.TheVariants.{Outside}
use Rattle.prepared_statements.specs.Texts.{is_hole, place_after, with_first, cut_from, pieces_of}
use Rattle.prepared_statements.specs.inner.Cutting.{cut_onto, put_before}

-- one piece at least
pub record HasOne (pieces : List (List ℕ)) : Type 0 where
  pub first : List ℕ
  pub more : List (List ℕ)
  pub is : pieces ≡ first ∷ more

one_more : (b : ℕ) (pieces : List (List ℕ)) → HasOne pieces → HasOne (with_first b pieces)
one_more b pieces one = record { first = b ∷ one.first; more = one.more; is = ap (with_first b) one.is }

one_of : (h : Bool) (b : ℕ) (rest others : List (List ℕ)) → HasOne others → HasOne (if h then [] ∷ rest else with_first b others)
one_of true b rest others one = record { first = []; more = rest; is = refl }
one_of false b rest others one = one_more b others one

has_one : (place : Place) (bytes : List ℕ) → HasOne (cut_from place bytes)
has_one place [] = record { first = []; more = []; is = refl }
has_one place (b ∷ bytes) =
    one_of (is_hole place b) b (cut_from Outside bytes) (cut_from (place_after place b) bytes) (has_one (place_after place b) bytes)

put_hole : (done : List (List ℕ)) (piece : List ℕ) (pieces : List (List ℕ)) → HasOne pieces → put_before (done ++ piece ∷ []) [] pieces ≡ put_before done piece ([] ∷ pieces)
put_hole done piece pieces one =
    ap (put_before (done ++ piece ∷ []) []) one.is ∙ append_assoc done (piece ∷ []) (one.first ∷ one.more)
    ∙ ap (λ (w : List ℕ). done ++ w ∷ one.first ∷ one.more) (sym (append-nil piece)) ∙ ap (λ (l : List (List ℕ)). put_before done piece ([] ∷ l)) (sym one.is)

put_byte : (done : List (List ℕ)) (piece : List ℕ) (b : ℕ) (pieces : List (List ℕ)) → HasOne pieces
    → put_before done (piece ++ b ∷ []) pieces ≡ put_before done piece (with_first b pieces)
put_byte done piece b pieces one =
    ap (put_before done (piece ++ b ∷ [])) one.is ∙ ap (λ (w : List ℕ). done ++ w ∷ one.more) (append_assoc piece (b ∷ []) one.first)
    ∙ ap (λ (l : List (List ℕ)). put_before done piece (with_first b l)) (sym one.is)

step : (h : Bool) (done : List (List ℕ)) (piece : List ℕ) (b : ℕ) (rest others : List (List ℕ)) (at_hole at_byte : List (List ℕ)) → HasOne rest → HasOne others
    → at_hole ≡ put_before (done ++ piece ∷ []) [] rest → at_byte ≡ put_before done (piece ++ b ∷ []) others
    → (if h then at_hole else at_byte) ≡ put_before done piece (if h then [] ∷ rest else with_first b others)
step true done piece b rest others at_hole at_byte one two is is' = is ∙ put_hole done piece rest one
step false done piece b rest others at_hole at_byte one two is is' = is' ∙ put_byte done piece b others two

cut_is : (done : List (List ℕ)) (piece : List ℕ) (place : Place) (bytes : List ℕ) → cut_onto done piece place bytes ≡ put_before done piece (cut_from place bytes)
cut_is done piece place [] = ap (λ (w : List ℕ). done ++ w ∷ []) (sym (append-nil piece))
cut_is done piece place (b ∷ bytes) =
    step (is_hole place b) done piece b (cut_from Outside bytes) (cut_from (place_after place b) bytes) _ _ (has_one Outside bytes) (has_one (place_after place b) bytes)
    (cut_is (done ++ piece ∷ []) [] Outside bytes) (cut_is done (piece ++ b ∷ []) (place_after place b) bytes)

whole : (pieces : List (List ℕ)) → HasOne pieces → put_before [] [] pieces ≡ pieces
whole pieces one = ap (put_before [] []) one.is ∙ sym one.is

pub cut_whole : (text : List ℕ) → cut_onto [] [] Outside text ≡ pieces_of text
cut_whole text = cut_is [] [] Outside text ∙ whole (cut_from Outside text) (has_one Outside text)

-- what is cut off once no byte is left
pub cut_end : (pieces all : List (List ℕ)) (piece rest text : List ℕ) (place : Place) → cut_onto pieces piece place rest ≡ cut_onto [] [] Outside text → rest ≡ []
    → all ≡ pieces ++ piece ∷ [] → all ≡ pieces_of text
cut_end pieces all piece rest text place so_far none is =
    is ∙ ap (cut_onto pieces piece place) (sym none) ∙ so_far ∙ cut_whole text
