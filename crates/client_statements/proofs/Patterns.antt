-- Pieces of patterns: those that fit the same names, and those that need more bytes than a name has.
use Rattle.std.proofs.Common.{◌≡◌, ℕ, ◌<◌, Bool, true, false, ◌||◌, ◌&&◌, ◌==◌, eqb, List, [], ◌∷◌, ◌++◌, length, refl, sym, ap, subst, ◌∙◌, arith, append_assoc}
use Rattle.std.proofs.lemmas.Bool.{eqb-true}
use Rattle.std.specs.Char.{to_ascii_lowercase}
use Rattle.client_statements.specs.declared.likes.Piece.{Piece}
use Rattle.client_statements.specs.declared.likes.Piece.TheVariants.{Any, One, Byte}
use Rattle.client_statements.specs.Likes.{pieces, pattern_piece, like_fits}
use Rattle.client_statements.specs.inner.Patterns.{FitSame, is_left_out, needed}

after_one : (p : Piece) (ps qs : List Piece) → FitSame ps qs → FitSame (p ∷ ps) (p ∷ qs)
after_one p ps qs same [] = rw (same []) refl
after_one p ps qs same (c ∷ text) = rw (same (c ∷ text), after_one p ps qs same text, same text) refl

pub after_front : (front ps qs : List Piece) → FitSame ps qs → FitSame (front ++ ps) (front ++ qs)
after_front [] ps qs same = same
after_front (p ∷ front) ps qs same = after_one p (front ++ ps) (front ++ qs) (after_front front ps qs same)

or_twice : (a b : Bool) → (a || b) || b ≡ a || b
or_twice true b = refl
or_twice false true = refl
or_twice false false = refl

any_twice : (ps : List Piece) → FitSame (Any ∷ ps) (Any ∷ Any ∷ ps)
any_twice ps [] = refl
any_twice ps (c ∷ text) =
    sym (ap (λ (b : Bool). (like_fits ps (c ∷ text) || like_fits (Any ∷ ps) text) || b) (sym (any_twice ps text)) ∙ or_twice (like_fits ps (c ∷ text)) (like_fits (Any ∷ ps) text))

after_any : (rest : List ℕ) → pieces (0x25 ∷ rest) ≡ Any ∷ pieces rest
after_any [] = refl
after_any (b ∷ bytes) = refl

pub left_out : (front : List Piece) (b : ℕ) (rest : List ℕ) → is_left_out b rest ≡ true → FitSame (front ++ pieces rest) (front ++ pattern_piece b ∷ pieces rest)
left_out front b [] is = cc
left_out front b (c ∷ rest) is = go (eqb b 0x25) refl (eqb c 0x25) refl is
  where
    go : (x : Bool) → eqb b 0x25 ≡ x → (y : Bool) → eqb c 0x25 ≡ y → x && y ≡ true → FitSame (front ++ pieces (c ∷ rest)) (front ++ pattern_piece b ∷ pieces (c ∷ rest))
    go true x true y is =
        subst (λ (d : ℕ). FitSame (front ++ pieces (c ∷ rest)) (front ++ pattern_piece d ∷ pieces (c ∷ rest))) (sym (eqb-true b 0x25 x))
        (subst (λ (d : ℕ). FitSame (front ++ pieces (d ∷ rest)) (front ++ Any ∷ pieces (d ∷ rest))) (sym (eqb-true c 0x25 y))
        (after_front front (pieces (0x25 ∷ rest)) (Any ∷ pieces (0x25 ∷ rest)) (rw (after_any rest) (any_twice (pieces rest)))))
    go true x false y is = cc
    go false x y z is = cc

pub fit_pushed : (front new rest : List Piece) (p : Piece) → new ≡ front ++ p ∷ [] → FitSame (new ++ rest) (front ++ p ∷ rest)
fit_pushed front new rest p e name = ap (λ (xs : List Piece). like_fits (xs ++ rest) name) e ∙ ap (λ (xs : List Piece). like_fits xs name) (append_assoc front (p ∷ []) rest)

and_false : (a : Bool) → a && false ≡ false
and_false true = refl
and_false false = refl

pub short_unfit : (ps : List Piece) (name : List ℕ) → length name < needed ps → like_fits ps name ≡ false
short_unfit [] name short = absurd (omega arith)
short_unfit (Any ∷ ps) [] short = short_unfit ps [] (omega arith)
short_unfit (Any ∷ ps) (c ∷ text) short = rw (short_unfit ps (c ∷ text) (omega arith), short_unfit (Any ∷ ps) text (omega arith)) refl
short_unfit (One ∷ ps) [] short = refl
short_unfit (One ∷ ps) (c ∷ text) short = short_unfit ps text (omega arith)
short_unfit (Byte b ∷ ps) [] short = refl
short_unfit (Byte b ∷ ps) (c ∷ text) short = rw (short_unfit ps text (omega arith)) (and_false (to_ascii_lowercase c == to_ascii_lowercase b))
