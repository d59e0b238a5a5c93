-- The names of a select list.
use Rattle.std.proofs.Common.{◌≡◌, ◌≤◌, ◌-◌, ℕ, List, [], ◌∷◌, Option, None, true, false, refl, sym, ap, subst, length, take, drop, arith}
use Rattle.std.specs.Prelude.{slice_index_or}
use Rattle.client_statements.specs.declared.tokens.token.Token.{Token}
use Rattle.client_statements.specs.tokens.Pieces.{Lexeme, lexeme_of, lexemes_of}
use Rattle.client_words.specs.Spelling.{Lexemes}
use Rattle.client_words.specs.Aliases.{column_alias_of, is_aliased, names_from}
use Rattle.client_words.specs.Marks.{is_from, is_comma}

-- a comma ends a column
pub comma_name : (name : Option (List ℕ)) (x : Lexeme) (ts : Lexemes) → is_from x ≡ false → is_comma x ≡ true → names_from name (x ∷ ts) ≡ name ∷ names_from None ts
unfolding names_from
comma_name name x [] not comma = rw (not, comma) refl
comma_name name x (t ∷ ts) not comma = rw (not, comma) refl

take_all : (ts : List Token) → take (length ts) ts ≡ ts
take_all [] = refl
take_all (t ∷ ts) = ap (λ (us : List Token). t ∷ us) (take_all ts)

rest_all : (t : Token) (ts : List Token) → take (length (t ∷ ts) - 1) ts ≡ ts
rest_all t ts = let one : length (t ∷ ts) - 1 ≡ length ts = omega arith in rw one (take_all ts)

-- an alias is the name of the column before it
aliased_list : (name alias : Option (List ℕ)) (x t : Lexeme) (rest : Lexemes) → is_from x ≡ false → is_comma x ≡ false → is_aliased x t rest ≡ true
    → alias ≡ column_alias_of t → names_from alias rest ≡ names_from name (x ∷ t ∷ rest)
unfolding names_from
aliased_list name alias x t rest not stays is said = rw (said, not, stays, is) refl

-- a column has the name that it had before another token
kept_list : (name : Option (List ℕ)) (x t : Lexeme) (rest : Lexemes) → is_from x ≡ false → is_comma x ≡ false → is_aliased x t rest ≡ false
    → names_from name (t ∷ rest) ≡ names_from name (x ∷ t ∷ rest)
unfolding names_from
kept_list name x t rest not stays is = rw (not, stays, is) refl

pub aliased_name : (text : List ℕ) (name : Option (List ℕ)) (x : Lexeme) (alias : Option (List ℕ)) (after : List Token) (none : Token) → 1 ≤ length after
    → is_from x ≡ false → is_comma x ≡ false
    → is_aliased x (lexeme_of text (slice_index_or after 0 none)) (lexemes_of text (take (length after - 1) (drop 1 after))) ≡ true
    → alias ≡ column_alias_of (lexeme_of text (slice_index_or after 0 none))
    → names_from alias (lexemes_of text (take (length after - 1) (drop 1 after))) ≡ names_from name (x ∷ lexemes_of text after)
aliased_name text name x alias [] none some not stays is said = absurd (omega arith)
aliased_name text name x alias (t ∷ after) none some not stays is said =
    let aliased = subst (λ (ts : List Token). is_aliased x (lexeme_of text t) (lexemes_of text ts) ≡ true) (rest_all t after) is in
    subst (λ (ts : List Token). names_from alias (lexemes_of text ts) ≡ names_from name (x ∷ lexemes_of text (t ∷ after))) (sym (rest_all t after))
    (aliased_list name alias x (lexeme_of text t) (lexemes_of text after) not stays aliased said)

pub kept_name : (text : List ℕ) (name : Option (List ℕ)) (x : Lexeme) (after : List Token) (none : Token) → 1 ≤ length after → is_from x ≡ false → is_comma x ≡ false
    → is_aliased x (lexeme_of text (slice_index_or after 0 none)) (lexemes_of text (take (length after - 1) (drop 1 after))) ≡ false
    → names_from name (lexemes_of text after) ≡ names_from name (x ∷ lexemes_of text after)
kept_name text name x [] none some not stays is = absurd (omega arith)
kept_name text name x (t ∷ after) none some not stays is =
    kept_list name x (lexeme_of text t) (lexemes_of text after) not stays
    (subst (λ (ts : List Token). is_aliased x (lexeme_of text t) (lexemes_of text ts) ≡ false) (rest_all t after) is)

-- FROM ends the last column
pub from_name : (text : List ℕ) (name : Option (List ℕ)) (rest : List Token) (none : Token) → 1 ≤ length rest → is_from (lexeme_of text (slice_index_or rest 0 none)) ≡ true
    → names_from name (lexemes_of text rest) ≡ name ∷ []
unfolding names_from
from_name text name [] none some is = absurd (omega arith)
from_name text name (t ∷ []) none some is = rw is refl
from_name text name (t ∷ u ∷ rest) none some is = rw is refl
