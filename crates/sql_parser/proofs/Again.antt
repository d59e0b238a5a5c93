-- What is in the grammar is read, whatever follows, where that doesn't go on with it: laws of lists, for any item.
use Rattle.std.proofs.Common.{◌≡◌, ℕ, zero, suc, ◌≤◌, Bool, true, List, [], ◌∷◌, ◌++◌, length, Some, None, refl, append_assoc, arith}
use Rattle.std.proofs.lemmas.List.{length-append}
use Rattle.sql_lexer.specs.Lexemes.{Lexeme, sign}
use Rattle.sql_lexer.specs.declared.token.Sign.TheVariants.{Comma}
use Rattle.sql_lexer.proofs.Options.{guard_none}
use Rattle.sql_parser.specs.Grammar.{Lexemes, Follows, Listed}
use Rattle.sql_parser.specs.Grammar as g
use Rattle.sql_parser.specs.inner.Reading.{Read, is_comma, after_at, follows_at, all_follow, listed_at}

-- Ends rest: what follows an item doesn't go on with it
module _ {A : Type 0} (sep : Lexeme → Bool) (word : Lexeme) (is : sep word ≡ true) (item : Lexemes → Read A) (Item : Lexemes → A → Type 0)
    (Ends : Lexemes → Type 0)
    (ends : (ts : Lexemes) → Ends (word ∷ ts))
    (again : (ts : Lexemes) (x : A) → Item ts x → (rest : Lexemes) → Ends rest → item (ts ++ rest) ≡ Some (x, rest)) where
  pub follows_ends : {us : Lexemes} {xs : List A} → Follows word Item us xs → (rest : Lexemes) → Ends rest → Ends (us ++ rest)
  follows_ends g.end rest h = h
  follows_ends (g.item {ts} {us} r s) rest h = ends ((ts ++ us) ++ rest)

  pub follows_again : {us : Lexemes} {xs : List A} → Follows word Item us xs → (n : ℕ) (rest : Lexemes) → length (us ++ rest) ≤ n → Ends rest
      → after_at sep rest ≡ None → follows_at sep item n (us ++ rest) ≡ Some (xs, rest)
  unfolding follows_at
  follows_again g.end zero rest le h none = refl
  follows_again g.end (suc n) [] le h none = refl
  follows_again g.end (suc n) (k ∷ rest) le h none = rw (guard_none (sep k) rest none) refl
  follows_again (g.item {ts} {us} {x} {xs} r s) zero rest le h none = absurd (omega arith)
  follows_again (g.item {ts} {us} {x} {xs} r s) (suc n) rest le h none =
      let first : item (ts ++ (us ++ rest)) ≡ Some (x, us ++ rest) = again ts x r (us ++ rest) (follows_ends s rest h) in
      let others : follows_at sep item n (us ++ rest) ≡ Some (xs, rest) =
      follows_again s n rest (omega (arith, length-append (ts ++ us) rest, length-append ts us, length-append us rest)) h none in
      rw (is, append_assoc ts us rest, first, others) refl

  pub all_again : (x : A) {us : Lexemes} {xs : List A} → Follows word Item us xs → (rest : Lexemes) → Ends rest → after_at sep rest ≡ None
      → all_follow sep item (x ∷ []) (us ++ rest) ≡ Some (x ∷ xs, rest)
  all_again x {us} s rest h none = rw (follows_again s (length (us ++ rest)) rest (omega arith) h none) refl

-- x,..
module _ {A : Type 0} (item : Lexemes → Read A) (Item : Lexemes → A → Type 0) (Ends : Lexemes → Type 0)
    (ends : (ts : Lexemes) → Ends (sign Comma ∷ ts))
    (again : (ts : Lexemes) (x : A) → Item ts x → (rest : Lexemes) → Ends rest → item (ts ++ rest) ≡ Some (x, rest)) where
  pub listed_again : (ts : Lexemes) (xs : List A) → Listed Item ts xs → (rest : Lexemes) → Ends rest → after_at is_comma rest ≡ None
      → listed_at item (ts ++ rest) ≡ Some (xs, rest)
  listed_again _ _ (g.items {ts} {us} {x} {xs} r s) rest h none =
      let first : item (ts ++ (us ++ rest)) ≡ Some (x, us ++ rest) =
      again ts x r (us ++ rest) (follows_ends is_comma (sign Comma) refl item Item Ends ends again s rest h) in
      let others : all_follow is_comma item (x ∷ []) (us ++ rest) ≡ Some (x ∷ xs, rest) =
      all_again is_comma (sign Comma) refl item Item Ends ends again x s rest h none in
      rw (append_assoc ts us rest, first) others
