-- Names, columns, literals, operands and lists: what is printed for them reads as them.
use Rattle.std.proofs.Common.{◌≡◌, ℕ, zero, suc, Bool, true, List, [], ◌∷◌, ◌++◌, map, refl, append_assoc, arith}
use Rattle.std.specs.List.{list_all}
use Rattle.std.proofs.lemmas.Bool.{and_parts}
use Rattle.vt_value.specs.declared.value.Value.{Value}
use Rattle.sql_lexer.specs.declared.token.Keyword.TheVariants as k
use Rattle.sql_lexer.specs.declared.token.Sign as S
use Rattle.sql_lexer.specs.declared.token.Sign.TheVariants.{LeftParenthesis, RightParenthesis, Comma, Minus, Dot}
use Rattle.sql_lexer.specs.declared.token.TokenKind.TheVariants as kind
use Rattle.sql_lexer.specs.Lexemes.{Lexeme, keyword, identifier, number, text, sign, is_word, sign_text, ends_token}
use Rattle.sql_lexer.specs.Lexemes as s
use Rattle.sql_tree.specs.declared.ColumnName.{ColumnName}
use Rattle.sql_tree.specs.declared.Operand.{Operand}
use Rattle.sql_tree.specs.Literals.{Name}
use Rattle.sql_tree.specs.Printing.{value_text, operand_text, name_text, column_text, following, commas, bracketed}
use Rattle.sql_parser.specs.Grammar.{Lexemes, ReadsLiteral, ReadsOperand, ReadsName, ReadsColumn, Follows, Listed, Bracketed}
use Rattle.sql_parser.specs.Grammar as g
use Rattle.sql_parser.proofs.Says.{Says, token, blank, Part, Joint, Breaks, at_close, at_comma, at_dot, word}
use Rattle.sql_parser.proofs.SpelledParts.{number_part, name_part, text_part}

-- ---- identifiers are words

abbrev pub is_named : Lexeme → Bool
is_named (identifier bytes) = is_word bytes
is_named _ = true

abbrev pub Words : Lexemes → Type 0
Words ts = list_all is_named ts ≡ true

pub words_parts : (ts us : Lexemes) → Words (ts ++ us) → Words ts × Words us
words_parts [] us w = (refl, w)
words_parts (t ∷ ts) us w =
    let p = and_parts (is_named t) (list_all is_named (ts ++ us)) w in
    let q = words_parts ts us p.1 in
    (rw (p.0, q.0) refl, q.1)

pub words_join : (ts us : Lexemes) → Words ts → Words us → Words (ts ++ us)
words_join [] us v w = w
words_join (t ∷ ts) us v w = let p = and_parts (is_named t) (list_all is_named ts) v in rw (p.0, words_join ts us p.1 w) refl

pub words_after : (t : Lexeme) (ts : Lexemes) → Words (t ∷ ts) → Words ts
words_after t ts w = (and_parts (is_named t) (list_all is_named ts) w).1

-- ---- what is printed, and what its tokens say

pub record As {A : Type 0} (Reads : Lexemes → A → Type 0) (bytes : List ℕ) (x : A) : Type 0 where
  pub says : Lexemes
  pub reads : Reads says x
  pub part : Part bytes says

sign_ends : (x : S.Sign) (rest : List ℕ) → ends_token (kind.Sign x) rest ≡ true
sign_ends x [] = refl
sign_ends x (b ∷ rest) = refl

pub sign_says : (x : S.Sign) (rest : List ℕ) (ms : Lexemes) → Says rest ms → Says (sign_text x ++ rest) (sign x ∷ ms)
sign_says x rest ms r = token (s.mark x) (sign_ends x rest) r

pub comma_joint : Joint (0x2C ∷ 0x20 ∷ []) (sign Comma ∷ [])
comma_joint = record { says = λ rest ms r. sign_says Comma (0x20 ∷ rest) ms (blank refl r); breaks = λ rest. at_comma }

pub bracketed_part : (bytes : List ℕ) (us : Lexemes) → Part bytes us → Part (bracketed bytes) (sign LeftParenthesis ∷ us ++ sign RightParenthesis ∷ [])
bracketed_part bytes us p rest ms b r =
    simp append_assoc (sign_says LeftParenthesis (bytes ++ 0x29 ∷ rest) (us ++ sign RightParenthesis ∷ ms)
    (p (0x29 ∷ rest) (sign RightParenthesis ∷ ms) at_close (sign_says RightParenthesis rest ms r)))

-- ---- literals and operands

pub literal_prints : (ts : Lexemes) (x : Value) → ReadsLiteral ts x → As ReadsLiteral (value_text x) x
literal_prints _ _ g.null = record { says = keyword k.Null ∷ []; reads = g.null; part = word k.Null }
literal_prints _ _ (g.natural n lt) = record { says = number n ∷ []; reads = g.natural n lt; part = number_part n lt }
literal_prints _ _ (g.negative zero le) = record { says = number 0 ∷ []; reads = g.natural 0 (omega arith); part = number_part 0 (omega arith) }
literal_prints _ _ (g.negative (suc n) le) = record {
  says = sign Minus ∷ number (suc n) ∷ [];
  reads = g.negative (suc n) le;
  part = λ rest ms b r. sign_says Minus _ _ (number_part (suc n) (omega arith) rest ms b r);
}
literal_prints _ _ (g.string bytes) = record { says = text bytes ∷ []; reads = g.string bytes; part = text_part bytes }

pub column_prints : (ts : Lexemes) (x : ColumnName) → ReadsColumn ts x → Words ts → As ReadsColumn (column_text x) x
column_prints _ _ (g.bare bytes) w =
    record { says = identifier bytes ∷ []; reads = g.bare bytes; part = name_part bytes (and_parts (is_word bytes) true w).0 }
column_prints _ _ (g.qualified table bytes) w =
    let p = and_parts (is_word table) (list_all is_named (sign Dot ∷ identifier bytes ∷ [])) w in
    let q = and_parts (is_word bytes) true p.1 in
    record {
      says = identifier table ∷ sign Dot ∷ identifier bytes ∷ [];
      reads = g.qualified table bytes;
      part = λ rest ms b r. simp append_assoc (name_part table p.0 (0x2E ∷ name_text bytes ++ rest) (sign Dot ∷ identifier bytes ∷ ms) at_dot
          (sign_says Dot (name_text bytes ++ rest) (identifier bytes ∷ ms) (name_part bytes q.0 rest ms b r)));
    }

pub operand_prints : (ts : Lexemes) (x : Operand ColumnName) → ReadsOperand ts x → Words ts → As ReadsOperand (operand_text x) x
operand_prints _ _ (g.column {ts} {c} r) w = let a = column_prints ts c r w in record { says = a.says; reads = g.column a.reads; part = a.part }
operand_prints _ _ (g.literal {ts} {v} r) w = let a = literal_prints ts v r in record { says = a.says; reads = g.literal a.reads; part = a.part }

pub name_prints : (ts : Lexemes) (x : Name) → ReadsName ts x → Words ts → As ReadsName (name_text x) x
name_prints _ _ (g.name bytes) w =
    record { says = identifier bytes ∷ []; reads = g.name bytes; part = name_part bytes (and_parts (is_word bytes) true w).0 }

-- ---- lists

pub record AsMore {A : Type 0} (sep : Lexeme) (Item : Lexemes → A → Type 0) (bytes : List ℕ) (xs : List A) : Type 0 where
  pub says : Lexemes
  pub reads : Follows sep Item says xs
  pub part : Part bytes says
  pub breaks : (rest : List ℕ) → Breaks rest → Breaks (bytes ++ rest)

module _ {A : Type 0} (sep : Lexeme) (between : List ℕ) (joint : Joint between (sep ∷ [])) (Item Out : Lexemes → A → Type 0) (print : A → List ℕ)
    (prints : (ts : Lexemes) (x : A) → Item ts x → Words ts → As Out (print x) x) where
  pub follows_prints : (ts : Lexemes) (xs : List A) → Follows sep Item ts xs → Words ts → AsMore sep Out (following between (map print xs)) xs
  follows_prints _ _ g.end w = record { says = []; reads = g.end; part = λ rest ms b r. r; breaks = λ rest b. b }
  follows_prints _ _ (g.item {ts} {us} {x} {xs} r s) w =
      let q = words_parts ts us (words_after sep (ts ++ us) w) in
      let a = prints ts x r q.0 in
      let f = follows_prints us xs s q.1 in
      let more = following between (map print xs) in
      record {
        says = sep ∷ a.says ++ f.says;
        reads = g.item a.reads f.reads;
        part = λ rest ms b r. simp append_assoc (joint.says (print x ++ (more ++ rest)) (a.says ++ (f.says ++ ms))
            (a.part (more ++ rest) (f.says ++ ms) (f.breaks rest b) (f.part rest ms b r)));
        breaks = λ rest b. simp append_assoc (joint.breaks (print x ++ (more ++ rest)));
      }

  -- a first item, and those that follow it
  pub first_part : (bytes : List ℕ) (us : Lexemes) (xs : List A) → Part bytes us → (f : AsMore sep Out (following between (map print xs)) xs)
      → Part (bytes ++ following between (map print xs)) (us ++ f.says)
  first_part bytes us xs p f rest ms b r =
      simp append_assoc (p (following between (map print xs) ++ rest) (f.says ++ ms) (f.breaks rest b) (f.part rest ms b r))

-- x,..
module _ {A : Type 0} (Item Out : Lexemes → A → Type 0) (print : A → List ℕ)
    (prints : (ts : Lexemes) (x : A) → Item ts x → Words ts → As Out (print x) x) where
  pub listed_prints : (ts : Lexemes) (xs : List A) → Listed Item ts xs → Words ts → As (Listed Out) (commas (map print xs)) xs
  listed_prints _ _ (g.items {ts} {us} {x} {xs} r s) w =
      let q = words_parts ts us w in
      let a = prints ts x r q.0 in
      let f = follows_prints (sign Comma) (0x2C ∷ 0x20 ∷ []) comma_joint Item Out print prints us xs s q.1 in
      record {
        says = a.says ++ f.says;
        reads = g.items a.reads f.reads;
        part = first_part (sign Comma) (0x2C ∷ 0x20 ∷ []) comma_joint Item Out print prints (print x) a.says xs a.part f;
      }

  pub bracketed_prints : (ts : Lexemes) (xs : List A) → Bracketed Item ts xs → Words ts → As (Bracketed Out) (bracketed (commas (map print xs))) xs
  bracketed_prints _ _ (g.brackets {ts} {xs} r) w =
      let a = listed_prints ts xs r (words_parts ts (sign RightParenthesis ∷ []) w).0 in
      record {
        says = sign LeftParenthesis ∷ a.says ++ sign RightParenthesis ∷ [];
        reads = g.brackets a.reads;
        part = bracketed_part (commas (map print xs)) a.says a.part;
      }

pub members_print : (ts : Lexemes) (xs : List Value) → Bracketed ReadsLiteral ts xs → Words ts → As (Bracketed ReadsLiteral) (bracketed (commas (map value_text xs))) xs
members_print = bracketed_prints ReadsLiteral ReadsLiteral value_text (λ ts x r w. literal_prints ts x r)
