-- A text is said in one way.
use Rattle.std.proofs.Common.{◌≡◌, ℕ, List, [], ◌∷◌, ◌++◌, Option, Some, None, refl, sym, ap, subst, ◌∙◌, append_assoc, ◌≤◌, ◌-◌, length, take, drop, arith}
use Rattle.std.specs.Prelude.{slice_index_or, nat_eq, true}
use Rattle.std.proofs.lemmas.Bool.{eqb-true}
use Rattle.std.proofs.lemmas.List.{append-nil, length-map}
use Rattle.client_statements.specs.declared.tokens.token.Token.{Token}
use Rattle.client_statements.specs.tokens.Pieces.{lexeme_of, lexemes_of}
use Rattle.client_statements.specs.tokens.Tokens.{HasTokens}
use Rattle.vschema.specs.declared.schema.VSchema.{VSchema}
use Rattle.client_words.specs.declared.saying.Said.{Said}
use Rattle.client_words.specs.Spelling.{Lexemes, spelled}
use Rattle.client_words.specs.Aliases.{Names}
use Rattle.client_words.specs.Distinct.{Parts, parts_of, group_text}
use Rattle.client_words.specs.Forms.{table_of, form_at}
use Rattle.client_words.specs.Sayings.{Becomes, IsWhole, plain_of, IsSaidAs}
use Rattle.client_words.specs.Sayings as s
use Rattle.client_words.specs.inner.Written.{IsPut}

some_is : {A : Type 0} (x y : A) → ◌≡◌ {A = Option A} (Some x) (Some y) → x ≡ y
some_is x y e = cc

pub one_becomes : (table : Option (List ℕ)) (ts us : Lexemes) (a b : List ℕ) → ts ≡ us → Becomes table ts a → Becomes table us b → a ≡ b
one_becomes table _ _ _ _ same s.end s.end = refl
one_becomes table _ _ _ _ same s.end (s.form is more) = absurd (cc)
one_becomes table _ _ _ _ same s.end (s.word is more) = absurd (cc)
one_becomes table _ _ _ _ same (s.form is more) s.end = absurd (cc)
one_becomes table _ _ _ _ same (s.word is more) s.end = absurd (cc)
one_becomes table _ _ _ _ same (s.form {rest = r1} {written = w1} {more = m1} is1 b1) (s.form {rest = r2} {written = w2} {more = m2} is2 b2) =
    let both : (w1, r1) ≡ (w2, r2) = some_is (w1, r1) (w2, r2) (sym is1 ∙ ap (form_at table) same ∙ is2) in
    let written : w1 ≡ w2 = ap (λ (x : List ℕ × Lexemes). x.0) both in
    let rest : r1 ≡ r2 = ap (λ (x : List ℕ × Lexemes). x.1) both in
    rw (written, one_becomes table r1 r2 m1 m2 rest b1 b2) refl
one_becomes table _ _ _ _ same (s.form is1 b1) (s.word is2 b2) = let none = sym is1 ∙ ap (form_at table) same ∙ is2 in absurd (cc)
one_becomes table _ _ _ _ same (s.word is1 b1) (s.form is2 b2) = let none = sym is1 ∙ ap (form_at table) same ∙ is2 in absurd (cc)
one_becomes table _ _ _ _ same (s.word {t = t1} {ts = ts1} {more = m1} is1 b1) (s.word {t = t2} {ts = ts2} {more = m2} is2 b2) =
    let head : t1 ≡ t2 = cc in
    let tail : ts1 ≡ ts2 = cc in
    rw (head, one_becomes table ts1 ts2 m1 m2 tail b1 b2) refl

pub one_whole : (ts us : Lexemes) (a b : List ℕ) → ts ≡ us → IsWhole ts a → IsWhole us b → a ≡ b
one_whole ts us _ _ same (s.whole {front = f1} {tail = t1} front tail) (s.whole {front = f2} {tail = t2} front_too tail_too) =
    let table : table_of us ≡ table_of ts = ap table_of (sym same) in
    let fronts : f1 ≡ f2 =
    one_becomes (table_of ts) (parts_of ts).front (parts_of us).front f1 f2 (ap (λ (x : Lexemes). (parts_of x).front) same) front
    (subst (λ (x : Option (List ℕ)). Becomes x (parts_of us).front f2) table front_too) in
    let tails : t1 ≡ t2 =
    one_becomes (table_of ts) (parts_of ts).tail (parts_of us).tail t1 t2 (ap (λ (x : Lexemes). (parts_of x).tail) same) tail
    (subst (λ (x : Option (List ℕ)). Becomes x (parts_of us).tail t2) table tail_too) in
    let groups : group_text (parts_of ts).groups ≡ group_text (parts_of us).groups = ap (λ (x : Lexemes). group_text (parts_of x).groups) same in
    rw (fronts, tails, groups) refl

pub put_all : (a b c d e front group tail : List ℕ) → a ≡ [] → b ≡ a ++ front → c ≡ b ++ group → d ≡ c ++ tail → e ≡ d → e ≡ (front ++ group) ++ tail
put_all a b c d e front group tail is_a is_b is_c is_d is_e = rw (is_e, is_d, is_c, is_b, is_a) refl

-- a text of its parts
pub whole_said : (ts : Lexemes) (x : Parts) (table : Option (List ℕ)) (front tail out : List ℕ) → x ≡ parts_of ts → table ≡ table_of ts → Becomes table x.front front
    → Becomes table x.tail tail → out ≡ (front ++ group_text x.groups) ++ tail → IsWhole ts out
whole_said ts x table front tail out parts named becomes becomes_tail is =
    let first = subst (λ (t : Option (List ℕ)). Becomes t (parts_of ts).front front) named (subst (λ (p : Parts). Becomes table p.front front) parts becomes) in
    let second = subst (λ (t : Option (List ℕ)). Becomes t (parts_of ts).tail tail) named (subst (λ (p : Parts). Becomes table p.tail tail) parts becomes_tail) in
    subst (IsWhole ts)
    (sym (is ∙ ap (λ (p : Parts). (front ++ group_text p.groups) ++ tail) parts))
    (s.whole first second)

pub one_said : (schema : VSchema) (text a b : List ℕ) (names others : Names) → ((ts us : List Token) → HasTokens text ts → HasTokens text us → ts ≡ us)
    → IsSaidAs schema text a names → IsSaidAs schema text b others → (a ≡ b) × (names ≡ others)
one_said schema text a b _ _ one (s.said {tokens = ts} has whole) (s.said {tokens = us} has_too whole_too) =
    let first = plain_of schema text ts in
    let second = plain_of schema text us in
    let plain : first ≡ second = ap (λ (x : List Token). plain_of schema text x) (one ts us has has_too) in
    (one_whole first.0 second.0 a b (ap (λ (x : Lexemes × Names). x.0) plain) whole whole_too, ap (λ (x : Lexemes × Names). x.1) plain)

pub found_said : (schema : VSchema) (text whole : List ℕ) (tokens : List Token) (plain : Lexemes) (names : Names) → HasTokens text tokens
    → (plain, names) ≡ plain_of schema text tokens → IsWhole plain whole → IsSaidAs schema text whole names
found_said schema text whole tokens plain names has is becomes =
    let query = plain_of schema text tokens in
    let same : plain ≡ query.0 = ap (λ (x : Lexemes × Names). x.0) is in
    let named : names ≡ query.1 = ap (λ (x : Lexemes × Names). x.1) is in
    subst (IsSaidAs schema text whole) (sym named) (s.said has (subst (λ (ts : Lexemes). IsWhole ts whole) same becomes))

-- a text that is said in other words has tokens
pub has_some : (schema : VSchema) (text whole : List ℕ) (names : Names) → IsSaidAs schema text whole names → (tokens : List Token) × HasTokens text tokens
has_some schema text whole _ (s.said {tokens} has becomes) = (tokens, has)

-- ---- the text that was written so far

module _ (table : Option (List ℕ)) (tokens : Lexemes) where
  -- what is written, and what the rest becomes
  abbrev pub IsWritten : List ℕ → Lexemes → Type 0
  IsWritten written rest = (more : List ℕ) → Becomes table rest more → Becomes table tokens (written ++ more)

  pub whole_written : (written : List ℕ) (rest : Lexemes) → rest ≡ [] → IsWritten written rest → Becomes table tokens written
  whole_written written rest none is =
      subst (Becomes table tokens) (append-nil written) (is [] (subst (λ (ts : Lexemes). Becomes table ts []) (sym none) s.end))

  pub more_written : (written then : List ℕ) (rest after : Lexemes) → IsPut table written then rest after → IsWritten written rest → IsWritten then after
  more_written written then rest after put so_far = λ more becomes.
      subst (Becomes table tokens) (sym (append_assoc written put.front more) ∙ ap (λ (x : List ℕ). x ++ more) (sym put.is))
      (so_far (put.front ++ more) (put.joins more becomes))

-- nothing is written yet
pub none_written : (table : Option (List ℕ)) (tokens : Lexemes) → IsWritten table tokens [] tokens
none_written table tokens = λ more becomes. becomes

-- no tokens say nothing
pub no_words : (text : List ℕ) (ts : List Token) → nat_eq (length ts) 0 ≡ true → lexemes_of text ts ≡ []
no_words text [] none = refl
no_words text (t ∷ ts) none = absurd (omega (arith, eqb-true (length (t ∷ ts)) 0 none))

form_joins : (table : Option (List ℕ)) (ts rest : Lexemes) (written more : List ℕ) → 1 ≤ length ts → form_at table ts ≡ Some (written, rest) → Becomes table rest more → Becomes table ts (written ++ more)
form_joins table [] rest written more some is becomes = absurd (omega arith)
form_joins table (t ∷ ts) rest written more some is becomes = s.form is becomes

pub form_put : (table : Option (List ℕ)) (text : List ℕ) (tokens after : List Token) (out then written : List ℕ) → 1 ≤ length tokens → then ≡ out ++ written
    → form_at table (lexemes_of text tokens) ≡ Some (written, lexemes_of text after) → IsPut table out then (lexemes_of text tokens) (lexemes_of text after)
form_put table text tokens after out then written some is at = record {
  front = written;
  is = is;
  joins = λ more becomes. form_joins table (lexemes_of text tokens) (lexemes_of text after) written more (rw length-map some) at becomes;
}

take_whole : (ts : List Token) → take (length ts) ts ≡ ts
take_whole [] = refl
take_whole (t ∷ ts) = ap (λ (us : List Token). t ∷ us) (take_whole ts)

rest_whole : (t : Token) (ts : List Token) → take (length (t ∷ ts) - 1) ts ≡ ts
rest_whole t ts = let one : length (t ∷ ts) - 1 ≡ length ts = omega arith in rw one (take_whole ts)

pub word_put : (table : Option (List ℕ)) (text : List ℕ) (tokens : List Token) (none : Token) (out then : List ℕ) → 1 ≤ length tokens
    → then ≡ out ++ spelled (lexeme_of text (slice_index_or tokens 0 none) ∷ []) → form_at table (lexemes_of text tokens) ≡ None
    → IsPut table out then (lexemes_of text tokens) (lexemes_of text (take (length tokens - 1) (drop 1 tokens)))
word_put table text [] none out then some is at = absurd (omega arith)
word_put table text (t ∷ tokens) none out then some is at = record {
  front = spelled (lexeme_of text t ∷ []);
  is = is;
  joins = λ more becomes. s.word at (subst (λ (ts : List Token). Becomes table (lexemes_of text ts) more) (rest_whole t tokens) becomes);
}

pub same_said : (a b : List ℕ) (names others : List (Option (List ℕ))) → a ≡ b → names ≡ others
    → ◌≡◌ {A = Option Said} (Some (record { text = a; names = names })) (Some (record { text = b; names = others }))
same_said a b names others texts same = rw (texts, same) refl
