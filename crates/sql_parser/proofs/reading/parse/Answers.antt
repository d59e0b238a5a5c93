use Rattle.std.proofs.Common.{◌≡◌, List, ℕ, Option, Some, None, Result, Ok, Err, length, take, refl, sym, ◌∙◌, subst, arith}
use Rattle.std.specs.Prelude.{IfSome, IfOk, MatchResult}
use Rattle.vt_value.specs.declared.refusal.Refusal.{Refusal}
use Rattle.vt_value.specs.declared.refusal.Refusal.TheVariants as r
use Rattle.sql_lexer.specs.declared.token.Token.{Token}
use Rattle.sql_lexer.specs.Lexemes.{lexemes_of}
use Rattle.sql_lexer.specs.inner.Results.{AgreesWith}
use Rattle.sql_lexer.specs.Tokens.{Lexes}
use Rattle.sql_lexer.proofs.Options.{some_is, given}
use Rattle.sql_lexer.proofs.Lexes.{lex_again}
use Rattle.sql_tree.specs.declared.Statement.{Statement}
use Rattle.sql_parser.specs.declared.reading.Kind.{Kind}
use Rattle.sql_parser.specs.declared.reading.Kind.TheVariants.{Select, Insert, Update, Delete, Control}
use Rattle.sql_parser.specs.Grammar.{Lexemes, Reads}
use Rattle.sql_parser.specs.inner.Reading.{text_of_kind, text_at}
use Rattle.sql_parser.proofs.Statements.{text_sound, text_again}
use Rattle.sql_parser.proofs.reading.parse.Goals as goal

is_found : (text : List ℕ) (tokens : List Token) → Lexes text tokens → (result : Result Statement Refusal)
    → AgreesWith (λ x. x) result (text_at (lexemes_of text tokens)) → IfOk result (λ x. Reads text x)
is_found text tokens lexed (Ok x) e = let s = text_sound (lexemes_of text tokens) x e in (tokens, lexed, s.0, s.1.0, s.1.1)
is_found text tokens lexed (Err e) h = tt

-- what a reading of the tokens after the first words gives is what the text says, and nothing else is
says : (text : List ℕ) (tokens : List Token) → Lexes text tokens → (kind told : Kind) → told ≡ kind → (rest : Lexemes)
    → text_of_kind told rest ≡ text_at (lexemes_of text tokens)
    → (result : Result Statement Refusal) → AgreesWith (λ x. x) result (text_of_kind kind rest)
    → IfOk result (λ x. Reads text x) × ((tree : Statement) → Reads text tree → MatchResult result (λ t. t ≡ tree) (λ e. e ≡ r.OutOfMemory))
says text tokens lexed kind told is rest e result h =
    let begun : AgreesWith (λ x. x) result (text_of_kind told rest) = rw is h in
    let agrees : AgreesWith (λ x. x) result (text_at (lexemes_of text tokens)) = rw (← e) begun in (
      is_found text tokens lexed result agrees,
      λ tree reads.
          let one : tokens ≡ reads.0 = some_is tokens reads.0 (sym (lex_again lexed (length text) (omega arith)) ∙ lex_again reads.1 (length text) (omega arith)) in
          let read : text_at (lexemes_of text tokens) ≡ Some tree = rw one (text_again (lexemes_of text reads.0) tree reads.2 (reads.3, reads.4)) in
          given (λ y. y) tree result (subst (AgreesWith (λ y. y) result) read agrees),
    )

-- the tokens that were chosen are the text's
are_tokens : (text : List ℕ) (few many tokens : List Token) (count : Option ℕ) → IfSome count (λ n. Lexes text (take n few)) → (count ≡ None → Lexes text many)
    → IfSome count (λ n. tokens ≡ take n few) → (count ≡ None → tokens ≡ many) → Lexes text tokens
are_tokens text few many tokens (Some n) is_few is_many same other = rw same is_few
are_tokens text few many tokens None is_few is_many same other = rw (other refl) (is_many refl)

pub returns-in-Select-clause-found : goal.returns-in-Select-clause-found
returns-in-Select-clause-found c =
    let text = c.args.text.now in
    let begins = c.kind_of-kind in
    let tokens = c.chosen.result.now in
    let lexed = are_tokens text _ _ tokens c.short_tokens-count.result c.short_tokens-count.ensures.found c.in_ok-many.ensures.found c.chosen.ensures.few (λ none. c.chosen.ensures.many none ∙ c.deref.ensures.value) in
    (says text tokens lexed Select begins.result.0 c.in-Select.is (lexemes_of text begins.result.1.now) (begins.ensures text) c.select.result c.select.ensures).0

pub returns-in-Select-clause-only : goal.returns-in-Select-clause-only
returns-in-Select-clause-only c =
    let text = c.args.text.now in
    let begins = c.kind_of-kind in
    let tokens = c.chosen.result.now in
    let lexed = are_tokens text _ _ tokens c.short_tokens-count.result c.short_tokens-count.ensures.found c.in_ok-many.ensures.found c.chosen.ensures.few (λ none. c.chosen.ensures.many none ∙ c.deref.ensures.value) in
    (says text tokens lexed Select begins.result.0 c.in-Select.is (lexemes_of text begins.result.1.now) (begins.ensures text) c.select.result c.select.ensures).1

pub returns-in-Insert-clause-found : goal.returns-in-Insert-clause-found
returns-in-Insert-clause-found c =
    let text = c.args.text.now in
    let begins = c.kind_of-kind in
    let tokens = c.chosen.result.now in
    let lexed = are_tokens text _ _ tokens c.short_tokens-count.result c.short_tokens-count.ensures.found c.in_ok-many.ensures.found c.chosen.ensures.few (λ none. c.chosen.ensures.many none ∙ c.deref.ensures.value) in
    (says text tokens lexed Insert begins.result.0 c.in-Insert.is (lexemes_of text begins.result.1.now) (begins.ensures text) c.insert.result c.insert.ensures).0

pub returns-in-Insert-clause-only : goal.returns-in-Insert-clause-only
returns-in-Insert-clause-only c =
    let text = c.args.text.now in
    let begins = c.kind_of-kind in
    let tokens = c.chosen.result.now in
    let lexed = are_tokens text _ _ tokens c.short_tokens-count.result c.short_tokens-count.ensures.found c.in_ok-many.ensures.found c.chosen.ensures.few (λ none. c.chosen.ensures.many none ∙ c.deref.ensures.value) in
    (says text tokens lexed Insert begins.result.0 c.in-Insert.is (lexemes_of text begins.result.1.now) (begins.ensures text) c.insert.result c.insert.ensures).1

pub returns-in-Update-clause-found : goal.returns-in-Update-clause-found
returns-in-Update-clause-found c =
    let text = c.args.text.now in
    let begins = c.kind_of-kind in
    let tokens = c.chosen.result.now in
    let lexed = are_tokens text _ _ tokens c.short_tokens-count.result c.short_tokens-count.ensures.found c.in_ok-many.ensures.found c.chosen.ensures.few (λ none. c.chosen.ensures.many none ∙ c.deref.ensures.value) in
    (says text tokens lexed Update begins.result.0 c.in-Update.is (lexemes_of text begins.result.1.now) (begins.ensures text) c.update.result c.update.ensures).0

pub returns-in-Update-clause-only : goal.returns-in-Update-clause-only
returns-in-Update-clause-only c =
    let text = c.args.text.now in
    let begins = c.kind_of-kind in
    let tokens = c.chosen.result.now in
    let lexed = are_tokens text _ _ tokens c.short_tokens-count.result c.short_tokens-count.ensures.found c.in_ok-many.ensures.found c.chosen.ensures.few (λ none. c.chosen.ensures.many none ∙ c.deref.ensures.value) in
    (says text tokens lexed Update begins.result.0 c.in-Update.is (lexemes_of text begins.result.1.now) (begins.ensures text) c.update.result c.update.ensures).1

pub returns-in-Delete-clause-found : goal.returns-in-Delete-clause-found
returns-in-Delete-clause-found c =
    let text = c.args.text.now in
    let begins = c.kind_of-kind in
    let tokens = c.chosen.result.now in
    let lexed = are_tokens text _ _ tokens c.short_tokens-count.result c.short_tokens-count.ensures.found c.in_ok-many.ensures.found c.chosen.ensures.few (λ none. c.chosen.ensures.many none ∙ c.deref.ensures.value) in
    (says text tokens lexed Delete begins.result.0 c.in-Delete.is (lexemes_of text begins.result.1.now) (begins.ensures text) c.delete.result c.delete.ensures).0

pub returns-in-Delete-clause-only : goal.returns-in-Delete-clause-only
returns-in-Delete-clause-only c =
    let text = c.args.text.now in
    let begins = c.kind_of-kind in
    let tokens = c.chosen.result.now in
    let lexed = are_tokens text _ _ tokens c.short_tokens-count.result c.short_tokens-count.ensures.found c.in_ok-many.ensures.found c.chosen.ensures.few (λ none. c.chosen.ensures.many none ∙ c.deref.ensures.value) in
    (says text tokens lexed Delete begins.result.0 c.in-Delete.is (lexemes_of text begins.result.1.now) (begins.ensures text) c.delete.result c.delete.ensures).1

pub returns-in-Control-clause-found : goal.returns-in-Control-clause-found
returns-in-Control-clause-found c =
    let text = c.args.text.now in
    let begins = c.kind_of-kind in
    let tokens = c.chosen.result.now in
    let lexed = are_tokens text _ _ tokens c.short_tokens-count.result c.short_tokens-count.ensures.found c.in_ok-many.ensures.found c.chosen.ensures.few (λ none. c.chosen.ensures.many none ∙ c.deref.ensures.value) in
    (says text tokens lexed Control begins.result.0 c.in-Control.is (lexemes_of text begins.result.1.now) (begins.ensures text) c.whole_control.result c.whole_control.ensures).0

pub returns-in-Control-clause-only : goal.returns-in-Control-clause-only
returns-in-Control-clause-only c =
    let text = c.args.text.now in
    let begins = c.kind_of-kind in
    let tokens = c.chosen.result.now in
    let lexed = are_tokens text _ _ tokens c.short_tokens-count.result c.short_tokens-count.ensures.found c.in_ok-many.ensures.found c.chosen.ensures.few (λ none. c.chosen.ensures.many none ∙ c.deref.ensures.value) in
    (says text tokens lexed Control begins.result.0 c.in-Control.is (lexemes_of text begins.result.1.now) (begins.ensures text) c.whole_control.result c.whole_control.ensures).1
