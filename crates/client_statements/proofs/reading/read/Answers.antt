use Rattle.std.proofs.Common.{◌≡◌, ◌∙◌, ℕ, List, Option, Some, sym, ap}
use Rattle.sql_lexer.proofs.Options.{some_is}
use Rattle.client_statements.specs.declared.tokens.token.Token.{Token}
use Rattle.client_statements.specs.tokens.Tokens.{HasTokens}
use Rattle.client_statements.specs.declared.statement.ClientStatement.{ClientStatement}
use Rattle.client_statements.specs.Asks.{Asks}
use Rattle.client_statements.specs.Asks as a
use Rattle.client_statements.specs.Grammar.{client_statement}
use Rattle.client_statements.proofs.reading.read.Goals as goal

-- a text that asks what its tokens ask asks nothing else
nothing_else : (text : List ℕ) (tokens : List Token) (asked s : ClientStatement)
    → ((others : List Token) → HasTokens text others → ◌≡◌ {A = Option (List Token)} (Some tokens) (Some others))
    → client_statement text tokens ≡ Some asked → Asks text s → ◌≡◌ {A = Option ClientStatement} (Some asked) (Some s)
nothing_else text tokens asked s only is (a.asks {tokens = others} has other) =
    sym is ∙ ap (client_statement text) (some_is tokens others (only others has)) ∙ other

pub returns-in-Ok-clause-asked : goal.returns-in-Ok-clause-asked
returns-in-Ok-clause-asked c =
    let found : HasTokens c.args.text.now c.in-Some.tokens.items = rw c.in-Some.is at c.in_ok-tokens.ensures.found in
    let is : client_statement c.args.text.now c.in-Some.tokens.items ≡ Some c.in-Ok.statement = rw (← c.as_slice.ensures.value) c.in-Ok.ensures in
    a.asks found is

pub returns-in-Ok-clause-only : goal.returns-in-Ok-clause-only
returns-in-Ok-clause-only c =
    let is : client_statement c.args.text.now c.in-Some.tokens.items ≡ Some c.in-Ok.statement = rw (← c.as_slice.ensures.value) c.in-Ok.ensures in
    λ s asked. nothing_else c.args.text.now c.in-Some.tokens.items c.in-Ok.statement s
    (λ others has. rw c.in-Some.is at (c.in_ok-tokens.ensures.only others has)) is asked
