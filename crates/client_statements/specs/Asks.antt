-- What a text asks of a server.
use Rattle.std.specs.Prelude.{◌≡◌, ℕ, List, ◌∷◌, Some}
use Rattle.client_statements.specs.declared.tokens.token.Token.{Token}
use Rattle.client_statements.specs.declared.tokens.token.TokenKind.TheVariants.{Word}
use Rattle.client_statements.specs.declared.tokens.token.Keyword.TheVariants as k
use Rattle.client_statements.specs.tokens.Tokens.{HasTokens}
use Rattle.client_statements.specs.declared.statement.ClientStatement.{ClientStatement}
use Rattle.client_statements.specs.Grammar.{client_statement}

-- a text is a client statement by its tokens; a text that has none isn't one
pub data Asks : List ℕ → ClientStatement → Type 0 where
  asks : {text : List ℕ} {tokens : List Token} {s : ClientStatement} → HasTokens text tokens → client_statement text tokens ≡ Some s → Asks text s

-- its first token is SET
pub data IsSet : List ℕ → Type 0 where
  set : {text : List ℕ} {tokens : List Token} {first : Token} → HasTokens text (first ∷ tokens) → first.kind ≡ Word (Some k.Set) → IsSet text
