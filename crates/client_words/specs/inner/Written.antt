-- What was written of tokens, front to back.
use Rattle.std.specs.Prelude.{◌≡◌, ℕ, List, ◌++◌, Option}
use Rattle.client_words.specs.Spelling.{Lexemes}
use Rattle.client_words.specs.Sayings.{Becomes}

-- some more is written, and the tokens become that before what the rest becomes
pub record IsPut (table : Option (List ℕ)) (written then : List ℕ) (tokens rest : Lexemes) : Type 0 where
  pub front : List ℕ
  pub is : then ≡ written ++ front
  pub joins : (more : List ℕ) → Becomes table rest more → Becomes table tokens (front ++ more)
