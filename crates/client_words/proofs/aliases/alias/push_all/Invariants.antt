use Rattle.std.proofs.Common.{◌≡◌, ◌++◌, ℕ, List, drop}
use Rattle.client_statements.specs.tokens.Pieces.{lexemes_of}
use Rattle.client_words.proofs.aliases.alias.push_all.Given as goal

abbrev pub invariant-loop-token : goal.invariant-loop-token
invariant-loop-token l = (text : List ℕ) → lexemes_of text l.out ++ lexemes_of text (drop l.token-index l.tokens) ≡ lexemes_of text l.fn.out ++ lexemes_of text l.tokens
