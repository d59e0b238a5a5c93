use Rattle.std.proofs.Common.{◌≡◌, ◌++◌, drop}
use Rattle.client_statements.specs.tokens.Pieces.{lexemes_of}
use Rattle.client_words.specs.Spelling.{spelled}
use Rattle.client_words.proofs.distinct.put_words.Given as goal

abbrev pub invariant-loop-token : goal.invariant-loop-token
invariant-loop-token l = l.out.items ++ spelled (lexemes_of l.text (drop l.token-index l.tokens)) ≡ l.fn.out.items ++ spelled (lexemes_of l.text l.tokens)
