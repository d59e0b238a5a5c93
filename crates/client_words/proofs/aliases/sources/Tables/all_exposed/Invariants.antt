use Rattle.std.proofs.Common.{◌≡◌, length}
use Rattle.client_statements.specs.tokens.Pieces.{lexemes_of}
use Rattle.client_words.specs.Aliases.{all_exposed}
use Rattle.client_words.specs.inner.Sources.{tables_of}
use Rattle.client_words.proofs.aliases.sources.Tables.all_exposed.Given as goal

abbrev pub invariant-loop-rest : goal.invariant-loop-rest
invariant-loop-rest l = all_exposed (tables_of l.text l.self) (lexemes_of l.text l.rest) ≡ all_exposed (tables_of l.text l.self) (lexemes_of l.text l.tokens)

abbrev pub decreases-loop-rest : goal.decreases-loop-rest
decreases-loop-rest l = length l.rest
