use Rattle.std.proofs.Common.{◌≡◌, ◌++◌, ℕ, List, false, length}
use Rattle.client_statements.specs.tokens.Pieces.{lexemes_of}
use Rattle.client_words.specs.InsertSet.{values_in}
use Rattle.client_words.proofs.insert_set.values_in.Given as goal

abbrev pub invariant-loop-rest : goal.invariant-loop-rest
invariant-loop-rest l = (text : List ℕ) → lexemes_of text l.list ++ values_in l.after_sign (lexemes_of text l.rest) ≡ values_in false (lexemes_of text l.tokens)

abbrev pub decreases-loop-rest : goal.decreases-loop-rest
decreases-loop-rest l = length l.rest
