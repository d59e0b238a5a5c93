use Rattle.std.proofs.Common.{◌≡◌, ◌≤◌, ℕ, List, length}
use Rattle.client_statements.specs.tokens.Pieces.{lexemes_of}
use Rattle.client_words.specs.InsertSet.{after_sets}
use Rattle.client_words.proofs.insert_set.after_sets.Given as goal

abbrev pub invariant-loop-rest : goal.invariant-loop-rest
invariant-loop-rest l = record {
  same : (text : List ℕ) → after_sets (lexemes_of text l.rest) ≡ after_sets (lexemes_of text l.tokens);
  shorter : length l.rest ≤ length l.tokens;
}

abbrev pub decreases-loop-rest : goal.decreases-loop-rest
decreases-loop-rest l = length l.rest
