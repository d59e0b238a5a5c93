use Rattle.std.proofs.Common.{◌≡◌, ◌++◌, ℕ, List, length}
use Rattle.client_statements.specs.tokens.Pieces.{lexemes_of}
use Rattle.client_words.specs.Distinct.{up_to_order, order_on}
use Rattle.client_words.proofs.distinct.push_up_to_order.Given as goal

abbrev pub invariant-loop-rest : goal.invariant-loop-rest
invariant-loop-rest l = record {
  front : (text : List ℕ) → lexemes_of text l.front ++ up_to_order (lexemes_of text l.rest) ≡ lexemes_of text l.fn.front ++ up_to_order (lexemes_of text l.tokens);
  tail : (text : List ℕ) → order_on (lexemes_of text l.rest) ≡ order_on (lexemes_of text l.tokens);
}

abbrev pub decreases-loop-rest : goal.decreases-loop-rest
decreases-loop-rest l = length l.rest
