-- The parts of a text by what their tokens say.
use Rattle.std.specs.Prelude.{ℕ, List}
use Rattle.client_statements.specs.tokens.Pieces.{lexemes_of}
use Rattle.client_words.specs.Distinct as d
use Rattle.client_words.specs.declared.distinct.Parts.{Parts}

abbrev pub parts_in : List ℕ → Parts → d.Parts
parts_in text x = record { front = lexemes_of text x.front; groups = lexemes_of text x.groups; tail = lexemes_of text x.tail.now }
