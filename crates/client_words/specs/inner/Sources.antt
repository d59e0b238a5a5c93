-- The tables of a query by what their tokens say.
use Rattle.std.specs.Prelude.{ℕ, List, Option, Some, None}
use Rattle.client_statements.specs.declared.tokens.token.Token.{Token}
use Rattle.client_statements.specs.tokens.Pieces.{lexeme_of, lexemes_of}
use Rattle.client_words.specs.Aliases as a
use Rattle.client_words.specs.declared.aliases.sources.Source.{Source}
use Rattle.client_words.specs.declared.aliases.sources.Tables.{Tables}

abbrev pub source_of : List ℕ → Source → a.Source
source_of text s = (lexeme_of text s.table, s.name)

abbrev pub sources_of : List ℕ → Option Source → Option a.Source
sources_of text None = None
sources_of text (Some s) = Some (source_of text s)

abbrev pub tables_of : List ℕ → Tables → a.Tables
tables_of text x = record { kept = lexemes_of text x.kept; first = source_of text x.first; second = sources_of text x.second; rest = lexemes_of text x.rest.now }

abbrev pub joined_of : List ℕ → List Token → Source → List Token → a.Joined
joined_of text kept s rest = (lexemes_of text kept, (source_of text s, lexemes_of text rest))
