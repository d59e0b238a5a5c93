use Rattle.std.proofs.Common.{◌≡◌, ◌-◌, None, length}
use Rattle.client_statements.specs.tokens.Pieces.{lexemes_of}
use Rattle.client_statements.specs.Grammar.{settings_at}
use Rattle.client_statements.proofs.settings.settings.Given as goal

abbrev pub invariant-loop : goal.invariant-loop
invariant-loop l = settings_at (l.end - l.counter) l.autocommit (lexemes_of l.text l.rest) ≡ settings_at (length (lexemes_of l.text l.tokens)) None (lexemes_of l.text l.tokens)
