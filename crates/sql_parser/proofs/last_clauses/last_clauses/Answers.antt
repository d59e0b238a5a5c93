use Rattle.std.proofs.Common.{sym}
use Rattle.sql_lexer.specs.Lexemes.{lexemes_of}
use Rattle.sql_parser.proofs.LastClauses.{none_at_end}
use Rattle.sql_parser.proofs.last_clauses.last_clauses.Goals as goal

pub returns-then-is_end : goal.returns-then-is_end
returns-then-is_end c =
    let none = none_at_end (lexemes_of c.args.text.now c.args.tokens.now) (sym (c.if-is_end.ensures c.args.text.now)) in
    rw (c.new.ensures, c.new-then-is_end.ensures) none
