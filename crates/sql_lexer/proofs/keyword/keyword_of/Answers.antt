use Rattle.std.proofs.Common.{sym, ◌∙◌, arith}
use Rattle.sql_lexer.specs.declared.token.Keyword.TheVariants.{Transaction}
use Rattle.sql_lexer.proofs.Keywords.{keyword_again}
use Rattle.sql_lexer.proofs.Codes.{keyword_by_code, no_longer_keyword}
use Rattle.sql_lexer.proofs.keyword.keyword_of.Goals as goal

pub returns-then-word-le-MAX_CODED : goal.returns-then-word-le-MAX_CODED
returns-then-word-le-MAX_CODED c = rw c.requires.code at c.with_code.ensures ∙ keyword_by_code c.args.word.now c.requires.bytes (omega arith)

pub returns-then-is_spelling_of : goal.returns-then-is_spelling_of
returns-then-is_spelling_of c = sym (keyword_again c.args.word.now Transaction (sym c.if-is_spelling_of.ensures))

pub returns-else-is_spelling_of : goal.returns-else-is_spelling_of
returns-else-is_spelling_of c = sym (no_longer_keyword c.args.word.now (omega arith) (sym c.if-is_spelling_of.ensures))
