use Rattle.std.proofs.Common.{◌∙◌}
use Rattle.sql_lexer.specs.Lexemes.{is_word_byte}
use Rattle.sql_lexer.proofs.Runs.{run_passes}
use Rattle.sql_lexer.proofs.Codes.{code_of_run}
use Rattle.sql_lexer.proofs.lexing.word.Goals as goal

pub keyword_of-requires-clause-bytes : goal.keyword_of-requires-clause-bytes
keyword_of-requires-clause-bytes c = rw c.word_code-length.ensures.value (run_passes is_word_byte c.args.rest.now)

pub keyword_of-requires-clause-code : goal.keyword_of-requires-clause-code
keyword_of-requires-clause-code c = rw c.word_code-length.ensures.value (c.word_code-length.ensures.code ∙ code_of_run c.args.rest.now 0)
