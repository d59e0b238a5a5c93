use Rattle.std.proofs.Common.{◌≡◌, drop}
use Rattle.sql_lexer.specs.declared.body.TextState.TheVariants.{Inside}
use Rattle.sql_lexer.specs.inner.Scanning.{text_len}
use Rattle.sql_lexer.proofs.body.text_len.Given as goal

abbrev pub invariant-loop-count : goal.invariant-loop-count
invariant-loop-count l = text_len l.count l.state (drop l.count l.bytes) ≡ text_len 0 Inside l.bytes
