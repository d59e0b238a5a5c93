use Rattle.std.proofs.Common.{◌≡◌, drop}
use Rattle.client_statements.specs.declared.tokens.body.TextState.TheVariants.{Inside}
use Rattle.client_statements.specs.tokens.inner.Scanning.{text_len}
use Rattle.client_statements.proofs.tokens.body.text_len.Given as goal

abbrev pub invariant-loop-count : goal.invariant-loop-count
invariant-loop-count l = text_len l.quote l.count l.state (drop l.count l.bytes) ≡ text_len l.quote 0 Inside l.bytes
