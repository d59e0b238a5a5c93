use Rattle.std.proofs.Common.{◌≡◌, ◌+◌, drop}
use Rattle.std.specs.Prelude.{option_map}
use Rattle.client_statements.specs.tokens.inner.Scanning.{remark_len}
use Rattle.client_statements.proofs.tokens.blank.remark_len.Given as goal

abbrev pub invariant-loop-count : goal.invariant-loop-count
invariant-loop-count l = option_map (λ n. l.count + n) (remark_len (drop l.count l.bytes)) ≡ remark_len l.bytes
