use Rattle.std.proofs.Common.{◌≡◌, ◌+◌, not, eqb, drop}
use Rattle.sql_lexer.specs.inner.Scanning.{run}
use Rattle.client_statements.proofs.sets.set_len.Given as goal

abbrev pub invariant-loop-byte : goal.invariant-loop-byte
invariant-loop-byte l = record {
  index : l.count ≡ l.byte-index;
  rest : l.count + run (λ b. not (eqb b 0x5F)) (drop l.byte-index l.name) ≡ run (λ b. not (eqb b 0x5F)) l.name;
}
