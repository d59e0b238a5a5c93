use Rattle.resultset.specs.Encoding.{definition_payload, IsByteLong}
use Rattle.resultset.proofs.Lists.{ReadSoFar}
use Rattle.resultset.proofs.columns.columns.Given as goal

abbrev pub invariant-loop-payload : goal.invariant-loop-payload
invariant-loop-payload l = ReadSoFar (λ c. IsByteLong c.kind) definition_payload l.payloads l.payload-index l.columns
