use Rattle.std.proofs.Common.{rules}
use Rattle.client_statements.proofs.InTurn.{sorted_by_bytes}
use Rattle.client_statements.proofs.keyspaces.sort.Goals as goal

pub returns-clause-sorted : goal.returns-clause-sorted
returns-clause-sorted c = sorted_by_bytes _ c.sort_unstable_by.ensures.sorted (λ a r q k. search rules)
