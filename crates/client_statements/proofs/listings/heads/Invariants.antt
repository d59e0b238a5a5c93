use Rattle.std.proofs.Common.{◌≡◌, map, take}
use Rattle.client_statements.proofs.listings.heads.Given as goal

abbrev pub invariant-loop-name : goal.invariant-loop-name
invariant-loop-name l = l.heads ≡ map (λ n. n.now) (take l.name-index l.names)
