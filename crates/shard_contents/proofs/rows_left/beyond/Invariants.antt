use Rattle.std.proofs.Common.{◌≡◌, drop}
use Rattle.shard_contents.proofs.rows_left.beyond.Given as goal

-- so many rows are passed over
abbrev pub invariant-loop : goal.invariant-loop
invariant-loop l = l.rows ≡ drop l.counter l.fn.rows
