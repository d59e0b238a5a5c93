use Rattle.std.proofs.Common.{[]}
use Rattle.shard_calls.proofs.transactions.read_nothing.Goals as goal

pub returns-clause-rows : goal.returns-clause-rows
returns-clause-rows c = rw c.new.ensures (c.in_ok-ordinals.ensures.ok.answers [] c.in_ok-rows.rows (rw c.query.ensures at c.in_ok-rows.ensures.ok))
