use Rattle.shard_calls.proofs.transactions.read_first.Goals as goal

pub read_at-requires-clause-tied : goal.read_at-requires-clause-tied
read_at-requires-clause-tied g c = rw (← c.tx.view_is) at c.requires.tied
