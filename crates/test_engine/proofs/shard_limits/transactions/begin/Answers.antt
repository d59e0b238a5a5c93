use denote.Param.Send.{sendable}
use Rattle.shard_run.proofs.Sent.{entry_send}
use Rattle.test_engine.proofs.shard_limits.transactions.begin.Goals as goal

pub session-requires-send-L-Entry : goal.session-requires-send-L-Entry
session-requires-send-L-Entry g c κs within = search (entry_send, sendable)
