use denote.Param.Send.{sendable}
use Rattle.shard_run.proofs.Sent.{entry_send}
use Rattle.test_engine.proofs.shard_limits.playing.Session.next_statement.Goals as goal

pub next_statement-requires-send-L-Entry : goal.next_statement-requires-send-L-Entry
next_statement-requires-send-L-Entry g c κs within = search (entry_send, sendable)
