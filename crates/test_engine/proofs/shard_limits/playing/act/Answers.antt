use denote.Param.Send.{sendable}
use Rattle.shard_run.proofs.Sent.{entry_send}
use Rattle.test_engine.proofs.shard_limits.playing.act.Goals as goal

pub open-requires-send-L-Entry : goal.open-requires-send-L-Entry
open-requires-send-L-Entry g c κs within = search (entry_send, sendable)

pub open-requires-2-send-L-Entry : goal.open-requires-2-send-L-Entry
open-requires-2-send-L-Entry g c κs within = search (entry_send, sendable)
