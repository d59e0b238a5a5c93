use denote.Param.Send.{sendable}
use Rattle.shard_run.proofs.Sent.{entry_send}
use Rattle.test_engine.proofs.shard_limits.playing.act_in.Goals as goal

pub named-requires-send-L-Entry : goal.named-requires-send-L-Entry
named-requires-send-L-Entry g c κs within = search (entry_send, sendable)
