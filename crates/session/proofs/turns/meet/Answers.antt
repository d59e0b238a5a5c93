use denote.Param.Send.{sendable}
use Rattle.shard_run.proofs.Sent.{entry_send}
use Rattle.session.proofs.turns.meet.Goals as goal

pub session-requires-send-L-Entry : goal.session-requires-send-L-Entry
session-requires-send-L-Entry g c κs within = search (entry_send, sendable)
