use denote.Param.Send.{sendable}
use Rattle.shard_run.proofs.Sent.{entry_send}
use Rattle.session.proofs.session_core.begins_with.Goals as goal

pub session-requires-send-L-Entry : goal.session-requires-send-L-Entry
session-requires-send-L-Entry g c κs within = search (entry_send, sendable)
