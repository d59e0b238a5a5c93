use denote.Param.Send.{sendable}
use Rattle.shard_run.proofs.Sent.{entry_send}
use Rattle.vtgate_serve.proofs.ports.serve_router.Goals as goal

-- A pass that may only look may be split off,
-- since an entry may go to another thread.
pub split-requires-send-L-Entry : goal.split-requires-send-L-Entry
split-requires-send-L-Entry g c κs within = search (entry_send, sendable)
