use denote.Param.Send.{sendable}
use Rattle.shard_run.proofs.Sent.{entry_send}
use Rattle.test_engine.proofs.router.scenes.play_in_world.Goals as goal

pub new-requires-send-L-Entry : goal.new-requires-send-L-Entry
new-requires-send-L-Entry g c κs within = search (entry_send, sendable)
