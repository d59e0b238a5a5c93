use denote.RattleType.{RattleType}
use denote.Exit.{no}
use denote.Param.{param}
use denote.Param.Send.{IsSync, param_send, arg_send, shr_send}
use denote.Struct.Field.{shr_ref_field}
use denote.Struct.Tuple.{TupleAt}
use Rattle.std.proofs.Common.{List, [], ◌∷◌}
use Rattle.shard_calls.proofs.Sent.{captures_send, shard_shared}
use Rattle.shard_calls.specs.Shard as locked
use Rattle.test_engine.specs.contracts.router.gate.Signals as signals
use Rattle.test_engine.proofs.router.gate.Signals.TheSendSync as sent_signals
use Rattle.test_engine.proofs.router.stage.play_with_lock.Goals as goal

-- what the first thread's closure captures: the handle, the shard and the signals
pub join-wrong-requires-send-F : goal.join-wrong-requires-send-F
join-wrong-requires-send-F g c κs within =
    let W = param 0 g.row.W in
    let J = param 1 g.row.J in
    let R = param 2 g.row.R in
    let S = locked.the_row W J g.W.World g.J.Naming in
    let r : IsSync R = c.type_bounds.sync-R in
    let captures : List RattleType =
    (shr_ref_field _ R tt).row ∷ (shr_ref_field _ S tt).row ∷ (shr_ref_field _ signals.the_row tt).row ∷ [] in
    param_send 1 _ (arg_send _ no (TupleAt _ captures) (captures_send _ captures
    (shr_send _ _ R r, (shr_send _ _ S (shard_shared W J g.W.World g.J.Naming), (shr_send _ _ signals.the_row sent_signals.the_sync, tt)))))
