use denote.RattleType.{RattleType}
use denote.Exit.{no}
use denote.Param.{param}
use denote.Param.Send.{IsSync, param_send, param_sync, arg_send, arg_sync, shr_sync}
use denote.Struct.Field.{shr_ref_field}
use denote.Struct.Tuple.{TupleAt}
use Rattle.std.proofs.Common.{List, [], ◌∷◌}
use Rattle.std.specs.contracts.alloc.Global as heap
use Rattle.std.proofs.alloc.Global.TheSendSync as sent_heap
use Rattle.admin.specs.Engine as engine
use Rattle.admin.proofs.Shared.{engine_sync}
use Rattle.shard_calls.specs.contracts.gate.Open as gate
use Rattle.shard_calls.proofs.gate.Open.TheSendSync as sent_gate
use Rattle.test_engine.specs.contracts.soak.session.Client as client
use Rattle.test_engine.specs.contracts.soak.watch.Watch as watch
use Rattle.test_engine.proofs.soak.watch.Watch.TheSendSync as sent_watch
use Rattle.test_engine.proofs.soak.Sent.{captures_sync, client_send}
use Rattle.test_engine.proofs.soak.world.run_sessions.Goals as goal

pub map_vec-requires-send-J : goal.map_vec-requires-send-J
map_vec-requires-send-J g c κs within =
    let W = param 0 g.row.W in
    let J = param 1 g.row.J in
    param_send 1 _ (arg_send _ no (client.the_row W J g.J.Naming g.W.World) (client_send W J g.W.World g.J.Naming))

-- what the closure captures: the handle, the allocator, the engine and the watch
pub map_vec-requires-sync-F : goal.map_vec-requires-sync-F
map_vec-requires-sync-F g c κs within =
    let W = param 0 g.row.W in
    let J = param 1 g.row.J in
    let E = engine.the_row W J gate.the_row g.W.World g.J.Naming in
    let r : IsSync (param 2 g.row.R) = c.type_bounds.sync-R in
    let captures : List RattleType =
    (shr_ref_field _ (param 2 g.row.R) tt).row ∷ heap.the_row ∷ (shr_ref_field _ E tt).row ∷ watch.the_row _ ∷ [] in
    param_sync 4 _ (arg_sync _ no (TupleAt _ captures) (captures_sync _ captures (
      shr_sync _ _ (param 2 g.row.R) r,
      (sent_heap.the_sync, (shr_sync _ _ E (engine_sync W J g.W.World g.J.Naming gate.the_row sent_gate.the_sync), (sent_watch.the_sync _, tt))),
    )))
