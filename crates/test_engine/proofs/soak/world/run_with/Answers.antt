use denote.RattleType.{RattleType}
use denote.Exit.{no}
use denote.Param.{param}
use denote.Param.Send.{IsSync, param_send, arg_send, shr_send}
use denote.Struct.Field.{shr_ref_field}
use denote.Struct.Tuple.{TupleAt}
use Rattle.std.proofs.Common.{List, [], ◌∷◌}
use Rattle.std.proofs.Crossing as std
use Rattle.std.specs.contracts.alloc.Global as heap
use Rattle.std.proofs.alloc.Global.TheSendSync as sent_heap
use Rattle.std_alloc.specs.contracts.vec.Vec as vec
use Rattle.std_heap.specs.contracts.GlobalAllocator.TheImpl as allocator
use Rattle.admin.specs.Engine as engine
use Rattle.admin.proofs.Shared.{engine_sync}
use Rattle.shard_calls.specs.contracts.gate.Open as gate
use Rattle.shard_calls.proofs.gate.Open.TheSendSync as sent_gate
use Rattle.shard_calls.proofs.Sent.{captures_send}
use Rattle.test_engine.specs.contracts.soak.session.Client as client
use Rattle.test_engine.specs.contracts.soak.watch.Watch as watch
use Rattle.test_engine.proofs.soak.watch.Watch.TheSendSync as sent_watch
use Rattle.test_engine.proofs.soak.Sent.{client_send}
use Rattle.test_engine.proofs.soak.world.run_with.Goals as goal

-- what the sessions' closure captures: the handle, the allocator, the engine, the watch and the clients
pub join-requires-send-F : goal.join-requires-send-F
join-requires-send-F g c κs within =
    let W = param 0 g.row.W in
    let J = param 1 g.row.J in
    let E = engine.the_row W J gate.the_row g.W.World g.J.Naming in
    let C = client.the_row W J g.J.Naming g.W.World in
    let r : IsSync (param 2 g.row.R) = c.type_bounds.sync-R in
    let captures : List RattleType =
    (shr_ref_field _ (param 2 g.row.R) tt).row ∷ heap.the_row ∷ (shr_ref_field _ E tt).row
    ∷ watch.the_row _ ∷ vec.the_row C heap.the_row allocator.ghosts ∷ [] in
    param_send 1 _ (arg_send _ no (TupleAt _ captures) (captures_send _ captures (
      shr_send _ _ (param 2 g.row.R) r,
      (
        sent_heap.the_send,
        (
          shr_send _ _ E (engine_sync W J g.W.World g.J.Naming gate.the_row sent_gate.the_sync),
          (sent_watch.the_send _, (std.Vec-send _ (client_send W J g.W.World g.J.Naming), tt)),
        ),
      ),
    )))
