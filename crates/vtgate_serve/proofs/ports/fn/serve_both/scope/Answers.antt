use denote.RattleType.{RattleType}
use denote.Exit.{no}
use denote.Param.{param}
use denote.Param.Send.{IsSync, param_send, arg_send, shr_send}
use denote.Struct.Field.{shr_ref_field}
use denote.Struct.Tuple.{TupleAt}
use Rattle.std.proofs.Common.{List, [], ◌∷◌}
use Rattle.std.specs.contracts.alloc.Global as heap
use Rattle.std.proofs.alloc.Global.TheSendSync as sent_heap
use Rattle.admin.specs.Engine as engine
use Rattle.vtgate_clients.proofs.SentPasses.{captures_send}
use Rattle.admin.proofs.Shared.{engine_sync}
use Rattle.vtgate_clients.specs.contracts.admission.Admission as admission
use Rattle.vtgate_clients.specs.contracts.acceptor.Acceptor as acceptor
use Rattle.vtgate_clients.specs.contracts.progress.ServeProgress as progress
use Rattle.vtgate_clients.proofs.admission.Admission.TheSendSync as sent_admission
use Rattle.vtgate_clients.proofs.progress.ServeProgress.TheSendSync as sent_progress
use Rattle.vtgate_clients.proofs.Sent.{acceptor_send}
use Rattle.vtgate_serve.proofs.ports.fn.serve_both.scope.Goals as goal

-- what the closure captures: the handle, the allocator, the engine, the admission, the progress and the acceptor
pub spawn-requires-send-F : goal.spawn-requires-send-F
spawn-requires-send-F g c κs within =
    let W = param 0 g.row.W in
    let J = param 1 g.row.J in
    let G = param 2 g.row.G in
    let E = engine.the_row W J G g.W.World g.J.Naming in
    let r : IsSync (param 3 g.row.R) = c.requires.0 in
    let gate : IsSync (param 2 g.row.G) = c.requires.1 in
    let captures : List RattleType =
    (shr_ref_field _ (param 3 g.row.R) tt).row ∷ heap.the_row ∷ (shr_ref_field _ E tt).row ∷ (shr_ref_field _ (admission.the_row _) tt).row
    ∷ (shr_ref_field _ progress.the_row tt).row ∷ acceptor.the_row _ W J g.J.Naming g.W.World ∷ [] in
    param_send 1 _ (arg_send _ no (TupleAt _ captures) (captures_send _ captures (
      shr_send _ _ (param 3 g.row.R) r,
      (
        sent_heap.the_send,
        (
          shr_send _ _ E (engine_sync W J g.W.World g.J.Naming G gate),
          (
            shr_send _ _ (admission.the_row _) (sent_admission.the_sync _),
            (shr_send _ _ progress.the_row sent_progress.the_sync, (acceptor_send W J g.W.World g.J.Naming _, tt)),
          ),
        ),
      ),
    )))

-- and the thread that watches the shards: the handle, the engine and the progress
pub spawn-requires-then-is_logged-send-F : goal.spawn-requires-then-is_logged-send-F
spawn-requires-then-is_logged-send-F g c κs within =
    let W = param 0 g.row.W in
    let J = param 1 g.row.J in
    let G = param 2 g.row.G in
    let E = engine.the_row W J G g.W.World g.J.Naming in
    let r : IsSync (param 3 g.row.R) = c.requires.0 in
    let gate : IsSync (param 2 g.row.G) = c.requires.1 in
    let captures : List RattleType =
    (shr_ref_field _ (param 3 g.row.R) tt).row ∷ (shr_ref_field _ E tt).row ∷ (shr_ref_field _ progress.the_row tt).row ∷ [] in
    param_send 1 _ (arg_send _ no (TupleAt _ captures) (captures_send _ captures (
      shr_send _ _ (param 3 g.row.R) r,
      (shr_send _ _ E (engine_sync W J g.W.World g.J.Naming G gate), (shr_send _ _ progress.the_row sent_progress.the_sync, tt)),
    )))
