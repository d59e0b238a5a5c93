use denote.Exit.{no}
use denote.Param.{param}
use denote.Param.Send.{param_send, param_sync, arg_send, arg_sync}
use Rattle.vtgate_clients.specs.contracts.connection.Connection as connection
use Rattle.vtgate_clients.specs.contracts.turns.Talk as talk
use Rattle.vtgate_clients.proofs.Sent.{connection_send, talk_send, shares_server}
use Rattle.vtgate_clients.proofs.workers.run_workers.Goals as goal

pub run_turns-requires-send-T : goal.run_turns-requires-send-T
run_turns-requires-send-T g c κs within =
    let W = param 0 g.row.W in
    let J = param 1 g.row.J in
    param_send 0 _ (arg_send _ no (connection.the_row W J g.J.Naming g.W.World) (connection_send W J g.W.World g.J.Naming))

pub run_turns-requires-send-C : goal.run_turns-requires-send-C
run_turns-requires-send-C g c κs within =
    let W = param 0 g.row.W in
    let J = param 1 g.row.J in
    let R = param 3 g.row.R in
    param_send 1 _ (arg_send _ no _ (talk_send W J R g.W.World g.J.Naming g.R.Log g.R.Clock c.type_bounds.sync-R _))

-- the closure that begins captures the server
pub run_turns-requires-sync-B : goal.run_turns-requires-sync-B
run_turns-requires-sync-B g c κs within =
    let W = param 0 g.row.W in
    let J = param 1 g.row.J in
    let G = param 2 g.row.G in
    let R = param 3 g.row.R in
    param_sync 4 _ (arg_sync _ no _ (shares_server W J R g.W.World g.J.Naming c.type_bounds.sync-R _ _ _ G c.type_bounds.sync-G))

-- and so does the one that takes turns
pub run_turns-requires-sync-F : goal.run_turns-requires-sync-F
run_turns-requires-sync-F g c κs within =
    let W = param 0 g.row.W in
    let J = param 1 g.row.J in
    let G = param 2 g.row.G in
    let R = param 3 g.row.R in
    param_sync 5 _ (arg_sync _ no _ (shares_server W J R g.W.World g.J.Naming c.type_bounds.sync-R _ _ _ G c.type_bounds.sync-G))
