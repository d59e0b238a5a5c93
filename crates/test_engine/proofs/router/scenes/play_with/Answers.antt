use denote.RattleType.{RattleType}
use denote.Exit.{no}
use denote.Param.{param}
use denote.Param.Send.{IsSync, param_send, arg_send, shr_send}
use denote.Struct.Field.{shr_ref_field}
use denote.Struct.Tuple.{TupleAt}
use Rattle.std.proofs.Common.{List, [], ◌∷◌}
use Rattle.shard_calls.proofs.Sent.{captures_send}
use Rattle.test_engine.specs.contracts.router.acts.ThirdStatement as asked
use Rattle.test_engine.specs.contracts.router.gate.Signals as signals
use Rattle.test_engine.specs.contracts.router.session.Session as session
use Rattle.test_engine.proofs.router.acts.ThirdStatement.TheSendSync as sent_asked
use Rattle.test_engine.proofs.router.gate.Signals.TheSendSync as sent_signals
use Rattle.test_engine.proofs.router.Sent.{session_send}
use Rattle.test_engine.proofs.router.scenes.play_with.Goals as goal

-- what the first thread's closure captures: the session, the signals and what is asked
pub join-told-requires-send-F : goal.join-told-requires-send-F
join-told-requires-send-F g c κs within =
    let W = param 0 g.row.W in
    let J = param 1 g.row.J in
    let R = param 2 g.row.R in
    let r : IsSync R = c.type_bounds.sync-R in
    let captures : List RattleType =
    session.the_row _ W J R g.J.Naming g.W.World ∷ (shr_ref_field _ signals.the_row tt).row ∷ asked.the_row ∷ [] in
    param_send 1 _ (arg_send _ no (TupleAt _ captures) (captures_send _ captures
    (session_send _ W J R g.W.World g.J.Naming r, (shr_send _ _ signals.the_row sent_signals.the_sync, (sent_asked.the_send, tt)))))
