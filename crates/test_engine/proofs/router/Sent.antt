-- A session may go to another thread, whatever the world.
use denote.RattleType.{RattleType}
use denote.Param.Send.{IsSend, IsSync, recorded_send, struct_send, shr_send, sendable}
use denote.Struct.Declared.{shape}
use Rattle.journal.specs.declared.law.Naming as naming
use Rattle.shard_calls.specs.World as world
use Rattle.shard_calls.proofs.Sent.{pass_send}
use Rattle.admin.proofs.Shared.{engine_sync}
use Rattle.test_engine.specs.contracts.router.gate.HoldsFirst as gate
use Rattle.test_engine.proofs.router.gate.HoldsFirst.TheSendSync as sent_gate
use Rattle.test_engine.specs.contracts.router.session.Session as session

module _ (ℓ : _) (W J R : RattleType) (w : world.Ghosts W.Denot) (j : naming.Ghosts J.Denot) (shared : IsSync R) where
  pub session_send : IsSend (session.the_row ℓ W J R j w)
  session_send =
      recorded_send (session.the_field ℓ W J R j w).row _ _ (session.the_type ℓ W J R j w).to_one
      (struct_send (shape (session.the_type ℓ W J R j w)) (
        shr_send _ _ R shared,
        (search sendable, (shr_send _ _ _ (engine_sync W J w j gate.the_row sent_gate.the_sync), (pass_send W J w j, tt))),
      ))
