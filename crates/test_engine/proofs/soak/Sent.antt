-- What goes to a session's thread may, and what threads share may be shared, whatever the world.
use denote.RattleType.{RattleType}
use denote.Param.Send.{IsSend, IsSync, AllSync, recorded_send, recorded_sync, struct_send, struct_sync}
use denote.Struct.Declared.{shape}
use denote.Struct.Tuple.{TupleAt, field_at, type_at}
use Rattle.std.proofs.Common.{ℕ, List}
use Rattle.journal.specs.declared.law.Naming as naming
use Rattle.shard_calls.proofs.Sent.{pass_send}
use Rattle.shard_calls.specs.World as world
use Rattle.test_engine.proofs.soak_model.session_model.SessionModel.TheSendSync as book
use Rattle.test_engine.specs.contracts.soak.session.Client as client

-- captures that threads may each share
pub captures_sync : (n : List ℕ) (rs : List RattleType) → AllSync (shape (type_at n rs)).fields → IsSync (TupleAt n rs)
captures_sync n rs all = recorded_sync (field_at n rs).row _ _ (type_at n rs).to_one (struct_sync (shape (type_at n rs)) all)

module _ (W J : RattleType) (w : world.Ghosts W.Denot) (j : naming.Ghosts J.Denot) where
  pub client_send : IsSend (client.the_row W J j w)
  client_send =
      recorded_send (client.the_field W J j w).row _ _ (client.the_type W J j w).to_one
      (struct_send (shape (client.the_type W J j w)) (pass_send W J w j, (book.the_field_send, tt)))
