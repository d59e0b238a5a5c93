-- A session and a conversation may go to another thread, whatever the world, if the conversation's device may.
use denote.RattleType.{RattleType}
use denote.Param.Send.{IsSend, view_send, recorded_send, struct_send, sendable}
use denote.Struct.Declared.{shape}
use Rattle.std.proofs.Crossing as std
use Rattle.std.proofs.alloc.Global.TheSendSync as sent_heap
use Rattle.bytes.proofs.unique.BytesMut.TheSendSync as bytes
use Rattle.journal.specs.declared.law.Naming as naming
use Rattle.mysql_packet.proofs.framer.Framer.TheSendSync as framer
use Rattle.route_engine.specs.World as world
use Rattle.route_engine.proofs.Sent.{pass_send}
use Rattle.route_engine.proofs.Shared.{tx_send}
use Rattle.session.specs.contracts.session_core.Core as core
use Rattle.session.specs.contracts.session_core.Core.TheInside as core_inside
use Rattle.session.specs.contracts.session_core.CoreState as core_state
use Rattle.session.specs.contracts.conversation.responder.ReplyState as replies
use Rattle.session.specs.declared.conversation.device.Device as device
use Rattle.session.specs.contracts.turns.Conversation as conversation
use Rattle.session.specs.contracts.turns.Conversation.TheInside as inside
use Rattle.session.proofs.conversation.connection_state.ConnectionState.TheSendSync as state
use Rattle.session.proofs.conversation.access.Handshake.TheSendSync as handshake

module _ (W J : RattleType) (w : world.Ghosts W.Denot) (j : naming.Ghosts J.Denot) where
  replies_send : IsSend (replies.the_field W J w j).row
  replies_send =
      struct_send (shape (replies.the_type W J w j)) (tx_send W J w j, (search (bytes.the_send, sent_heap.the_send, sent_heap.the_sync, std.crosses, sendable), tt))

  core_state_send : IsSend (core_state.the_field W J w j).row
  core_state_send =
      struct_send (shape (core_state.the_type W J w j)) (framer.the_send, (state.the_field_send, (replies_send, tt)))

  pub core_send : IsSend (core.the_row W J w j)
  core_send =
      view_send _ _ _ _ _
      (recorded_send (core_inside.the_field W J w j).row _ _ (core_inside.the_type W J w j).to_one
      (struct_send (shape (core_inside.the_type W J w j)) (core_state_send, (handshake.the_field_send, tt))))

module _ (W J D : RattleType) (w : world.Ghosts W.Denot) (j : naming.Ghosts J.Denot) (d : device.Ghosts D.Denot) (sent : IsSend D) where
  inside_send : IsSend (inside.the_row W J D w j d)
  inside_send =
      recorded_send (inside.the_field W J D w j d).row _ _ (inside.the_type W J D w j d).to_one
      (struct_send (shape (inside.the_type W J D w j d)) (
        core_send W J w j,
        (
          pass_send W J w j,
          (
            search (sent, sendable),
            (
              search (std.crosses, sendable) depth 60 fits 20000,
              (
                search (std.crosses, sendable) depth 60 fits 20000,
                (
                  search (std.crosses, sendable) depth 60 fits 20000,
                  (search (std.crosses, sendable) depth 60 fits 20000, (search (std.crosses, sendable) depth 60 fits 20000, tt)),
                ),
              ),
            ),
          ),
        ),
      ))

  pub conversation_send : IsSend (conversation.the_row W J D w j d)
  conversation_send = view_send _ _ _ _ _ inside_send
