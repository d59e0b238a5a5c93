-- A connection may go to another thread, and a reference to what it is served by may, whatever the world.
use denote.RattleType.{RattleType}
use denote.Param.Send.{IsSend, IsSync, AllSync, recorded_send, recorded_sync, struct_send, struct_sync, shr_send, shr_sync, sendable}
use denote.Struct.Declared.{shape}
use denote.Struct.Field.{shr_ref_field}
use denote.Struct.Tuple.{TupleAt, field_at, type_at}
use Rattle.std.proofs.Common.{ℕ, List, [], ◌∷◌}
use Rattle.journal.specs.declared.law.Naming as naming
use Rattle.journal.specs.contracts.looking.LookingPass as looking
use Rattle.journal.proofs.looking.LookingPass.TheSendSync as sent_looking
use Rattle.journal.specs.contracts.opener.Opener as opener_row
use Rattle.log.specs.declared.logger.Log as log
use Rattle.std.specs.declared.time.Clock as clock
use Rattle.journal.proofs.opener.Opener.TheSendSync as opener
use Rattle.session.proofs.Sent.{pass_send}
use Rattle.shard.specs.contracts.world.ShardLaw as law
use Rattle.shard.specs.contracts.world.ShardLawLaw.TheImpl as laws
use Rattle.shard_run.specs.contracts.Entry as entry
use Rattle.shard_run.proofs.Sent.{entry_send}
use Rattle.shard.specs.declared.world.World as world
use Rattle.std.proofs.net.tcp.TcpStream.TheSendSync as stream
use Rattle.std.proofs.net.tcp.TcpListener.TheSendSync as listener
use Rattle.std.proofs.net.socket_addr.SocketAddr.TheSendSync as address
use Rattle.std.proofs.time.Instant.TheSendSync as instant
use Rattle.std.proofs.Crossing as std
use Rattle.std.proofs.alloc.Global.TheSendSync as sent_heap
use Rattle.session.proofs.Shared.{engine_sync}
use Rattle.vtgate_clients.specs.contracts.connection.Connection as connection
use Rattle.vtgate_clients.proofs.progress.ServeProgress.TheSendSync as progress
use Rattle.vtgate_clients.specs.contracts.acceptor.Acceptor as acceptor
use Rattle.vtgate_clients.specs.contracts.client.ClientDevice as client
use Rattle.vtgate_clients.specs.contracts.client.Traffic as traffic
use Rattle.vtgate_clients.specs.contracts.socket.SocketDevice as socket
use Rattle.vtgate_clients.proofs.socket.SocketDevice.TheSendSync as sent_socket
use Rattle.vtgate_clients.specs.contracts.server.Server as server
use Rattle.vtgate_clients.specs.contracts.turns.Talking as talking
use Rattle.vtgate_clients.specs.contracts.turns.Talk as talk
use Rattle.vtgate_clients.proofs.admission.Admission.TheSendSync as admission
use Rattle.vtgate_clients.proofs.arrivals.Arrivals.TheSendSync as arrivals
use Rattle.vtgate_clients.proofs.client.Traffic.TheSendSync as sent_traffic
use Rattle.session.proofs.SentTurns.{conversation_send}

-- captures that threads may each share
pub captures_sync : (n : List ℕ) (rs : List RattleType) → AllSync (shape (type_at n rs)).fields → IsSync (TupleAt n rs)
captures_sync n rs all = recorded_sync (field_at n rs).row _ _ (type_at n rs).to_one (struct_sync (shape (type_at n rs)) all)

module _ (W J : RattleType) (w : world.Ghosts W.Denot) (j : naming.Ghosts J.Denot) where
  pub connection_send : IsSend (connection.the_row W J j w)
  connection_send =
      recorded_send (connection.the_field W J j w).row _ _ (connection.the_type W J j w).to_one
      (struct_send (shape (connection.the_type W J j w)) (search sendable, (stream.the_field_send, (address.the_field_send, (pass_send W J w j, tt)))))

  opener_send : IsSend (opener_row.the_row (law.the_row W) J entry.the_row j (laws.ghosts W w laws.no_dict))
  opener_send = opener.the_send (law.the_row W) J entry.the_row j (laws.ghosts W w laws.no_dict) entry_send

  looking_send : IsSend (looking.the_row (law.the_row W) J entry.the_row (laws.ghosts W w laws.no_dict) j)
  looking_send = sent_looking.the_send (law.the_row W) J entry.the_row (laws.ghosts W w laws.no_dict) j entry_send

  -- an acceptor whose progress may be shared
  pub acceptor_send : (ℓ : _) → IsSend (acceptor.the_row ℓ W J j w)
  acceptor_send ℓ =
      recorded_send (acceptor.the_field ℓ W J j w).row _ _ (acceptor.the_type ℓ W J j w).to_one
      (struct_send (shape (acceptor.the_type ℓ W J j w)) (shr_send _ _ _ listener.the_sync, (opener_send, (looking_send, (shr_send _ _ _ progress.the_sync, search (instant.the_send, std.crosses, sendable))))))

module _ (R : RattleType) (shared : IsSync R) where
  client_send : (ℓ : _) → IsSend (client.the_row ℓ R socket.the_row)
  client_send ℓ =
      recorded_send (client.the_field ℓ R socket.the_row).row _ _ (client.the_type ℓ R socket.the_row).to_one
      (struct_send (shape (client.the_type ℓ R socket.the_row))
      (shr_send _ _ _ shared, (sent_socket.the_send, (search (sent_traffic.the_send, std.crosses, sendable), (search (std.crosses, sendable), (search (std.crosses, sendable), (search (std.crosses, sendable), tt)))))))

module _ (W J R : RattleType) (w : world.Ghosts W.Denot) (j : naming.Ghosts J.Denot) (l : log.Ghosts R.Denot) (k : clock.Ghosts R.Denot) (shared : IsSync R) where
  talking_send : (ℓ : _) → IsSend (talking.the_row ℓ W J R j l w k)
  talking_send ℓ =
      recorded_send (talking.the_field ℓ W J R j l w k).row _ _ (talking.the_type ℓ W J R j l w k).to_one
      (struct_send (shape (talking.the_type ℓ W J R j l w k)) (
        shr_send _ _ _ (admission.the_sync _),
        (
          search sendable,
          (
            address.the_field_send,
            (
              search (instant.the_send, std.crosses, sendable),
              (conversation_send W J (client.the_row ℓ R socket.the_row) w j _ (client_send R shared ℓ), (search (std.crosses, sendable) depth 60 fits 20000, tt)),
            ),
          ),
        ),
      ))

  -- a connection between two turns
  pub talk_send : (ℓ : _) → IsSend (talk.the_row ℓ W J R j l w k)
  talk_send ℓ =
      recorded_send (talk.the_field ℓ W J R j l w k).row _ _ (talk.the_type ℓ W J R j l w k).to_one
      (struct_send (shape (talk.the_type ℓ W J R j l w k))
      (shr_send _ _ _ shared, (shr_send _ _ _ arrivals.the_sync, (search sendable, (std.Vec-send _ (talking_send ℓ), tt)))))

module _ (W J R : RattleType) (w : world.Ghosts W.Denot) (j : naming.Ghosts J.Denot) (shared : IsSync R) where
  -- what all threads of a server share
  pub server_sync : (ℓ : _) (G : RattleType) (gate : IsSync G) → IsSync (server.the_row ℓ W J G R w j)
  server_sync ℓ G gate =
      recorded_sync (server.the_field ℓ W J G R w j).row _ _ (server.the_type ℓ W J G R w j).to_one
      (struct_sync (shape (server.the_type ℓ W J G R w j))
      (shr_sync _ _ _ shared, (sent_heap.the_field_sync, (shr_sync _ _ _ (engine_sync W J w j G gate), (shr_sync _ _ _ (admission.the_sync _), (shr_sync _ _ _ progress.the_sync, tt))))))

  -- a closure that captures no more than a reference to that
  pub shares_server : (ℓ : _) (κ : _) (n : List ℕ) (G : RattleType) (gate : IsSync G) → IsSync (TupleAt n ((shr_ref_field κ (server.the_row ℓ W J G R w j) tt).row ∷ []))
  shares_server ℓ κ n G gate =
      captures_sync n ((shr_ref_field κ (server.the_row ℓ W J G R w j) tt).row ∷ []) (shr_sync _ _ (server.the_row ℓ W J G R w j) (server_sync ℓ G gate), tt)
