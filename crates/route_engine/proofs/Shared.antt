-- A reference to an engine may go to another thread, and a transaction may, whatever the world.
use denote.RattleType.{RattleType}
use denote.Param.Send.{IsSend, IsSync, view_send, view_sync, recorded_send, recorded_sync, struct_send, struct_sync, sendable}
use denote.Struct.Declared.{shape}
use Rattle.std.proofs.Crossing as std
use Rattle.journal.specs.declared.law.Naming as naming
use Rattle.buffer.proofs.waiting.Buffer.TheSendSync as buffer
use Rattle.route_engine.specs.contracts.engine.Engine as engine
use Rattle.route_engine.specs.contracts.engine.Engine.TheInside as engine_inside
use Rattle.serving.specs.contracts.published.Serving as serving
use Rattle.serving.proofs.published.Serving.TheSendSync as sent_serving
use Rattle.serving.specs.contracts.partition.ShardReference as reference
use Rattle.serving.specs.contracts.partition.Partition as partition
use Rattle.serving.proofs.partition.ShardReference.TheSendSync as sent_reference
use Rattle.serving.proofs.partition.Partition.TheSendSync as sent_partition
use Rattle.vschema.proofs.schema.VSchema.TheSendSync as schema
use Rattle.vschema.proofs.schema.Place.TheSendSync as place
use Rattle.shard_calls.specs.World as world
use Rattle.shard_calls.specs.Shard as locked
use Rattle.shard_calls.specs.Shard.TheInside as locked_inside
use Rattle.shard_calls.specs.ShardSeated.TheImpl as seated
use Rattle.shard_calls.specs.ShardState as state
use Rattle.shard_calls.proofs.StatelockTheSendSync as lock
use Rattle.shard_calls.specs.ShardLawLaw.TheImpl as laws
use Rattle.shard_calls.proofs.Sent.{state_send, shard_shared}
use Rattle.shard_calls.specs.contracts.tx.Bound as bound
use Rattle.shard_calls.specs.contracts.tx.Bound.TheInside as bound_inside
use Rattle.shard_calls.specs.contracts.tx.OpenTx as open_tx
use Rattle.shard_calls.specs.contracts.tx.OpenTx.TheInside as open_inside
use Rattle.shard_calls.specs.contracts.tx.Tx as tx
use Rattle.shard_calls.specs.contracts.tx.Tx.TheInside as tx_inside
use Rattle.shard_contents.specs.contracts.pending.Pending as pending
use Rattle.shard_contents.proofs.own_changes.OwnChanges.TheSendSync as own
use Rattle.sql_tree.proofs.Condition.TheLaws.TheKnot as condition

pending_send : IsSend pending.the_row
pending_send = search (own.the_send, std.crosses, condition.crosses, sendable) depth 60 fits 20000

module _ (W J : RattleType) (w : world.Ghosts W.Denot) (j : naming.Ghosts J.Denot) where
  shard_sent : IsSend (locked.the_row W J w j)
  shard_sent =
      view_send _ _ _ _ _
      (recorded_send (locked_inside.the_field W J w j).row _ _ (locked_inside.the_type W J w j).to_one
      (struct_send (shape (locked_inside.the_type W J w j)) (search sendable, (place.the_field_send, (lock.the_field_send (state.the_row W J w j) (state_send W J w j), tt)))))

  partitions_sync : IsSync (serving.the_row (locked.the_row W J w j) (seated.ghosts W J w laws.no_dict j laws.no_dict))
  partitions_sync = sent_serving.the_sync (locked.the_row W J w j) (seated.ghosts W J w laws.no_dict j laws.no_dict) shard_sent (shard_shared W J w j)

  reference_send : IsSend (reference.the_row (locked.the_row W J w j) (seated.ghosts W J w laws.no_dict j laws.no_dict))
  reference_send = sent_reference.the_send (locked.the_row W J w j) (seated.ghosts W J w laws.no_dict j laws.no_dict) shard_sent (shard_shared W J w j)

  partition_send : IsSend (partition.the_row (locked.the_row W J w j) (seated.ghosts W J w laws.no_dict j laws.no_dict))
  partition_send = sent_partition.the_send (locked.the_row W J w j) (seated.ghosts W J w laws.no_dict j laws.no_dict) shard_sent (shard_shared W J w j)

  bound_send : IsSend (bound.the_row W J w j)
  bound_send =
      view_send _ _ _ _ _
      (recorded_send (bound_inside.the_field W J w j).row _ _ (bound_inside.the_type W J w j).to_one
      (struct_send (shape (bound_inside.the_type W J w j)) (search sendable, (reference_send, (partition_send, tt)))))

  open_send : IsSend (open_tx.the_row W J w j)
  open_send =
      view_send _ _ _ _ _
      (recorded_send (open_inside.the_field W J w j).row _ _ (open_inside.the_type W J w j).to_one
      (struct_send (shape (open_inside.the_type W J w j)) (search (bound_send, std.crosses, sendable) depth 60 fits 20000, (pending_send, tt))))

  pub tx_send : IsSend (tx.the_row W J w j)
  tx_send =
      view_send _ _ _ _ _
      (recorded_send (tx_inside.the_field W J w j).row _ _ (tx_inside.the_type W J w j).to_one
      (struct_send (shape (tx_inside.the_type W J w j)) (search (open_send, std.crosses, sendable) depth 60 fits 20000, tt)))

  module _ (G : RattleType) (shared : IsSync G) where
    inside_sync : IsSync (engine_inside.the_row W J G w j)
    inside_sync =
        recorded_sync (engine_inside.the_field W J G w j).row _ _ (engine_inside.the_type W J G w j).to_one
        (struct_sync (shape (engine_inside.the_type W J G w j))
        (schema.the_field_sync, (std.Vec-sync _ partitions_sync, (buffer.the_field_sync, (shared, tt)))))

    pub engine_sync : IsSync (engine.the_row W J G w j)
    engine_sync = view_sync _ _ _ _ _ inside_sync
