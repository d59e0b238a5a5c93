-- What a worker takes and gives may go to another thread, whatever the world.
use denote.RattleType.{RattleType}
use denote.Param.Send.{IsSend, IsSync, AllSend, view_send, view_sync, recorded_send, recorded_sync, struct_send, struct_sync, shr_send, sendable}
use denote.Struct.Declared.{shape}
use denote.Struct.Tuple.{TupleAt, field_at, type_at}
use Rattle.std.proofs.Common.{ℕ, List}
use Rattle.std.proofs.Crossing as std
use Rattle.journal.specs.declared.law.Naming as naming
use Rattle.journal.specs.contracts.pass.Pass as pass
use Rattle.journal.specs.contracts.looking.LookingPass as looking
use Rattle.journal.specs.contracts.seat.ShardSeat as seat
use Rattle.journal.proofs.pass.Pass.TheSendSync as sent_pass
use Rattle.journal.proofs.looking.LookingPass.TheSendSync as sent_looking
use Rattle.journal.proofs.seat.ShardSeat.TheSendSync as sent_seat
use Rattle.shard.specs.declared.world.World as world
use Rattle.shard.specs.Contents as contents
use Rattle.shard.specs.contracts.locked.Shard as locked
use Rattle.shard.specs.contracts.locked.Shard.TheInside as locked_inside
use Rattle.shard.specs.contracts.state.ShardState as state
use Rattle.shard.specs.contracts.state.ShardState.TheInside as state_inside
use Rattle.shard.specs.contracts.world.ShardLaw as law
use Rattle.shard.specs.contracts.world.ShardLawLaw.TheImpl as laws
use Rattle.shard.proofs.StoredtablesTheSendSync as store
use Rattle.shard.proofs.StoredentriesTheSendSync as stored
use Rattle.shard.proofs.SortedtablesTheSendSync as sorted
use Rattle.shard.specs.ShardRunEntry as entry
use Rattle.shard.specs.ShardRunShardRecord as which
use Rattle.vt_value.specs.contracts.Items as items
use Rattle.shard.proofs.Sent.{entry_send}
use Rattle.sql_tree.proofs.Condition.TheLaws.TheKnot as condition
use Rattle.vschema.specs.contracts.schema.Query as query
use Rattle.vschema.proofs.schema.Place.TheSendSync as place
use Rattle.std.proofs.alloc.AllocError.TheSendSync as refused
use Rattle.shard.proofs.ReadoutcomeTheSendSync as reading
use Rattle.shard.proofs.snapshot.BegunRead.TheSendSync as begun
use Rattle.shard_calls.specs.contracts.pieces.Piece as piece
use Rattle.shard_calls.specs.contracts.pieces.Piece.TheInside as piece_inside
use Rattle.shard_calls.specs.contracts.looks.LookedJob as looked
use Rattle.shard_calls.specs.contracts.scatter.ReadResult as done

-- captures that may each go to another thread
pub captures_send : (n : List ℕ) (rs : List RattleType) → AllSend (shape (type_at n rs)).fields → IsSend (TupleAt n rs)
captures_send n rs all = recorded_send (field_at n rs).row _ _ (type_at n rs).to_one (struct_send (shape (type_at n rs)) all)

pub query_send : IsSend query.the_field.row
query_send = search (std.crosses, condition.crosses, sendable) depth 60 fits 20000

query_sync : IsSync query.the_row
query_sync = search (std.crosses, condition.crosses, sendable) depth 60 fits 20000

piece_send : (ℓ : _) → IsSend (piece.the_row ℓ)
piece_send ℓ =
    view_send _ _ _ _ _
    (recorded_send (piece_inside.the_field ℓ).row _ _ (piece_inside.the_type ℓ).to_one
    (struct_send (shape (piece_inside.the_type ℓ)) (shr_send _ _ _ query_sync, (search (query_send, std.crosses, condition.crosses, sendable) depth 60 fits 20000, tt))))

contents_send : IsSend contents.the_field.row
contents_send = search (stored.the_send, store.the_send, std.crosses, sendable) depth 60 fits 20000

targets_send : IsSend (items.the_field which.the_row).row
targets_send = search (std.crosses, sendable) depth 60 fits 20000

module _ (W J : RattleType) (w : world.Ghosts W.Denot) (j : naming.Ghosts J.Denot) where
  pub pass_send : IsSend (pass.the_row (law.the_row W) J entry.the_row j (laws.ghosts W w laws.no_dict))
  pass_send = sent_pass.the_send (law.the_row W) J entry.the_row j (laws.ghosts W w laws.no_dict) entry_send

  pub looking_send : IsSend (looking.the_row (law.the_row W) J entry.the_row (laws.ghosts W w laws.no_dict) j)
  looking_send = sent_looking.the_send (law.the_row W) J entry.the_row (laws.ghosts W w laws.no_dict) j entry_send

  seat_send : IsSend (seat.the_row (law.the_row W) J entry.the_row j (laws.ghosts W w laws.no_dict))
  seat_send = sent_seat.the_send (law.the_row W) J entry.the_row j (laws.ghosts W w laws.no_dict) entry_send

  inside_send : IsSend (state_inside.the_row W J w j)
  inside_send = recorded_send (state_inside.the_field W J w j).row _ _ (state_inside.the_type W J w j).to_one (struct_send (shape (state_inside.the_type W J w j)) (seat_send, (contents_send, (sorted.the_send, (targets_send, (search sendable, (search (std.crosses, sendable) depth 60 fits 20000, tt)))))))

  pub state_send : IsSend (state.the_row W J w j)
  state_send = view_send _ _ _ _ _ inside_send

  pub shard_shared : IsSync (locked.the_row W J w j)
  shard_shared =
      view_sync _ _ _ _ _
      (recorded_sync (locked_inside.the_field W J w j).row _ _ (locked_inside.the_type W J w j).to_one
      (struct_sync (shape (locked_inside.the_type W J w j)) (search sendable, (place.the_field_sync, (search (state_send, std.crosses, sendable) depth 60 fits 20000, tt)))))

  pub looked_send : (ℓ : _) → IsSend (looked.the_row ℓ W J w j)
  looked_send ℓ =
      recorded_send (looked.the_field ℓ W J w j).row _ _ (looked.the_type ℓ W J w j).to_one
      (struct_send (shape (looked.the_type ℓ W J w j)) (search sendable, (search sendable, (piece_send ℓ, (search sendable, (looking_send, (search (begun.the_send, refused.the_send, std.crosses, sendable), tt)))))))

  pub done_send : IsSend (done.the_row W J w j)
  done_send =
      recorded_send (done.the_field W J w j).row _ _ (done.the_type W J w j).to_one
      (struct_send (shape (done.the_type W J w j)) (search sendable, (looking_send, (search (reading.the_send, refused.the_send, std.crosses, sendable), tt))))
