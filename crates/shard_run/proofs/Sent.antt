-- An entry may go to another thread, and a reference to it may.
use denote.Param.Send.{IsSend, IsSync, sendable}
use Rattle.std.proofs.Crossing as std
use Rattle.vschema.proofs.ThelawsTheKnot as condition
use Rattle.shard_run.specs.contracts.Entry.{the_row}

pub entry_send : IsSend the_row
entry_send = search (std.crosses, condition.crosses, sendable) depth 60 fits 20000

pub entry_sync : IsSync the_row
entry_sync = search (std.crosses, condition.crosses, sendable) depth 60 fits 20000
