-- The line of a refusal is short.
use Rattle.std.proofs.Common.{◌+◌, ◌≤◌, length, lit≤}
use Rattle.vt_value.specs.declared.refusal.Refusal.{Refusal}
use Rattle.vt_value.specs.declared.refusal.Refusal.TheVariants.{OutOfMemory, SyntaxError, NotSupported, UnknownTable, UnknownColumn, UnknownKeyspace, AccessDenied, UnknownCommand, PacketTooLarge, PacketsOutOfOrder, BadHandshake, DuplicateKey, NullNotAllowed, NoDefaultValue, OutOfRange, TooLong, WrongValueCount, ColumnNamedTwice, NotGrouped, SeveralShards, Conflict, BufferFull, ShardMoved, ShardFull, UnknownVariable, NoKeyspace}
use Rattle.vt_value.specs.Refusals.{state_of, message_of}

pub short_words : (r : Refusal) → length (state_of r) + length (message_of r) ≤ 32
short_words OutOfMemory = lit≤ tt
short_words SyntaxError = lit≤ tt
short_words NotSupported = lit≤ tt
short_words UnknownTable = lit≤ tt
short_words UnknownColumn = lit≤ tt
short_words UnknownKeyspace = lit≤ tt
short_words AccessDenied = lit≤ tt
short_words UnknownCommand = lit≤ tt
short_words PacketTooLarge = lit≤ tt
short_words PacketsOutOfOrder = lit≤ tt
short_words BadHandshake = lit≤ tt
short_words DuplicateKey = lit≤ tt
short_words NullNotAllowed = lit≤ tt
short_words NoDefaultValue = lit≤ tt
short_words OutOfRange = lit≤ tt
short_words TooLong = lit≤ tt
short_words WrongValueCount = lit≤ tt
short_words ColumnNamedTwice = lit≤ tt
short_words NotGrouped = lit≤ tt
short_words SeveralShards = lit≤ tt
short_words Conflict = lit≤ tt
short_words BufferFull = lit≤ tt
short_words ShardMoved = lit≤ tt
short_words ShardFull = lit≤ tt
short_words UnknownVariable = lit≤ tt
short_words NoKeyspace = lit≤ tt
