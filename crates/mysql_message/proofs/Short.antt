-- OK, EOF and ERR packets are short.
use Rattle.std.proofs.Common.{◌≡◌, ℕ, ◌+◌, ◌/◌, ◌%◌, ◌≤◌, List, ◌∷◌, length, ap, ◌∙◌, arith, lit≤}
use Rattle.vt_value.specs.declared.refusal.Refusal.{Refusal}
use Rattle.vt_value.specs.declared.refusal.Refusal.TheVariants.{OutOfMemory, SyntaxError, NotSupported, UnknownTable, UnknownColumn, UnknownKeyspace, AccessDenied, UnknownCommand, PacketTooLarge, PacketsOutOfOrder, BadHandshake, DuplicateKey, NullNotAllowed, NoDefaultValue, OutOfRange, TooLong, WrongValueCount, ColumnNamedTwice, NotGrouped, SeveralShards, Conflict, BufferFull, ShardMoved, ShardFull, UnknownVariable, NoKeyspace}
use Rattle.vt_value.specs.Refusals.{state_of, message_of}
use Rattle.mysql_packet.specs.Frames.{frame, number_after}
use Rattle.mysql_packet.proofs.FrameLemmas.{frame-short, number_after-short}

pub short_frame : (number : ℕ) (payload : List ℕ) → length payload ≤ 60 → frame number payload ≡ length payload ∷ 0 ∷ 0 ∷ number ∷ payload
short_frame number payload short =
    let low : length payload % 256 ≡ length payload = omega arith in
    let middle : length payload / 256 % 256 ≡ 0 = omega arith in
    let high : length payload / 256 / 256 % 256 ≡ 0 = omega arith in
    frame-short number payload (omega arith) ∙ ap (λ (x : ℕ). x ∷ length payload / 256 % 256 ∷ length payload / 256 / 256 % 256 ∷ number ∷ payload) low
    ∙ ap (λ (x : ℕ). length payload ∷ x ∷ length payload / 256 / 256 % 256 ∷ number ∷ payload) middle
    ∙ ap (λ (x : ℕ). length payload ∷ 0 ∷ x ∷ number ∷ payload) high

pub number_after_short : (number : ℕ) (payload : List ℕ) → length payload ≤ 60 → number_after number payload ≡ (number + 1) % 256
number_after_short number payload short = number_after-short number payload (omega arith)

pub short_state : (r : Refusal) → length (state_of r) ≤ 5
short_state OutOfMemory = lit≤ tt
short_state SyntaxError = lit≤ tt
short_state NotSupported = lit≤ tt
short_state UnknownTable = lit≤ tt
short_state UnknownColumn = lit≤ tt
short_state UnknownKeyspace = lit≤ tt
short_state AccessDenied = lit≤ tt
short_state UnknownCommand = lit≤ tt
short_state PacketTooLarge = lit≤ tt
short_state PacketsOutOfOrder = lit≤ tt
short_state BadHandshake = lit≤ tt
short_state DuplicateKey = lit≤ tt
short_state NullNotAllowed = lit≤ tt
short_state NoDefaultValue = lit≤ tt
short_state OutOfRange = lit≤ tt
short_state TooLong = lit≤ tt
short_state WrongValueCount = lit≤ tt
short_state ColumnNamedTwice = lit≤ tt
short_state NotGrouped = lit≤ tt
short_state SeveralShards = lit≤ tt
short_state Conflict = lit≤ tt
short_state BufferFull = lit≤ tt
short_state ShardMoved = lit≤ tt
short_state ShardFull = lit≤ tt
short_state UnknownVariable = lit≤ tt
short_state NoKeyspace = lit≤ tt

pub short_message : (r : Refusal) → length (message_of r) ≤ 24
short_message OutOfMemory = lit≤ tt
short_message SyntaxError = lit≤ tt
short_message NotSupported = lit≤ tt
short_message UnknownTable = lit≤ tt
short_message UnknownColumn = lit≤ tt
short_message UnknownKeyspace = lit≤ tt
short_message AccessDenied = lit≤ tt
short_message UnknownCommand = lit≤ tt
short_message PacketTooLarge = lit≤ tt
short_message PacketsOutOfOrder = lit≤ tt
short_message BadHandshake = lit≤ tt
short_message DuplicateKey = lit≤ tt
short_message NullNotAllowed = lit≤ tt
short_message NoDefaultValue = lit≤ tt
short_message OutOfRange = lit≤ tt
short_message TooLong = lit≤ tt
short_message WrongValueCount = lit≤ tt
short_message ColumnNamedTwice = lit≤ tt
short_message NotGrouped = lit≤ tt
short_message SeveralShards = lit≤ tt
short_message Conflict = lit≤ tt
short_message BufferFull = lit≤ tt
short_message ShardMoved = lit≤ tt
short_message ShardFull = lit≤ tt
short_message UnknownVariable = lit≤ tt
short_message NoKeyspace = lit≤ tt
