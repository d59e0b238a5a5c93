-- No two refusals have one message.
use Rattle.std.proofs.Common.{◌≡◌, ◌≢◌, ℕ, ◌-◌, ◌<◌, List, [], ◌∷◌, get_or, Option, Some, None, cond, refl, ap, sym, ◌∙◌, lit<}
use Rattle.std.specs.Prelude.{nat_eq}
use Rattle.std.specs.Cmp.Lexicographic.{pointwise}
use Rattle.vt_value.specs.declared.refusal.Refusal.{Refusal}
use Rattle.vt_value.specs.declared.refusal.Refusal.TheVariants.{OutOfMemory, SyntaxError, NotSupported, UnknownTable, UnknownColumn, UnknownKeyspace, AccessDenied, UnknownCommand, PacketTooLarge, PacketsOutOfOrder, BadHandshake, DuplicateKey, NullNotAllowed, NoDefaultValue, OutOfRange, TooLong, WrongValueCount, ColumnNamedTwice, NotGrouped, SeveralShards, Conflict, BufferFull, ShardMoved, ShardFull, UnknownVariable, NoKeyspace}
use Rattle.vt_value.specs.Refusals.{refusal_number, message_of}

abbrev pub all_refusals : List Refusal
all_refusals = OutOfMemory ∷ SyntaxError ∷ NotSupported ∷ UnknownTable ∷ UnknownColumn ∷ UnknownKeyspace ∷ AccessDenied ∷ UnknownCommand ∷ PacketTooLarge ∷ PacketsOutOfOrder ∷ BadHandshake ∷ DuplicateKey ∷ NullNotAllowed ∷ NoDefaultValue ∷ OutOfRange ∷ TooLong ∷ WrongValueCount ∷ ColumnNamedTwice ∷ NotGrouped ∷ SeveralShards ∷ Conflict ∷ BufferFull ∷ ShardMoved ∷ ShardFull ∷ UnknownVariable ∷ NoKeyspace ∷ []

abbrev with_message : List Refusal → List ℕ → Option Refusal
with_message [] message = None
with_message (r ∷ rs) message = cond (pointwise nat_eq (message_of r) message) (Some r) (with_message rs message)

is_found : (r : Refusal) → with_message all_refusals (message_of r) ≡ Some r
is_found OutOfMemory = refl
is_found SyntaxError = refl
is_found NotSupported = refl
is_found UnknownTable = refl
is_found UnknownColumn = refl
is_found UnknownKeyspace = refl
is_found AccessDenied = refl
is_found UnknownCommand = refl
is_found PacketTooLarge = refl
is_found PacketsOutOfOrder = refl
is_found BadHandshake = refl
is_found DuplicateKey = refl
is_found NullNotAllowed = refl
is_found NoDefaultValue = refl
is_found OutOfRange = refl
is_found TooLong = refl
is_found WrongValueCount = refl
is_found ColumnNamedTwice = refl
is_found NotGrouped = refl
is_found SeveralShards = refl
is_found Conflict = refl
is_found BufferFull = refl
is_found ShardMoved = refl
is_found ShardFull = refl
is_found UnknownVariable = refl
is_found NoKeyspace = refl

pub one_message : (message : List ℕ) (r s : Refusal) → message ≡ message_of r → message ≡ message_of s → Some r ≡ Some s
one_message message r s e f = sym (is_found r) ∙ ap (with_message all_refusals) (sym e ∙ f) ∙ is_found s

-- each has its place
abbrev pub place : Refusal → ℕ
place r = refusal_number r - 1

place_within : (r : Refusal) → place r < 26
place_within OutOfMemory = lit< tt
place_within SyntaxError = lit< tt
place_within NotSupported = lit< tt
place_within UnknownTable = lit< tt
place_within UnknownColumn = lit< tt
place_within UnknownKeyspace = lit< tt
place_within AccessDenied = lit< tt
place_within UnknownCommand = lit< tt
place_within PacketTooLarge = lit< tt
place_within PacketsOutOfOrder = lit< tt
place_within BadHandshake = lit< tt
place_within DuplicateKey = lit< tt
place_within NullNotAllowed = lit< tt
place_within NoDefaultValue = lit< tt
place_within OutOfRange = lit< tt
place_within TooLong = lit< tt
place_within WrongValueCount = lit< tt
place_within ColumnNamedTwice = lit< tt
place_within NotGrouped = lit< tt
place_within SeveralShards = lit< tt
place_within Conflict = lit< tt
place_within BufferFull = lit< tt
place_within ShardMoved = lit< tt
place_within ShardFull = lit< tt
place_within UnknownVariable = lit< tt
place_within NoKeyspace = lit< tt

at_place : (r : Refusal) → get_or all_refusals (place r) OutOfMemory ≡ r
at_place OutOfMemory = refl
at_place SyntaxError = refl
at_place NotSupported = refl
at_place UnknownTable = refl
at_place UnknownColumn = refl
at_place UnknownKeyspace = refl
at_place AccessDenied = refl
at_place UnknownCommand = refl
at_place PacketTooLarge = refl
at_place PacketsOutOfOrder = refl
at_place BadHandshake = refl
at_place DuplicateKey = refl
at_place NullNotAllowed = refl
at_place NoDefaultValue = refl
at_place OutOfRange = refl
at_place TooLong = refl
at_place WrongValueCount = refl
at_place ColumnNamedTwice = refl
at_place NotGrouped = refl
at_place SeveralShards = refl
at_place Conflict = refl
at_place BufferFull = refl
at_place ShardMoved = refl
at_place ShardFull = refl
at_place UnknownVariable = refl
at_place NoKeyspace = refl

-- a message that none of them has is no refusal's
pub no_refusal : (message : List ℕ) → ((k : ℕ) → k < 26 → message_of (get_or all_refusals k OutOfMemory) ≢ message) → (r : Refusal) → message ≢ message_of r
no_refusal message none r e = none (place r) (place_within r) (ap message_of (at_place r) ∙ sym e)
