use Rattle.std.proofs.Common.{refl, lit<, lit≤}
use Rattle.std.proofs.lemmas.Fmt.{decimal_digit}
use Rattle.itoa.proofs.Decimal.{decimal_two}
use Rattle.admin.proofs.Numbers.{numbered}
use Rattle.admin.proofs.reply.refusal_line.Goals as goal

pub returns-in-OutOfMemory : goal.returns-in-OutOfMemory
returns-in-OutOfMemory c = numbered _ _ c.in-OutOfMemory.is _ _ (decimal_digit 1 (lit< tt)) refl

pub returns-in-SyntaxError : goal.returns-in-SyntaxError
returns-in-SyntaxError c = numbered _ _ c.in-SyntaxError.is _ _ (decimal_digit 2 (lit< tt)) refl

pub returns-in-NotSupported : goal.returns-in-NotSupported
returns-in-NotSupported c = numbered _ _ c.in-NotSupported.is _ _ (decimal_digit 3 (lit< tt)) refl

pub returns-in-UnknownTable : goal.returns-in-UnknownTable
returns-in-UnknownTable c = numbered _ _ c.in-UnknownTable.is _ _ (decimal_digit 4 (lit< tt)) refl

pub returns-in-UnknownColumn : goal.returns-in-UnknownColumn
returns-in-UnknownColumn c = numbered _ _ c.in-UnknownColumn.is _ _ (decimal_digit 5 (lit< tt)) refl

pub returns-in-UnknownKeyspace : goal.returns-in-UnknownKeyspace
returns-in-UnknownKeyspace c = numbered _ _ c.in-UnknownKeyspace.is _ _ (decimal_digit 6 (lit< tt)) refl

pub returns-in-AccessDenied : goal.returns-in-AccessDenied
returns-in-AccessDenied c = numbered _ _ c.in-AccessDenied.is _ _ (decimal_digit 7 (lit< tt)) refl

pub returns-in-UnknownCommand : goal.returns-in-UnknownCommand
returns-in-UnknownCommand c = numbered _ _ c.in-UnknownCommand.is _ _ (decimal_digit 8 (lit< tt)) refl

pub returns-in-PacketTooLarge : goal.returns-in-PacketTooLarge
returns-in-PacketTooLarge c = numbered _ _ c.in-PacketTooLarge.is _ _ (decimal_digit 9 (lit< tt)) refl

pub returns-in-PacketsOutOfOrder : goal.returns-in-PacketsOutOfOrder
returns-in-PacketsOutOfOrder c = numbered _ _ c.in-PacketsOutOfOrder.is _ _ (decimal_two 10 (lit≤ tt) (lit< tt)) refl

pub returns-in-BadHandshake : goal.returns-in-BadHandshake
returns-in-BadHandshake c = numbered _ _ c.in-BadHandshake.is _ _ (decimal_two 11 (lit≤ tt) (lit< tt)) refl

pub returns-in-DuplicateKey : goal.returns-in-DuplicateKey
returns-in-DuplicateKey c = numbered _ _ c.in-DuplicateKey.is _ _ (decimal_two 12 (lit≤ tt) (lit< tt)) refl

pub returns-in-NullNotAllowed : goal.returns-in-NullNotAllowed
returns-in-NullNotAllowed c = numbered _ _ c.in-NullNotAllowed.is _ _ (decimal_two 13 (lit≤ tt) (lit< tt)) refl

pub returns-in-NoDefaultValue : goal.returns-in-NoDefaultValue
returns-in-NoDefaultValue c = numbered _ _ c.in-NoDefaultValue.is _ _ (decimal_two 14 (lit≤ tt) (lit< tt)) refl

pub returns-in-OutOfRange : goal.returns-in-OutOfRange
returns-in-OutOfRange c = numbered _ _ c.in-OutOfRange.is _ _ (decimal_two 15 (lit≤ tt) (lit< tt)) refl

pub returns-in-TooLong : goal.returns-in-TooLong
returns-in-TooLong c = numbered _ _ c.in-TooLong.is _ _ (decimal_two 16 (lit≤ tt) (lit< tt)) refl

pub returns-in-WrongValueCount : goal.returns-in-WrongValueCount
returns-in-WrongValueCount c = numbered _ _ c.in-WrongValueCount.is _ _ (decimal_two 17 (lit≤ tt) (lit< tt)) refl

pub returns-in-ColumnNamedTwice : goal.returns-in-ColumnNamedTwice
returns-in-ColumnNamedTwice c = numbered _ _ c.in-ColumnNamedTwice.is _ _ (decimal_two 18 (lit≤ tt) (lit< tt)) refl

pub returns-in-NotGrouped : goal.returns-in-NotGrouped
returns-in-NotGrouped c = numbered _ _ c.in-NotGrouped.is _ _ (decimal_two 19 (lit≤ tt) (lit< tt)) refl

pub returns-in-SeveralShards : goal.returns-in-SeveralShards
returns-in-SeveralShards c = numbered _ _ c.in-SeveralShards.is _ _ (decimal_two 20 (lit≤ tt) (lit< tt)) refl

pub returns-in-Conflict : goal.returns-in-Conflict
returns-in-Conflict c = numbered _ _ c.in-Conflict.is _ _ (decimal_two 21 (lit≤ tt) (lit< tt)) refl

pub returns-in-BufferFull : goal.returns-in-BufferFull
returns-in-BufferFull c = numbered _ _ c.in-BufferFull.is _ _ (decimal_two 22 (lit≤ tt) (lit< tt)) refl

pub returns-in-ShardMoved : goal.returns-in-ShardMoved
returns-in-ShardMoved c = numbered _ _ c.in-ShardMoved.is _ _ (decimal_two 23 (lit≤ tt) (lit< tt)) refl

pub returns-in-ShardFull : goal.returns-in-ShardFull
returns-in-ShardFull c = numbered _ _ c.in-ShardFull.is _ _ (decimal_two 24 (lit≤ tt) (lit< tt)) refl

pub returns-in-UnknownVariable : goal.returns-in-UnknownVariable
returns-in-UnknownVariable c = numbered _ _ c.in-UnknownVariable.is _ _ (decimal_two 25 (lit≤ tt) (lit< tt)) refl

pub returns-in-NoKeyspace : goal.returns-in-NoKeyspace
returns-in-NoKeyspace c = numbered _ _ c.in-NoKeyspace.is _ _ (decimal_two 26 (lit≤ tt) (lit< tt)) refl
