-- What a call of a device that may fail has done.
use Rattle.std.specs.Prelude.{◌≡◌, ℕ, ◌+◌, ◌%◌, ◌^◌, ◌<◌, List, length, take, Option, Some, None, Result, Ok, Err}
use Rattle.std.specs.Io.KnownBytes.{Appends, Consumes, IsAtEnd, Keeps}
use mathlib.Core.List.{IsPrefix}
use Rattle.session.specs.declared.conversation.end.SessionFault.{SessionFault}
use Rattle.session.specs.declared.conversation.end.SessionFault.TheVariants.{Read, Write, Memory}

-- a device counts its failures, modulo 2^64
abbrev pub failures_after : {A E : Type 0} → Result A E → ℕ → ℕ
failures_after (Ok x) count = count
failures_after (Err e) count = (count + 1) % 2 ^ 64

-- of a session's call: only that fault is a failure of the device
abbrev pub read_failures_after : {A : Type 0} → Result A SessionFault → ℕ → ℕ
read_failures_after (Ok x) count = count
read_failures_after (Err Read) count = (count + 1) % 2 ^ 64
read_failures_after (Err Write) count = count
read_failures_after (Err Memory) count = count

abbrev pub write_failures_after : {A : Type 0} → Result A SessionFault → ℕ → ℕ
write_failures_after (Ok x) count = count
write_failures_after (Err Read) count = count
write_failures_after (Err Write) count = (count + 1) % 2 ^ 64
write_failures_after (Err Memory) count = count

-- a device took a front of the bytes
abbrev pub AppendsFront : Option (List ℕ) → Option (List ℕ) → List ℕ → Type 0
AppendsFront old new bytes = (front : List ℕ) × IsPrefix front bytes × Appends old new front

-- what a read has done that may find nothing for now
abbrev pub ReadsNow : {E : Type 0} → Option (List ℕ) → Option (List ℕ) → Result (Option ℕ) E → List ℕ → Type 0
ReadsNow old new (Ok (Some n)) buffer = Consumes old new (take n buffer) × (n ≡ 0 → 0 < length buffer → IsAtEnd new)
ReadsNow old new (Ok None) buffer = Keeps old new
ReadsNow old new (Err e) buffer = Keeps old new
