-- How readers answer.
use Rattle.std.specs.Prelude.{ℤ, ◌≤ℤ◌, neg_ℤ, Result, Ok, Err}
use Rattle.resultset.specs.declared.unread.Unread.{Unread}
use Rattle.resultset.specs.declared.unread.Unread.TheVariants.{OutOfMemory, Malformed}
use Rattle.resultset.specs.Encoding.{sum_bound}

abbrev pub IsMemory : Unread → Type 0
IsMemory OutOfMemory = Unit {0}
IsMemory Malformed = ⊥

-- What was read has this property, unless memory ran out.
abbrev pub OnceRead : {X : Type 0} → Result X Unread → (X → Type 0) → Type 0
OnceRead (Ok x) P = P x
OnceRead (Err e) P = IsMemory e

-- a number that some column may hold
abbrev pub IsWide : ℤ → Type 0
IsWide n = (neg_ℤ sum_bound ≤ℤ n) × (n ≤ℤ sum_bound)
