-- How many connections a server accepts.
use Rattle.std.specs.Prelude.{ℕ, zero, suc}

-- after how many connections a server ends that is asked for this number: 0 stands for the most
abbrev pub last_of : ℕ → ℕ
last_of zero = 4294967295
last_of (suc n) = suc n
