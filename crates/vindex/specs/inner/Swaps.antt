-- Blocks of bits, each in reverse where it stands.
use Rattle.std.specs.Prelude.{ℕ, zero, suc, ◌+◌, ◌*◌, ◌/◌, ◌^◌}
use Rattle.vindex.specs.inner.Reversal.{r}

-- the lowest m blocks of w bits
abbrev pub blocks : ℕ → ℕ → ℕ → ℕ
blocks w zero n = 0
blocks w (suc m) n = blocks w m (n / 2 ^ w) * 2 ^ w + r w n

-- each of the 8 bytes with its bits in reverse
abbrev pub reversed_in_bytes : ℕ → ℕ
reversed_in_bytes n = blocks 8 8 n
