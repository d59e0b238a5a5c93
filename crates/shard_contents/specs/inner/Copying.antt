-- Room for a Copy by counts.
use Rattle.std.specs.Prelude.{ℕ, ◌+◌, ◌^◌, ◌&&◌, nat_lt, nat_le, Bool}
use Rattle.shard_law.specs.declared.limits.Limits.{Limits}

-- the limits by counts alone: entries of all kinds, the rows before the Copy, and its own
abbrev pub has_room_to_copy : Limits → ℕ → ℕ → ℕ → Bool
has_room_to_copy limits entries rows copied = nat_lt entries (2 ^ 40) && nat_le (rows + copied) limits.rows
