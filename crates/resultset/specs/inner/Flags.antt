-- Which flags a column definition may have.
use Rattle.std.specs.Prelude.{ℕ, Bool, ◌||◌, ◌==◌, ◌+◌}
use Rattle.resultset.specs.declared.Kind.{Kind}
use Rattle.resultset.specs.declared.Kind.TheVariants.{BigInt, BigIntUnsigned, VarBinary, Count, Sum}

-- a NOT NULL column adds 1, a primary key column, which is NOT NULL, 2 more
abbrev pub are_column_flags : ℕ → ℕ → Bool
are_column_flags base flags = (flags == base) || (flags == base + 1) || (flags == base + 3)

-- COUNT is NOT NULL, SUM isn't
abbrev pub flags_fit : Kind → ℕ → Bool
flags_fit BigInt flags = are_column_flags 128 flags
flags_fit BigIntUnsigned flags = are_column_flags (128 + 32) flags
flags_fit (VarBinary n) flags = are_column_flags 128 flags
flags_fit Count flags = flags == 128 + 1
flags_fit Sum flags = flags == 128
