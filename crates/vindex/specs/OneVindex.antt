-- Whether two columns have one vindex.
use Rattle.std.specs.Prelude.{ℕ, Bool, true, false, ◌&&◌, ◌==◌}
use Rattle.vindex.specs.declared.AnyVindex.{AnyVindex}
use Rattle.vindex.specs.declared.AnyVindex.TheVariants.{Numeric, ReverseBits, Binary, BinaryMd5}

abbrev pub same_vindex : AnyVindex → AnyVindex → Bool
same_vindex Numeric Numeric = true
same_vindex ReverseBits ReverseBits = true
same_vindex Binary Binary = true
same_vindex BinaryMd5 BinaryMd5 = true
same_vindex _ _ = false

-- the same number among the vindexes that a VSchema declares, and the same kind
abbrev pub is_one_vindex : ℕ → AnyVindex → ℕ → AnyVindex → Bool
is_one_vindex number kind other_number other_kind = (number == other_number) && same_vindex kind other_kind
