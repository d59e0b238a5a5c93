-- Keyspace ids of documented examples.
use Rattle.std.proofs.Common.{[], ◌∷◌, ◌≡◌, refl, pos}
use Rattle.std.specs.Prelude.{codes}
use Rattle.std.specs.Int.{reverse_bits_onto}
use Rattle.vt_value.specs.declared.value.Value.TheVariants.{Null, Int, Bytes}
use Rattle.vindex.specs.declared.AnyVindex.TheVariants.{Numeric, ReverseBits, Binary}
use Rattle.vindex.specs.KeyspaceIds.{keyspace_id}

one : keyspace_id ReverseBits (Int (pos 1)) ≡ 0x80 ∷ 0 ∷ 0 ∷ 0 ∷ 0 ∷ 0 ∷ 0 ∷ 0 ∷ []
unfolding reverse_bits_onto
one = refl

two : keyspace_id ReverseBits (Int (pos 2)) ≡ 0x40 ∷ 0 ∷ 0 ∷ 0 ∷ 0 ∷ 0 ∷ 0 ∷ 0 ∷ []
unfolding reverse_bits_onto
two = refl

zero_id : keyspace_id ReverseBits (Int (pos 0)) ≡ 0 ∷ 0 ∷ 0 ∷ 0 ∷ 0 ∷ 0 ∷ 0 ∷ 0 ∷ []
unfolding reverse_bits_onto
zero_id = refl

largest :
    keyspace_id ReverseBits (Int (pos 18446744073709551615))
    ≡ 0xff ∷ 0xff ∷ 0xff ∷ 0xff ∷ 0xff ∷ 0xff ∷ 0xff ∷ 0xff ∷ []
unfolding reverse_bits_onto
largest = refl

-- 258 is 1 * 256 + 2
of_number : keyspace_id Numeric (Int (pos 258)) ≡ 0 ∷ 0 ∷ 0 ∷ 0 ∷ 0 ∷ 0 ∷ 1 ∷ 2 ∷ []
of_number = refl

of_text : keyspace_id Binary (Bytes (codes "ab")) ≡ codes "ab"
of_text = refl

of_null : keyspace_id Numeric Null ≡ []
of_null = refl
