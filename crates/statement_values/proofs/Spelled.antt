-- What it takes that bytes spell a number.
use Rattle.std.proofs.Common.{◌≡◌, ℕ, ℤ, ◌+◌, ◌^◌, ◌<◌, Bool, List, refl}
use Rattle.vt_value.specs.declared.value.Value.{Value}
use Rattle.mysql_packet.specs.Numbers.{little_endian, length_encoded_string}
use Rattle.statement_values.specs.declared.ParameterType.TheVariants as p
use Rattle.statement_values.specs.declared.Width.{Width}
use Rattle.vt_value.specs.declared.value.Value.TheVariants.{Int}
use Rattle.statement_values.specs.Floats.{IsSingle, IsDouble, IsInRange}
use Rattle.statement_values.specs.Decimals.{IsDecimal}
use Rattle.statement_values.specs.Values.{Spells, SpellsOther, half_of, width_of, number_of}
use Rattle.statement_values.specs.Values as b

pub number_only : (w : Width) (unsigned : Bool) (front : List ℕ) (v : Value) → Spells (p.Number w unsigned) front v
    → (n : ℕ) × (n < half_of w + half_of w) × (front ≡ little_endian (width_of w) n) × (v ≡ number_of unsigned (half_of w) n)
number_only w unsigned _ _ (b.number _ n lt) = (n, lt, refl, refl)

pub single_spelled : (front : List ℕ) (v : Value) → Spells p.Single front v
    → (bits : ℕ) × (z : ℤ) × (bits < 2 ^ 32) × IsSingle bits z × IsInRange z × (front ≡ little_endian 4 bits) × (v ≡ Int z)
single_spelled _ _ (b.single {bits = bits} {z = z} lt is range) = (bits, z, lt, is, range, refl, refl)

pub single_other : (front : List ℕ) → SpellsOther p.Single front
    → (bits : ℕ) × (bits < 2 ^ 32) × ((z : ℤ) → IsSingle bits z → IsInRange z → ⊥) × (front ≡ little_endian 4 bits)
single_other _ (b.other_single {bits = bits} lt none) = (bits, lt, none, refl)

pub double_spelled : (front : List ℕ) (v : Value) → Spells p.Double front v
    → (bits : ℕ) × (z : ℤ) × (bits < 2 ^ 64) × IsDouble bits z × IsInRange z × (front ≡ little_endian 8 bits) × (v ≡ Int z)
double_spelled _ _ (b.double {bits = bits} {z = z} lt is range) = (bits, z, lt, is, range, refl, refl)

pub double_other : (front : List ℕ) → SpellsOther p.Double front
    → (bits : ℕ) × (bits < 2 ^ 64) × ((z : ℤ) → IsDouble bits z → IsInRange z → ⊥) × (front ≡ little_endian 8 bits)
double_other _ (b.other_double {bits = bits} lt none) = (bits, lt, none, refl)

pub decimal_spelled : (front : List ℕ) (v : Value) → Spells p.Decimal front v
    → (text : List ℕ) × (z : ℤ) × IsDecimal text z × IsInRange z × (front ≡ length_encoded_string text) × (v ≡ Int z)
decimal_spelled _ _ (b.decimal {text = text} {z = z} is range) = (text, z, is, range, refl, refl)

pub decimal_other : (front : List ℕ) → SpellsOther p.Decimal front
    → (text : List ℕ) × ((z : ℤ) → IsDecimal text z → IsInRange z → ⊥) × (front ≡ length_encoded_string text)
decimal_other _ (b.other_decimal {text = text} none) = (text, none, refl)

pub no_other_null : (front : List ℕ) → SpellsOther p.Null front → ⊥
no_other_null front h = elim h [ ]

pub no_other_number : (w : Width) (unsigned : Bool) (front : List ℕ) → SpellsOther (p.Number w unsigned) front → ⊥
no_other_number w unsigned front h = elim h [ ]

pub no_other_text : (front : List ℕ) → SpellsOther p.Text front → ⊥
no_other_text front h = elim h [ ]
