-- Packets of the MySQL client/server protocol: a stream of bytes is the frames of its payloads, one after another. Nothing here knows in
-- which pieces a stream comes.
use Rattle.std.specs.Prelude.{◌≡◌, ◌⊎◌, ◌&&◌, not, ◌==◌, ℕ, zero, suc, ◌+◌, ◌*◌, ◌/◌, ◌%◌, ◌^◌, ◌<◌, ◌≤◌, List, [], ◌∷◌, ◌++◌, length, take, drop, flat_map, nat_lt, Option, Some, None, if◌then◌else◌}
use Rattle.std.specs.List.{AllByRecursion}
use Rattle.vt_value.specs.declared.refusal.Refusal.{Refusal}
use Rattle.vt_value.specs.declared.refusal.Refusal.TheVariants.{PacketTooLarge, PacketsOutOfOrder}
use Rattle.mysql_packet.specs.declared.framer.Payload.{Payload}
use Rattle.mysql_packet.specs.declared.framer.HeaderFault.{HeaderFault}
use Rattle.mysql_packet.specs.Numbers.{little_endian}

abbrev pub full : ℕ
full = 0xFFFFFF

-- so many full parts, and the rest as the last part
abbrev pub split_off : ℕ → List ℕ → List (List ℕ)
split_off zero bytes = bytes ∷ []
split_off (suc k) bytes = take full bytes ∷ split_off k (drop full bytes)

-- the parts of a payload: full ones, and at the end a shorter one, which may be empty
abbrev pub parts_of : List ℕ → List (List ℕ)
parts_of bytes = split_off (length bytes / full) bytes

-- a packet: the length of its part in 3 bytes, its sequence number, the part
abbrev pub packet : ℕ → List ℕ → List ℕ
packet number part = little_endian 3 (length part) ++ number ∷ part

-- packets with numbers that grow by one, modulo 256
abbrev pub packets : ℕ → List (List ℕ) → List ℕ
packets number [] = []
packets number (part ∷ parts) = packet number part ++ packets ((number + 1) % 256) parts

-- the packets of a payload, from its first number, and the number of the last
abbrev pub frame : ℕ → List ℕ → List ℕ
frame first bytes = packets first (parts_of bytes)

abbrev pub last_number : ℕ → List ℕ → ℕ
last_number first bytes = (first + length bytes / full) % 256

abbrev pub number_after : ℕ → List ℕ → ℕ
number_after first bytes = (last_number first bytes + 1) % 256

-- payloads whose numbers go on from one to the next, as those of a reply
abbrev pub frames_from : ℕ → List (List ℕ) → List ℕ
frames_from first [] = []
frames_from first (bytes ∷ more) = frame first bytes ++ frames_from (number_after first bytes) more

abbrev pub number_after_all : ℕ → List (List ℕ) → ℕ
number_after_all first [] = first
number_after_all first (bytes ∷ more) = number_after_all (number_after first bytes) more

-- each payload may begin at any number, and tells its last one
abbrev pub IsNumbered : Payload → Type 0
IsNumbered p = (p.first < 256) × (p.last ≡ last_number p.first p.bytes)

abbrev pub stream_of : List Payload → List ℕ
stream_of payloads = flat_map (λ p. frame p.first p.bytes) payloads

-- Why a header is refused, if it is, if so many full parts of its payload have come and the first had this number. The number is
-- looked at first: a part has to follow the one before. Then no payload is longer than the limit. The first number of a payload may be any.
abbrev pub header_fault : ℕ → ℕ → ℕ → ℕ → ℕ → Option Refusal
header_fault limit first come len number =
    if nat_lt 0 come && not (number == (first + come) % 256) then Some PacketsOutOfOrder
    else if nat_lt limit (full * come + len) then Some PacketTooLarge
    else None

abbrev pub header : ℕ → ℕ → List ℕ
header len number = little_endian 3 len ++ number ∷ []

-- full parts of a payload that isn't whole yet, within the limit
abbrev pub AreBegun : ℕ → List (List ℕ) → Type 0
AreBegun limit parts = AllByRecursion (λ part. length part ≡ full) parts × (full * length parts ≤ limit)

-- less than a payload: full parts, and then less than a header, or a header that isn't refused and less than its part
abbrev pub IsPartial : ℕ → List ℕ → Type 0
IsPartial limit rest =
    (first : ℕ) × (parts : List (List ℕ)) × (tail : List ℕ) × (first < 256) × AreBegun limit parts × (rest ≡ packets first parts ++ tail)
    × ((length tail < 4) ⊎ IsPartOf limit first (length parts) tail)
  where
    IsPartOf : ℕ → ℕ → ℕ → List ℕ → Type 0
    IsPartOf limit first come tail =
        (len number : ℕ) × (part : List ℕ) × (len < 2 ^ 24) × (tail ≡ header len number ++ part) × (length part < len)
        × (header_fault limit first come len number ≡ None)

-- a payload that the limit allows
abbrev pub IsTaken : ℕ → Payload → Type 0
IsTaken limit p = IsNumbered p × (length p.bytes ≤ limit)

-- so far the stream is these payloads, and then less than one more
pub record Splits (limit : ℕ) (bytes : List ℕ) (payloads : List Payload) (rest : List ℕ) : Type 0 where
  pub whole : bytes ≡ stream_of payloads ++ rest
  pub each : AllByRecursion (IsTaken limit) payloads
  pub partial : IsPartial limit rest

-- the stream begins with these payloads, and then full parts of one more, and a header that is refused
pub record IsRefusedAfter (limit : ℕ) (bytes : List ℕ) (payloads : List Payload) (fault : HeaderFault) : Type 0 where
  pub first : ℕ
  pub parts : List (List ℕ)
  pub len : ℕ
  pub more : List ℕ
  pub whole : bytes ≡ stream_of payloads ++ packets first parts ++ header len fault.number ++ more
  pub each : AllByRecursion (IsTaken limit) payloads
  pub begun : AreBegun limit parts
  pub refused : header_fault limit first (length parts) len fault.number ≡ Some fault.refusal
  pub in_range : (first < 256) × (len < 2 ^ 24) × (fault.number < 256)
