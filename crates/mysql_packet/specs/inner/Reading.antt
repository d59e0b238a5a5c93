-- How a whole payload lies at the front of a stream: so many full parts, and then a shorter one.
use Rattle.std.specs.Prelude.{◌≡◌, ℕ, zero, suc, ◌+◌, ◌*◌, ◌^◌, ◌<◌, ◌≤◌, List, ◌++◌, length, take, drop, Some, MatchOption}
use Rattle.mysql_packet.specs.Frames.{full, frame, header, header_fault, packets, AreBegun, IsPartial, Splits, IsRefusedAfter}
use Rattle.mysql_packet.specs.declared.framer.HeaderFault.{HeaderFault}
use Rattle.mysql_packet.specs.declared.front.Front.{Front}
use Rattle.mysql_packet.specs.declared.front.Front.TheVariants.{Waits, Refused, Whole}
use Rattle.mysql_packet.specs.declared.front.Taken.{Taken}

-- how many bytes the packets take
abbrev pub size_of : ℕ → ℕ → ℕ
size_of come len = come * (full + 4) + 4 + len

-- the parts after their headers, joined
unfoldable pub payload_at : ℕ → ℕ → List ℕ → List ℕ
payload_at zero len bytes = take len (drop 4 bytes)
payload_at (suc come) len bytes = take full (drop 4 bytes) ++ payload_at come len (drop full (drop 4 bytes))

-- the next header, and the bytes after it
pub record IsNextHeader (len number : ℕ) (body rest : List ℕ) : Type 0 where
  pub spelled : rest ≡ header len number ++ body
  pub len_small : len < 2 ^ 24
  pub number_small : number < 256

-- a payload of the limit is at the front
pub record HasPayload (limit first come len : ℕ) (bytes : List ℕ) : Type 0 where
  pub whole : bytes ≡ frame first (payload_at come len bytes) ++ drop (size_of come len) bytes
  pub length_is : length (payload_at come len bytes) ≡ come * full + len
  pub fits : size_of come len ≤ length bytes
  pub within : come * full + len ≤ limit
  pub in_range : (first < 256) × (len < full)

-- full parts, and a header that is refused
pub record HasFault (limit : ℕ) (fault : HeaderFault) (bytes : List ℕ) : Type 0 where
  pub first : ℕ
  pub parts : List (List ℕ)
  pub len : ℕ
  pub more : List ℕ
  pub whole : bytes ≡ packets first parts ++ header len fault.number ++ more
  pub begun : AreBegun limit parts
  pub refused : header_fault limit first (length parts) len fault.number ≡ Some fault.refusal
  pub in_range : (first < 256) × (len < 2 ^ 24) × (fault.number < 256)

-- what is at the front
abbrev pub IsFront : ℕ → List ℕ → Front → Type 0
IsFront limit bytes Waits = IsPartial limit bytes
IsFront limit bytes (Refused fault) = HasFault limit fault bytes
IsFront limit bytes (Whole first come len) = HasPayload limit first come len bytes

-- the payloads at the front, and after them less than one more, or a fault
abbrev pub TakesPayloads : ℕ → List ℕ → Taken → Type 0
TakesPayloads limit bytes taken =
    (taken.used ≤ length bytes)
    × MatchOption taken.fault (Splits limit bytes taken.payloads (drop taken.used bytes)) (IsRefusedAfter limit bytes taken.payloads)
