-- What a framer knows between two pieces of its stream.
use Rattle.std.specs.Prelude.{◌≡◌, ℕ, List, Option, None}
use Rattle.mysql_packet.specs.declared.framer.Payload.{Payload}
use Rattle.mysql_packet.specs.declared.framer.HeaderFault.{HeaderFault}
use Rattle.mysql_packet.specs.Frames.{Splits}

-- the limit of a payload, the bytes after the last whole payload, and the fault that ended the stream
pub record Framing : Type 0 where
  pub limit : ℕ
  pub rest : List ℕ
  pub fault : Option HeaderFault

-- The stream so far is these payloads and then less than one more.
pub record HasFramed (f : Framing) (stream : List ℕ) (payloads : List Payload) : Type 0 where
  pub no_fault : f.fault ≡ None
  pub splits : Splits f.limit stream payloads f.rest
