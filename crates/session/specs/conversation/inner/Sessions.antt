-- What a framer says of a piece.
use Rattle.std.specs.Prelude.{◌≡◌, ℕ, List, [], ◌∷◌, ◌++◌, Some, None}
use Rattle.mysql_packet.specs.declared.framer.Payload.{Payload}
use Rattle.mysql_packet.specs.declared.framer.HeaderFault.{HeaderFault}
use Rattle.mysql_packet.specs.declared.framer.Fed.{Fed}
use Rattle.mysql_packet.specs.Frames.{IsRefusedAfter}
use Rattle.mysql_packet.specs.Framing.{Framing, HasFramed}

-- a payload that a command's reply may answer: it begins at 0
abbrev pub command_payload : ℕ → List ℕ → Payload
command_payload last bytes = record { first = 0; last = last; bytes = bytes }

-- a piece that is the one packet of a command
abbrev pub one_command : List ℕ → Fed
one_command bytes = record { payloads = command_payload 0 bytes ∷ []; fault = None }

-- What its framer says of a piece: these payloads and the fault after them, however the stream was cut before.
pub record FedBy (old new : Framing) (piece : List ℕ) (fed : Fed) : Type 0 where
  pub payloads : fed.fault ≡ None → (stream : List ℕ) (before : List Payload) → HasFramed old stream before → HasFramed new (stream ++ piece) (before ++ fed.payloads)
  pub fault : (f : HeaderFault) → fed.fault ≡ Some f → (stream : List ℕ) (before : List Payload) → HasFramed old stream before
      → IsRefusedAfter old.limit (stream ++ piece) (before ++ fed.payloads) f
  pub limit : new.limit ≡ old.limit
