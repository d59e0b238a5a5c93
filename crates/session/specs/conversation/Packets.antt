-- Packets that a server writes.
use Rattle.std.specs.Prelude.{ℕ, ◌+◌, ◌%◌, List}
use Rattle.vt_value.specs.declared.refusal.Refusal.{Refusal}
use Rattle.mysql_packet.specs.declared.framer.Payload.{Payload}
use Rattle.mysql_packet.specs.Frames.{frame}
use Rattle.mysql_message.specs.Messages.{err_payload}

-- the ERR packet for a header that is refused, by that header's number
abbrev pub refusal_bytes : ℕ → Refusal → List ℕ
refusal_bytes number r = frame ((number + 1) % 256) (err_payload r)

-- the number after a payload's last, at which its reply begins
abbrev pub reply_number : Payload → ℕ
reply_number p = (p.last + 1) % 256
