-- A piece of the input that is the one packet of a command.
use Rattle.std.proofs.Common.{◌≡◌, ℕ, ◌<◌, ◌≤◌, List, [], ◌∷◌, ◌++◌, length, None, refl, sym, subst, ◌∙◌, arith}
use Rattle.std.proofs.lemmas.List.{append-nil}
use Rattle.mysql_packet.specs.Frames.{full, packet, frame, stream_of, IsPartial, IsTaken, Splits}
use Rattle.mysql_packet.specs.Framing.{Framing, HasFramed}
use Rattle.mysql_packet.proofs.FrameLemmas.{frame-short}
use Rattle.mysql_packet.proofs.StreamLemmas.{splits_on}
use Rattle.session.specs.conversation.inner.Sessions.{FedBy, command_payload, one_command}

module _ (f : Framing) (piece bytes : List ℕ) (empty : f.rest ≡ []) (is : piece ≡ packet 0 bytes) (short : length bytes < full) (within : length bytes ≤ f.limit) where
  whole : f.rest ++ piece ≡ stream_of (command_payload 0 bytes ∷ []) ++ f.rest
  whole =
      let E : List ℕ → Type 0 = λ rest. rest ++ piece ≡ stream_of (command_payload 0 bytes ∷ []) ++ rest in
      subst E (sym empty) (is ∙ sym (frame-short 0 bytes short) ∙ sym (append-nil (frame 0 bytes)) ∙ sym (append-nil (frame 0 bytes ++ [])))

  taken : IsTaken f.limit (command_payload 0 bytes)
  taken = ((omega arith, omega (arith, short)), within)

  split : IsPartial f.limit f.rest → Splits f.limit (f.rest ++ piece) (command_payload 0 bytes ∷ []) f.rest
  split partial = record { whole = whole; each = (taken, tt); partial = partial }

  -- A framer that holds nothing back gives the command, and holds nothing back then.
  pub whole_command : FedBy f f piece (one_command bytes)
  whole_command = record {
    payloads =
        λ none stream before read. record {
          no_fault = read.no_fault;
          splits = splits_on f.limit stream before f.rest piece read.splits (command_payload 0 bytes ∷ []) f.rest (split read.splits.partial);
        };
    fault = λ fault wrong. absurd cc;
    limit = refl;
  }
