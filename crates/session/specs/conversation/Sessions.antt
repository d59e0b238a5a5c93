-- What a session knows between two pieces of its input.
use Rattle.std.specs.Prelude.{◌≡◌, ℕ, List, ◌++◌, Option, Some, None}
use Rattle.mysql_packet.specs.declared.framer.Payload.{Payload}
use Rattle.mysql_packet.specs.declared.framer.HeaderFault.{HeaderFault}
use Rattle.mysql_packet.specs.declared.framer.Fed.{Fed}
use Rattle.mysql_packet.specs.Framing.{Framing, HasFramed}
use Rattle.resultset.specs.declared.Outcome.{Outcome}
use Rattle.route_engine.specs.Pendings.{OpenView}
use Rattle.session.specs.declared.conversation.end.End.{End}
use Rattle.session.specs.declared.conversation.end.End.TheVariants.{Broken}
use Rattle.session.specs.declared.conversation.connection_state.Phase.{Phase}
use Rattle.session.specs.declared.conversation.connection_state.ConnectionState.{ConnectionState}
use Rattle.session.specs.declared.conversation.connection_state.ConnectionState.TheVariants.{At, Ended}
use Rattle.session.specs.conversation.Talk.{SessionContext, Conversation, Talk}
use Rattle.session.specs.conversation.Packets.{refusal_bytes}
use Rattle.session.specs.conversation.ConnectionStates.{end_of}
use Rattle.session.specs.declared.conversation.access.Handshake.{Handshake}

-- what it greets with and whom it lets in, what its framer knows, how it stands, and what it keeps of its open transaction
pub record SessionState : Type 0 where
  pub handshake : Handshake
  pub framing : Framing
  pub connection_state : ConnectionState
  pub tx : Option OpenView

module _ {S : Type 0} (context : SessionContext S) (May : S → List ℕ → Outcome → S → Type 0) (begin : ConnectionState) where
  -- The session goes on: of the bytes so far it has written the greeting and the replies to each whole payload, and nothing else. That led
  -- from how it stood and what it had seen at first to how it stands and what it has seen now.
  pub record HasTalked (s : SessionState) (first : S) (bytes out : List ℕ) (now : S) : Type 0 where
    pub payloads : List Payload
    pub goes_on : end_of s.connection_state ≡ None
    pub read : HasFramed s.framing bytes payloads
    pub replies : Conversation context May begin first payloads out s.connection_state now

  -- What is written for the payloads and the fault that a piece gave, and the session's state after it.
  pub data AnswersFed (first : S) (fed : Fed) : List ℕ → ConnectionState → S → Type 0 where
    ended : {out : List ℕ} {end : End} {now : S} → Conversation context May begin first fed.payloads out (Ended end) now
        → AnswersFed first fed out (Ended end) now
    goes_on : {out : List ℕ} {at : Phase} {now : S} → fed.fault ≡ None → Conversation context May begin first fed.payloads out (At at) now
        → AnswersFed first fed out (At at) now
    refused : {out : List ℕ} {at : Phase} {now : S} (fault : HeaderFault) → fed.fault ≡ Some fault → Conversation context May begin first fed.payloads out (At at) now
        → AnswersFed first fed (out ++ refusal_bytes fault.number fault.refusal) (Ended Broken) now

  -- The session goes on, or has had its whole conversation over the bytes.
  abbrev pub HasTalkedOn : SessionState → S → List ℕ → List ℕ → Option End → S → Type 0
  HasTalkedOn s first bytes out None now = HasTalked s first bytes out now
  HasTalkedOn s first bytes out (Some end) now = Talk s.framing.limit context May begin first bytes out end now

-- the state after a piece: its framer has the same limit, and the connection is the same
pub record IsStateAfter (old new : SessionState) : Type 0 where
  pub handshake : new.handshake ≡ old.handshake
  pub limit : new.framing.limit ≡ old.framing.limit
