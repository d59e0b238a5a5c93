-- How far a conversation has come if a device failed, or there was no memory to take its input.
use Rattle.std.specs.Prelude.{◌≡◌, ℕ, List, Some, None}
use mathlib.Core.List.{IsPrefix}
use Rattle.mysql_packet.specs.declared.framer.Payload.{Payload}
use Rattle.mysql_packet.specs.declared.framer.HeaderFault.{HeaderFault}
use Rattle.mysql_packet.specs.declared.framer.Fed.{Fed}
use Rattle.mysql_packet.specs.Frames.{Splits, IsRefusedAfter}
use Rattle.resultset.specs.declared.Outcome.{Outcome}
use Rattle.session.specs.declared.conversation.connection_state.ConnectionState.{ConnectionState}
use Rattle.session.specs.conversation.Talk.{SessionContext, Conversation}
use Rattle.session.specs.conversation.ConnectionStates.{end_of}
use Rattle.session.specs.conversation.Sessions.{AnswersFed}

-- a front of the payloads, or all of them and the fault after them
pub data IsFrontOf : Fed → Fed → Type 0 where
  some : {part whole : Fed} → part.fault ≡ None → IsPrefix part.payloads whole.payloads → IsFrontOf part whole
  all : {fed : Fed} → IsFrontOf fed fed

-- The sink failed: a front of the payloads and of the fault after them is answered, which led from what the session had seen at first to
-- what it has seen now, and the sink took a front of what is written for that.
pub record IsCutOff {S : Type 0} (context : SessionContext S) (May : S → List ℕ → Outcome → S → Type 0) (begin : ConnectionState) (first : S) (fed : Fed) (written : List ℕ) (now : S) : Type 0 where
  pub part : Fed
  pub told : List ℕ
  pub connection_state : ConnectionState
  pub front : IsFrontOf part fed
  pub answers : AnswersFed context May begin first part told connection_state now
  pub taken : IsPrefix written told

-- the payloads that the bytes hold, and the header after them that is refused, if one is
pub record HoldsPayloads (limit : ℕ) (bytes : List ℕ) (fed : Fed) : Type 0 where
  pub whole : fed.fault ≡ None → (rest : List ℕ) × Splits limit bytes fed.payloads rest
  pub refused : (fault : HeaderFault) → fed.fault ≡ Some fault → IsRefusedAfter limit bytes fed.payloads fault

-- Of the conversation over the bytes that were read the sink failed to take all: a front of the payloads is answered, and the sink took a
-- front of the replies.
pub record HasBrokenOff (limit : ℕ) {S : Type 0} (context : SessionContext S) (May : S → List ℕ → Outcome → S → Type 0) (begin : ConnectionState) (first : S) (bytes written : List ℕ) (now : S) : Type 0 where
  pub fed : Fed
  pub holds : HoldsPayloads limit bytes fed
  pub cut : IsCutOff context May begin first fed written now

-- A conversation that goes on: of the bytes so far each whole payload has its replies, and nothing else was written.
pub record IsUnfinished (limit : ℕ) {S : Type 0} (context : SessionContext S) (May : S → List ℕ → Outcome → S → Type 0) (begin : ConnectionState) (first : S) (bytes out : List ℕ) (now : S) : Type 0 where
  pub payloads : List Payload
  pub rest : List ℕ
  pub connection_state : ConnectionState
  pub goes_on : end_of connection_state ≡ None
  pub read : Splits limit bytes payloads rest
  pub replies : Conversation context May begin first payloads out connection_state now
