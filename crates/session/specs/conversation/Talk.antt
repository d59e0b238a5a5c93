-- A conversation of the MySQL client/server protocol: what the server writes for what it reads.
use Rattle.std.specs.Prelude.{◌≡◌, ℕ, true, false, ◌==◌, List, [], ◌∷◌, ◌++◌, Some, None, if◌then◌else◌}
use Rattle.vt_value.specs.declared.refusal.Refusal.TheVariants.{PacketsOutOfOrder, UnknownCommand, UnknownKeyspace, NotSupported}
use Rattle.mysql_packet.specs.declared.framer.Payload.{Payload}
use Rattle.mysql_packet.specs.declared.framer.HeaderFault.{HeaderFault}
use Rattle.mysql_packet.specs.Frames.{frame, Splits, IsRefusedAfter}
use Rattle.mysql_message.specs.Messages.{Request, execute, quit, init_db, query, ping, statistics, multi_statements, reset, command_of, ok_payload, err_payload, statistics_payload}
use Rattle.resultset.specs.declared.Outcome.{Outcome}
use Rattle.resultset.specs.declared.SetEnd.{SetEnd}
use Rattle.resultset.specs.declared.SetEnd.TheVariants.{EofPackets, OkPacket}
use Rattle.resultset.specs.Encoding.{encoded, after_rows}
use Rattle.mysql_handshake.specs.Handshakes.{is_set, deprecate_eof, greeting_payload}
use Rattle.session.specs.declared.conversation.access.Handshake.{Handshake}
use Rattle.session.specs.declared.conversation.end.End.{End}
use Rattle.session.specs.declared.conversation.end.End.TheVariants.{Quit, Closed, Truncated, Broken, Denied}
use Rattle.session.specs.declared.conversation.connection_state.Phase.{Phase}
use Rattle.session.specs.declared.conversation.connection_state.Phase.TheVariants.{Response, Commands}
use Rattle.session.specs.declared.conversation.connection_state.Settings.{Settings}
use Rattle.session.specs.declared.conversation.connection_state.ConnectionState.{ConnectionState}
use Rattle.session.specs.declared.conversation.connection_state.ConnectionState.TheVariants.{New, At, Ended}
use Rattle.session.specs.conversation.ConnectionStates.{first_number, takes_commands, settings_at_first}
use Rattle.session.specs.conversation.Packets.{refusal_bytes, reply_number}
pub use Rattle.session.specs.conversation.SessionContext.{SessionContext, in_transaction, status_flags, status_in}
use Rattle.resultset.specs.BinaryRows.{binary_encoded}
use Rattle.prepared_statements.specs.Held.{HeldStatements, none_held, RunsHeld}
use Rattle.session.specs.conversation.GivesText.{GivesText}
use Rattle.session.specs.conversation.Prepared.{AnswersStatement}
use Rattle.session.specs.conversation.Logins.{LogsIn, keyspace_named}

-- how the parts of a result set end, by the capabilities that both sides set
abbrev pub set_end_of : ℕ → SetEnd
set_end_of bits = if is_set deprecate_eof bits then OkPacket else EofPackets

-- how a session begins: one that is new with the greeting
pub data Greets (handshake : Handshake) : ConnectionState → List ℕ → Phase → Type 0 where
  greets : Greets handshake New (frame 0 (greeting_payload handshake.id handshake.salt)) Response
  goes_on : {at : Phase} → Greets handshake (At at) [] at

module _ {S : Type 0} (context : SessionContext S) (May : S → List ℕ → Outcome → S → Type 0) where
  -- What is written for one payload in a phase, and the session's state after it. A payload whose first number is another than the phase
  -- begins with is out of order, which ends the session, as COM_QUIT does. A client may use each keyspace, which changes no answer. A query has
  -- an outcome that its text may give, and that leads from what the session had seen to what it then has seen. COM_RESET_CONNECTION drops an
  -- open transaction, what was set and what was prepared. Texts of several statements are never taken. What executes a prepared statement gives what
  -- its text gives in which each hole has the literal of its value, in binary rows.
  pub data AnswersPayload : Phase → S → Payload → List ℕ → ConnectionState → S → Type 0 where
    out_of_order : {at : Phase} {s : S} {p : Payload} → p.first == first_number at ≡ false
        → AnswersPayload at s p (refusal_bytes p.first PacketsOutOfOrder) (Ended Broken) s
    logs_in : {at : Phase} {s : S} {p : Payload} {out : List ℕ} {connection_state : ConnectionState} → LogsIn context.handshake context.schema.keyspaces (status_flags true (context.is_open s)) at p out connection_state
        → AnswersPayload at s p out connection_state s
    quits : {set : Settings} {held : HeldStatements} {s : S} {p : Payload} → p.first == 0 ≡ true → command_of p.bytes ≡ Some quit
        → AnswersPayload (Commands set held) s p [] (Ended Quit) s
    unknown : {set : Settings} {held : HeldStatements} {s : S} {p : Payload} → p.first == 0 ≡ true → command_of p.bytes ≡ None
        → AnswersPayload (Commands set held) s p (frame (reply_number p) (err_payload UnknownCommand)) (At (Commands set held)) s
    pinged : {set : Settings} {held : HeldStatements} {s : S} {p : Payload} → p.first == 0 ≡ true → command_of p.bytes ≡ Some ping
        → AnswersPayload (Commands set held) s p (frame (reply_number p) (ok_payload 0 (status_in context set s))) (At (Commands set held)) s
    selected : {set : Settings} {held : HeldStatements} {s : S} {p : Payload} (name : List ℕ) (ordinal : ℕ) → p.first == 0 ≡ true → command_of p.bytes ≡ Some (init_db name)
        → keyspace_named context.schema.keyspaces name ≡ Some ordinal
        → AnswersPayload (Commands set held) s p (frame (reply_number p) (ok_payload 0 (status_in context set s))) (At (Commands (record set { keyspace = Some ordinal }) held)) s
    unknown_keyspace : {set : Settings} {held : HeldStatements} {s : S} {p : Payload} (name : List ℕ) → p.first == 0 ≡ true → command_of p.bytes ≡ Some (init_db name)
        → keyspace_named context.schema.keyspaces name ≡ None
        → AnswersPayload (Commands set held) s p (frame (reply_number p) (err_payload UnknownKeyspace)) (At (Commands set held)) s
    queried : {set after : Settings} {held : HeldStatements} {s now : S} {p : Payload} (text : List ℕ) (outcome : Outcome)
        → p.first == 0 ≡ true → command_of p.bytes ≡ Some (query text) → GivesText context May set s text outcome after now
        → AnswersPayload (Commands set held) s p (encoded (set_end_of set.capabilities) outcome (reply_number p) (status_in context after now)) (At (Commands after held)) now
    told_statistics : {set : Settings} {held : HeldStatements} {s : S} {p : Payload} → p.first == 0 ≡ true → command_of p.bytes ≡ Some statistics
        → AnswersPayload (Commands set held) s p (frame (reply_number p) statistics_payload) (At (Commands set held)) s
    takes_one_statement : {set : Settings} {held : HeldStatements} {s : S} {p : Payload} → p.first == 0 ≡ true → command_of p.bytes ≡ Some (multi_statements false)
        → AnswersPayload (Commands set held) s p (frame (reply_number p) (after_rows (set_end_of set.capabilities) (status_in context set s))) (At (Commands set held)) s
    takes_no_more : {set : Settings} {held : HeldStatements} {s : S} {p : Payload} → p.first == 0 ≡ true → command_of p.bytes ≡ Some (multi_statements true)
        → AnswersPayload (Commands set held) s p (frame (reply_number p) (err_payload NotSupported)) (At (Commands set held)) s
    reset_all : {set : Settings} {held : HeldStatements} {s : S} {p : Payload} → p.first == 0 ≡ true → command_of p.bytes ≡ Some reset
        → AnswersPayload (Commands set held) s p (frame (reply_number p) (ok_payload 0 (status_flags true false)))
        (At (Commands (settings_at_first set.capabilities set.keyspace) none_held)) (context.dropped s)
    executed : {set after : Settings} {held held_then : HeldStatements} {s now : S} {p : Payload} (bytes text : List ℕ) (outcome : Outcome)
        → p.first == 0 ≡ true → command_of p.bytes ≡ Some (execute bytes) → RunsHeld held bytes text held_then → GivesText context May set s text outcome after now
        → AnswersPayload (Commands set held) s p (binary_encoded (set_end_of set.capabilities) outcome (reply_number p) (status_in context after now))
        (At (Commands after held_then)) now
    of_statement : {set : Settings} {held held_then : HeldStatements} {s : S} {p : Payload} {out : List ℕ} (request : Request) → p.first == 0 ≡ true → command_of p.bytes ≡ Some request
        → AnswersStatement context.schema (set_end_of set.capabilities) (status_in context set s) (reply_number p) held request out held_then
        → AnswersPayload (Commands set held) s p out (At (Commands set held_then)) s

  -- What is written for payloads, one after another, from a phase on. Payloads after the end are not answered.
  pub data Replies : Phase → S → List Payload → List ℕ → ConnectionState → S → Type 0 where
    none : {at : Phase} {s : S} → Replies at s [] [] (At at) s
    goes : {at next : Phase} {s mid t : S} {p : Payload} {more : List Payload} {out rest : List ℕ} {connection_state : ConnectionState}
        → AnswersPayload at s p out (At next) mid → Replies next mid more rest connection_state t
        → Replies at s (p ∷ more) (out ++ rest) connection_state t
    ends : {at : Phase} {s t : S} {p : Payload} {more : List Payload} {out : List ℕ} {end : End}
        → AnswersPayload at s p out (Ended end) t → Replies at s (p ∷ more) out (Ended end) t

  -- What is written from some state on. A session that is new greets its client before anything else.
  pub data Conversation : ConnectionState → S → List Payload → List ℕ → ConnectionState → S → Type 0 where
    new : {s : S} → Conversation New s [] [] New s
    begun : {begin connection_state : ConnectionState} {at : Phase} {s t : S} {ps : List Payload} {front out : List ℕ} → Greets context.handshake begin front at
        → Replies at s ps out connection_state t → Conversation begin s ps (front ++ out) connection_state t

module _ (limit : ℕ) {S : Type 0} (context : SessionContext S) (May : S → List ℕ → Outcome → S → Type 0) (begin : ConnectionState) (s : S) where
  -- The whole conversation over the bytes that were read, from some state on, and its end. A header that is refused has its ERR packet after
  -- the replies, and ends it. If nothing ends it before, the end of the input does: in the command phase between two payloads; else the input is
  -- truncated, within a payload or in the connection phase.
  pub data Talk : List ℕ → List ℕ → End → S → Type 0 where
    ended : {bytes out : List ℕ} {end : End} {t : S} (payloads : List Payload) (rest : List ℕ)
        → Splits limit bytes payloads rest → Conversation context May begin s payloads out (Ended end) t → Talk bytes out end t
    ended_before : {bytes out : List ℕ} {end : End} {t : S} (payloads : List Payload) (fault : HeaderFault)
        → IsRefusedAfter limit bytes payloads fault → Conversation context May begin s payloads out (Ended end) t → Talk bytes out end t
    refused : {bytes out : List ℕ} {at : Phase} {t : S} (payloads : List Payload) (fault : HeaderFault)
        → IsRefusedAfter limit bytes payloads fault → Conversation context May begin s payloads out (At at) t
        → Talk bytes (out ++ refusal_bytes fault.number fault.refusal) Broken t
    closed : {bytes out : List ℕ} {at : Phase} {t : S} (payloads : List Payload) → takes_commands at ≡ true
        → Splits limit bytes payloads [] → Conversation context May begin s payloads out (At at) t → Talk bytes out Closed t
    cut_off : {bytes out : List ℕ} {at : Phase} {t : S} (payloads : List Payload) → takes_commands at ≡ false
        → Splits limit bytes payloads [] → Conversation context May begin s payloads out (At at) t → Talk bytes out Truncated t
    truncated : {bytes out : List ℕ} {at : Phase} {t : S} (payloads : List Payload) (b : ℕ) (rest : List ℕ)
        → Splits limit bytes payloads (b ∷ rest) → Conversation context May begin s payloads out (At at) t → Talk bytes out Truncated t

-- a command or a fault ended the session, or the end of its input did
abbrev pub IsByCommand : End → Type 0
IsByCommand Quit = Unit {0}
IsByCommand Broken = Unit {0}
IsByCommand Denied = Unit {0}
IsByCommand Closed = ⊥
IsByCommand Truncated = ⊥

abbrev pub IsByInput : End → Type 0
IsByInput Quit = ⊥
IsByInput Broken = ⊥
IsByInput Denied = ⊥
IsByInput Closed = Unit {0}
IsByInput Truncated = Unit {0}
