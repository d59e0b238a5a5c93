-- The connection phase: whom a server lets in, and what it writes for the client's response.
use Rattle.prepared_statements.specs.Held.{none_held}
use Rattle.std.specs.Prelude.{◌≡◌, ◌==◌, ◌&&◌, not, ℕ, Bool, true, false, List, [], ◌∷◌, Option, Some, None, bytes_eq, bit_and, is_some, position}
use Rattle.vt_value.specs.declared.refusal.Refusal.TheVariants.{AccessDenied, UnknownKeyspace, BadHandshake}
use Rattle.vschema.specs.declared.schema.Keyspace.{Keyspace}
use Rattle.mysql_packet.specs.declared.framer.Payload.{Payload}
use Rattle.mysql_packet.specs.Frames.{frame}
use Rattle.mysql_message.specs.Messages.{ok_payload, err_payload}
use Rattle.mysql_handshake.specs.Handshakes.{Answered, IsResponse, announced, plugin_name, auth_switch_payload}
use Rattle.mysql_handshake.specs.Native.{is_right}
use Rattle.session.specs.declared.conversation.end.End.TheVariants.{Denied}
use Rattle.session.specs.declared.conversation.access.Handshake.{Handshake}
use Rattle.session.specs.declared.conversation.connection_state.PendingLogin.{PendingLogin}
use Rattle.session.specs.declared.conversation.connection_state.Phase.{Phase}
use Rattle.session.specs.declared.conversation.connection_state.Phase.TheVariants.{Response, Switch, Commands}
use Rattle.session.specs.declared.conversation.connection_state.ConnectionState.{ConnectionState}
use Rattle.session.specs.declared.conversation.connection_state.ConnectionState.TheVariants.{At, Ended}
use Rattle.session.specs.conversation.Packets.{reply_number}
use Rattle.session.specs.conversation.ConnectionStates.{settings_at_first}

-- the ordinal of the keyspace of this name
abbrev pub keyspace_named : List Keyspace → List ℕ → Option ℕ
keyspace_named keyspaces name = position (λ k. bytes_eq k.name name) keyspaces

-- the keyspace that is the database which a client names; none and an empty name ask for none
abbrev pub keyspace_asked : List Keyspace → Option (List ℕ) → Option ℕ
keyspace_asked keyspaces None = None
keyspace_asked keyspaces (Some []) = None
keyspace_asked keyspaces (Some (b ∷ name)) = keyspace_named keyspaces (b ∷ name)

-- whether the database that a client names is a keyspace, if it asks for one
abbrev pub is_known : List Keyspace → Option (List ℕ) → Bool
is_known keyspaces None = true
is_known keyspaces (Some []) = true
is_known keyspaces (Some (b ∷ name)) = is_some (keyspace_named keyspaces (b ∷ name))

-- whether a client answered by another plugin than `mysql_native_password`
abbrev pub is_other_plugin : Option (List ℕ) → Bool
is_other_plugin None = false
is_other_plugin (Some name) = not (bytes_eq name plugin_name)

-- what is kept of a client's response: the capabilities that both sides set, whether its user and its database are right, and which keyspace that is
abbrev pub login_of : Handshake → List Keyspace → Answered → PendingLogin
login_of handshake keyspaces r = record {
  capabilities = bit_and r.capabilities announced;
  is_user = bytes_eq r.user handshake.access.user;
  is_database = is_known keyspaces r.database;
  keyspace = keyspace_asked keyspaces r.database;
}

-- What is written for a client whose answer to the salt is right or not. User and answer are looked at before the database.
pub data Admits (status number : ℕ) (login : PendingLogin) (right : Bool) : List ℕ → ConnectionState → Type 0 where
  denied : (login.is_user && right) ≡ false → Admits status number login right (frame number (err_payload AccessDenied)) (Ended Denied)
  unknown : (login.is_user && right) ≡ true → login.is_database ≡ false
      → Admits status number login right (frame number (err_payload UnknownKeyspace)) (Ended Denied)
  admitted : (login.is_user && right) ≡ true → login.is_database ≡ true
      → Admits status number login right (frame number (ok_payload 0 status)) (At (Commands (settings_at_first login.capabilities login.keyspace) none_held))

-- What is written for a payload of the connection phase: the client's response to the greeting, which is numbered 1, and, if that came
-- by another plugin, its answer to the request to switch, numbered 3.
pub data LogsIn (handshake : Handshake) (keyspaces : List Keyspace) (status : ℕ) : Phase → Payload → List ℕ → ConnectionState → Type 0 where
  unreadable : {p : Payload} → p.first == 1 ≡ true → ((r : Answered) → IsResponse p.bytes r → ⊥)
      → LogsIn handshake keyspaces status Response p (frame (reply_number p) (err_payload BadHandshake)) (Ended Denied)
  switches : {p : Payload} (r : Answered) → p.first == 1 ≡ true → IsResponse p.bytes r → is_other_plugin r.plugin ≡ true
      → LogsIn handshake keyspaces status Response p (frame (reply_number p) (auth_switch_payload handshake.salt)) (At (Switch (login_of handshake keyspaces r)))
  responds : {p : Payload} {out : List ℕ} {connection_state : ConnectionState} (r : Answered) → p.first == 1 ≡ true → IsResponse p.bytes r → is_other_plugin r.plugin ≡ false
      → Admits status (reply_number p) (login_of handshake keyspaces r) (is_right handshake.access.stage2 handshake.salt r.answer) out connection_state
      → LogsIn handshake keyspaces status Response p out connection_state
  answers : {p : Payload} {out : List ℕ} {connection_state : ConnectionState} {login : PendingLogin} → p.first == 3 ≡ true
      → Admits status (reply_number p) login (is_right handshake.access.stage2 handshake.salt p.bytes) out connection_state
      → LogsIn handshake keyspaces status (Switch login) p out connection_state
