-- The payloads of the connection phase of the MySQL client/server protocol: the server's greeting (HandshakeV10), the client's
-- HandshakeResponse41, and AuthSwitchRequest.
use Rattle.std.specs.Prelude.{◌≡◌, ℕ, Bool, true, false, ◌==◌, ◌+◌, ◌/◌, ◌%◌, ◌^◌, ◌<◌, List, [], ◌∷◌, ◌++◌, length, take, drop, replicate, codes, Option, Some, None, Contains, option_map}
use Rattle.mysql_handshake.specs.declared.response.Response.{Response}
use Rattle.mysql_packet.specs.Numbers.{little_endian}

abbrev pub plugin_name : List ℕ
plugin_name = codes "mysql_native_password"

-- whether a capability is set
abbrev pub is_set : ℕ → ℕ → Bool
is_set flag capabilities = capabilities / flag % 2 == 1

abbrev pub long_password : ℕ
long_password = 0x1

abbrev pub long_flag : ℕ
long_flag = 0x4

abbrev pub connect_with_db : ℕ
connect_with_db = 0x8

abbrev pub protocol_41 : ℕ
protocol_41 = 0x200

abbrev pub transactions : ℕ
transactions = 0x2000

abbrev pub secure_connection : ℕ
secure_connection = 0x8000

abbrev pub plugin_auth : ℕ
plugin_auth = 0x80000

abbrev pub deprecate_eof : ℕ
deprecate_eof = 0x1000000

-- what the server is capable of
abbrev pub announced : ℕ
announced = long_password + long_flag + connect_with_db + protocol_41 + transactions + secure_connection + plugin_auth + deprecate_eof

-- the greeting of the connection with this id: protocol 10, the server's version; the salt in two parts, and between them the
-- capabilities in two parts, character set 63 (binary), the status of autocommit, and how long the salt is with its zero
abbrev pub greeting_start : ℕ → List ℕ
greeting_start id = 0x0A ∷ codes "8.0.0-router" ++ 0x00 ∷ little_endian 4 id

abbrev pub greeting_flags : List ℕ
greeting_flags = 0x00 ∷ little_endian 2 announced ++ 0x3F ∷ little_endian 2 2 ++ little_endian 2 (announced / 2 ^ 16) ++ 0x15 ∷ replicate 10 0x00

abbrev pub greeting_end : List ℕ
greeting_end = 0x00 ∷ plugin_name ++ 0x00 ∷ []

unfoldable pub greeting_payload : ℕ → List ℕ → List ℕ
greeting_payload id salt = (((greeting_start id ++ take 8 salt) ++ greeting_flags) ++ drop 8 salt) ++ greeting_end

-- the request to answer the same salt by `mysql_native_password`
abbrev pub auth_switch_payload : List ℕ → List ℕ
auth_switch_payload salt = 0xFE ∷ plugin_name ++ 0x00 ∷ salt ++ 0x00 ∷ []

-- a text without a zero
abbrev pub HasNoZero : List ℕ → Type 0
HasNoZero text = Contains text 0x00 → ⊥

-- a field that may be there, its zero, and what follows it
abbrev pub field_before : Option (List ℕ) → List ℕ → List ℕ
field_before None rest = rest
field_before (Some text) rest = text ++ (0x00 ∷ rest)

-- a field is there exactly when its capability is set, and has no zero
abbrev pub IsField : Bool → Option (List ℕ) → Type 0
IsField true None = ⊥
IsField true (Some text) = HasNoZero text
IsField false None = Unit {0}
IsField false (Some text) = ⊥

-- what a client answers
pub record Answered : Type 0 where
  pub capabilities : ℕ
  pub user : List ℕ
  pub answer : List ℕ
  pub database : Option (List ℕ)
  pub plugin : Option (List ℕ)

-- What a client answers: its capabilities, its user, its response to the salt, and, by the capabilities, a database and a plugin. The
-- largest packet, the character set and 23 reserved bytes, 28 in all, aren't looked at, nor is what follows the last field.
pub record IsResponse (bytes : List ℕ) (r : Answered) : Type 0 where
  pub unread : List ℕ
  pub more : List ℕ
  pub whole : bytes
      ≡ little_endian 4 r.capabilities ++ (unread ++ (r.user ++ (0x00 ∷ length r.answer ∷ (r.answer ++ field_before r.database (field_before r.plugin more)))))
  pub is_41 : is_set protocol_41 r.capabilities ≡ true
  pub is_secure : is_set secure_connection r.capabilities ≡ true
  pub in_range : (r.capabilities < 2 ^ 32) × (length r.answer < 256) × (length unread ≡ 28)
  pub user_ends : HasNoZero r.user
  pub has_database : IsField (is_set connect_with_db r.capabilities) r.database
  pub has_plugin : IsField (is_set plugin_auth r.capabilities) r.plugin

abbrev pub answered_of : Response → Answered
answered_of r = record {
  capabilities = r.capabilities;
  user = r.user.now;
  answer = r.answer.now;
  database = option_map (λ t. t.now) r.database;
  plugin = option_map (λ t. t.now) r.plugin;
}
