-- The payloads of the command phase of the MySQL client/server protocol: commands, OK, EOF and ERR packets.
use Rattle.std.specs.Prelude.{ℕ, Bool, true, false, List, [], ◌∷◌, ◌++◌, Option, Some, None, ◌==◌, codes, if◌then◌else◌}
use Rattle.vt_value.specs.declared.refusal.Refusal.{Refusal}
use Rattle.vt_value.specs.Refusals.{code_of, state_of, message_of}
use Rattle.mysql_packet.specs.Numbers.{little_endian, length_encoded}
use Rattle.mysql_message.specs.declared.command.Command.{Command}
use Rattle.mysql_message.specs.declared.command.Command.TheVariants.{Quit, InitDb, Query, Ping, Statistics, MultiStatements, Reset, Prepare, Execute, LongData, Close, ResetStatement, Fetch}
use Rattle.mysql_message.specs.declared.command.StatementFault.{StatementFault}
use Rattle.mysql_message.specs.declared.command.StatementFault.TheVariants.{UnknownStatement, TooManyStatements, WrongArguments}

-- SERVER_STATUS_AUTOCOMMIT
abbrev pub autocommit : ℕ
autocommit = 2

-- OK: the affected rows, the last insert id, which is 0, the status, no warnings
abbrev pub ok_payload : ℕ → ℕ → List ℕ
ok_payload affected status =
    0x00 ∷ length_encoded affected ++ length_encoded 0 ++ little_endian 2 status ++ little_endian 2 0

-- EOF: no warnings, the status
abbrev pub eof_payload : ℕ → List ℕ
eof_payload status = 0xFE ∷ little_endian 2 0 ++ little_endian 2 status

-- The end of a result set if CLIENT_DEPRECATE_EOF is set: an OK packet of no affected rows, by the header of EOF.
abbrev pub set_end_payload : ℕ → List ℕ
set_end_payload status = 0xFE ∷ length_encoded 0 ++ length_encoded 0 ++ little_endian 2 status ++ little_endian 2 0

-- the line that answers COM_STATISTICS, with nothing before it: the version of the server
abbrev pub statistics_payload : List ℕ
statistics_payload = codes "8.0.0-router"

-- ERR: the code, `#` and the SQL state, the message
abbrev pub err_payload : Refusal → List ℕ
err_payload r = 0xFF ∷ little_endian 2 (code_of r) ++ 0x23 ∷ state_of r ++ message_of r

-- The ERR packet of a fault of prepared statements: a number that no statement has, one statement too many, and bytes that are no values.
abbrev pub fault_payload : StatementFault → List ℕ
fault_payload UnknownStatement = 0xFF ∷ little_endian 2 1243 ++ 0x23 ∷ codes "HY000" ++ codes "unknown prepared statement"
fault_payload TooManyStatements = 0xFF ∷ little_endian 2 1461 ++ 0x23 ∷ codes "42000" ++ codes "too many statements"
fault_payload WrongArguments = 0xFF ∷ little_endian 2 1210 ++ 0x23 ∷ codes "HY000" ++ codes "wrong arguments"

-- What begins the answer to COM_STMT_PREPARE: the statement's number, how many columns and holes it has, an unused byte, no warnings.
abbrev pub prepared_payload : ℕ → ℕ → ℕ → List ℕ
prepared_payload statement columns holes =
    0x00 ∷ little_endian 4 statement ++ little_endian 2 columns ++ little_endian 2 holes ++ 0x00 ∷ little_endian 2 0

-- what a client asks for
pub data Request : Type 0 where
  quit : Request
  init_db : List ℕ → Request
  query : List ℕ → Request
  ping : Request
  statistics : Request
  multi_statements : Bool → Request
  reset : Request
  prepare : List ℕ → Request
  execute : List ℕ → Request
  long_data : List ℕ → Request
  close : List ℕ → Request
  reset_statement : List ℕ → Request
  fetch : Request

abbrev pub request_of : Command → Request
request_of Quit = quit
request_of (InitDb name) = init_db name.now
request_of (Query text) = query text.now
request_of Ping = ping
request_of Statistics = statistics
request_of (MultiStatements on) = multi_statements on
request_of Reset = reset
request_of (Prepare text) = prepare text.now
request_of (Execute bytes) = execute bytes.now
request_of (LongData bytes) = long_data bytes.now
request_of (Close bytes) = close bytes.now
request_of (ResetStatement bytes) = reset_statement bytes.now
request_of Fetch = fetch

-- What COM_SET_OPTION asks for: MYSQL_OPTION_MULTI_STATEMENTS_ON is 0, and OFF is 1.
abbrev pub option_of : List ℕ → Option Request
option_of (on ∷ high ∷ []) =
    if high == 0 then (if on == 0 then Some (multi_statements true) else if on == 1 then Some (multi_statements false) else None) else None
option_of _ = None

-- The command that a payload is, if it is one: COM_QUIT, COM_INIT_DB with a keyspace's name, COM_QUERY, COM_STATISTICS, COM_PING, COM_SET_OPTION with an option,
-- COM_RESET_CONNECTION; and those of prepared statements: COM_STMT_PREPARE with a text, COM_STMT_EXECUTE, COM_STMT_SEND_LONG_DATA, COM_STMT_CLOSE,
-- COM_STMT_RESET, COM_STMT_FETCH. What follows the byte of the others isn't looked at.
abbrev pub command_of : List ℕ → Option Request
command_of [] = None
command_of (b ∷ bytes) =
    if b == 0x01 then Some quit
    else if b == 0x02 then Some (init_db bytes)
    else if b == 0x03 then Some (query bytes)
    else if b == 0x09 then Some statistics
    else if b == 0x0E then Some ping
    else if b == 0x16 then Some (prepare bytes)
    else if b == 0x17 then Some (execute bytes)
    else if b == 0x18 then Some (long_data bytes)
    else if b == 0x19 then Some (close bytes)
    else if b == 0x1A then Some (reset_statement bytes)
    else if b == 0x1B then option_of bytes
    else if b == 0x1C then Some fetch
    else if b == 0x1F then Some reset
    else None
