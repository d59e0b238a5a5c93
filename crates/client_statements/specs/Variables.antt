-- The variables that the server has, each with its value. Names are MySQL's, of its manual's chapter 'Server System Variables'.
use Rattle.std.specs.Prelude.{ℕ, Bool, List, [], ◌∷◌, codes, Option, if◌then◌else◌}
use Rattle.std.specs.List.{find}
use Rattle.client_statements.specs.tokens.Keywords.{same_in_any_case}
use Rattle.client_statements.specs.declared.variable.Variable.{Variable}
use Rattle.client_statements.specs.declared.variable.Variable.TheVariants.{AutoIncrementIncrement, Autocommit, CharacterSetClient, CharacterSetConnection, CharacterSetDatabase, CharacterSetResults, CharacterSetServer, CollationConnection, CollationDatabase, CollationServer, HaveOpenssl, HaveSsl, InitConnect, InteractiveTimeout, License, LowerCaseTableNames, MaxAllowedPacket, NetWriteTimeout, PerformanceSchema, ProtocolVersion, QueryCacheSize, QueryCacheType, ReadOnly, SqlAutoIsNull, SqlMode, SqlSafeUpdates, SystemTimeZone, TimeZone, TransactionIsolation, TransactionReadOnly, TxIsolation, TxReadOnly, UniqueChecks, Version, VersionComment, WaitTimeout}

-- all of them, by name
abbrev pub variables : List Variable
variables =
    AutoIncrementIncrement ∷ Autocommit ∷ CharacterSetClient ∷ CharacterSetConnection ∷ CharacterSetDatabase ∷ CharacterSetResults ∷ CharacterSetServer ∷ CollationConnection ∷ CollationDatabase ∷ CollationServer ∷ HaveOpenssl ∷ HaveSsl ∷ InitConnect ∷ InteractiveTimeout ∷ License ∷ LowerCaseTableNames ∷ MaxAllowedPacket ∷ NetWriteTimeout ∷ PerformanceSchema ∷ ProtocolVersion ∷ QueryCacheSize ∷ QueryCacheType ∷ ReadOnly ∷ SqlAutoIsNull ∷ SqlMode ∷ SqlSafeUpdates ∷ SystemTimeZone ∷ TimeZone ∷ TransactionIsolation ∷ TransactionReadOnly ∷ TxIsolation ∷ TxReadOnly ∷ UniqueChecks ∷ Version ∷ VersionComment ∷ WaitTimeout ∷ []

abbrev pub variable_name : Variable → List ℕ
variable_name AutoIncrementIncrement = codes "auto_increment_increment"
variable_name Autocommit = codes "autocommit"
variable_name CharacterSetClient = codes "character_set_client"
variable_name CharacterSetConnection = codes "character_set_connection"
variable_name CharacterSetDatabase = codes "character_set_database"
variable_name CharacterSetResults = codes "character_set_results"
variable_name CharacterSetServer = codes "character_set_server"
variable_name CollationConnection = codes "collation_connection"
variable_name CollationDatabase = codes "collation_database"
variable_name CollationServer = codes "collation_server"
variable_name HaveOpenssl = codes "have_openssl"
variable_name HaveSsl = codes "have_ssl"
variable_name InitConnect = codes "init_connect"
variable_name InteractiveTimeout = codes "interactive_timeout"
variable_name License = codes "license"
variable_name LowerCaseTableNames = codes "lower_case_table_names"
variable_name MaxAllowedPacket = codes "max_allowed_packet"
variable_name NetWriteTimeout = codes "net_write_timeout"
variable_name PerformanceSchema = codes "performance_schema"
variable_name ProtocolVersion = codes "protocol_version"
variable_name QueryCacheSize = codes "query_cache_size"
variable_name QueryCacheType = codes "query_cache_type"
variable_name ReadOnly = codes "read_only"
variable_name SqlAutoIsNull = codes "sql_auto_is_null"
variable_name SqlMode = codes "sql_mode"
variable_name SqlSafeUpdates = codes "sql_safe_updates"
variable_name SystemTimeZone = codes "system_time_zone"
variable_name TimeZone = codes "time_zone"
variable_name TransactionIsolation = codes "transaction_isolation"
variable_name TransactionReadOnly = codes "transaction_read_only"
variable_name TxIsolation = codes "tx_isolation"
variable_name TxReadOnly = codes "tx_read_only"
variable_name UniqueChecks = codes "unique_checks"
variable_name Version = codes "version"
variable_name VersionComment = codes "version_comment"
variable_name WaitTimeout = codes "wait_timeout"

-- What SELECT tells. Texts are bytes that the client reads as it says, and are compared as bytes. A connection that is idle for 28800
-- seconds is closed, and one whose client takes nothing of a reply for a minute; no command is longer than 2^20 bytes.
abbrev pub variable_value : Variable → Bool → List ℕ
variable_value AutoIncrementIncrement on = codes "1"
variable_value Autocommit on = if on then codes "1" else codes "0"
variable_value CharacterSetClient on = codes "utf8mb4"
variable_value CharacterSetConnection on = codes "utf8mb4"
variable_value CharacterSetDatabase on = codes "utf8mb4"
variable_value CharacterSetResults on = codes "utf8mb4"
variable_value CharacterSetServer on = codes "utf8mb4"
variable_value CollationConnection on = codes "utf8mb4_bin"
variable_value CollationDatabase on = codes "utf8mb4_bin"
variable_value CollationServer on = codes "utf8mb4_bin"
variable_value HaveOpenssl on = codes "DISABLED"
variable_value HaveSsl on = codes "DISABLED"
variable_value InitConnect on = codes ""
variable_value InteractiveTimeout on = codes "28800"
variable_value License on = codes "Apache-2.0"
variable_value LowerCaseTableNames on = codes "0"
variable_value MaxAllowedPacket on = codes "1048576"
variable_value NetWriteTimeout on = codes "60"
variable_value PerformanceSchema on = codes "0"
variable_value ProtocolVersion on = codes "10"
variable_value QueryCacheSize on = codes "0"
variable_value QueryCacheType on = codes "OFF"
variable_value ReadOnly on = codes "0"
variable_value SqlAutoIsNull on = codes "0"
variable_value SqlMode on = codes "ONLY_FULL_GROUP_BY,STRICT_TRANS_TABLES,NO_ZERO_IN_DATE,NO_ZERO_DATE,ERROR_FOR_DIVISION_BY_ZERO,NO_ENGINE_SUBSTITUTION"
variable_value SqlSafeUpdates on = codes "0"
variable_value SystemTimeZone on = codes "UTC"
variable_value TimeZone on = codes "SYSTEM"
variable_value TransactionIsolation on = codes "REPEATABLE-READ"
variable_value TransactionReadOnly on = codes "0"
variable_value TxIsolation on = codes "REPEATABLE-READ"
variable_value TxReadOnly on = codes "0"
variable_value UniqueChecks on = codes "1"
variable_value Version on = codes "8.0.0-router"
variable_value VersionComment on = codes "Peamslik"
variable_value WaitTimeout on = codes "28800"

-- what SHOW VARIABLES tells, a switch as ON or OFF
abbrev pub shown_variable : Variable → Bool → List ℕ
shown_variable Autocommit on = if on then codes "ON" else codes "OFF"
shown_variable PerformanceSchema on = codes "OFF"
shown_variable ReadOnly on = codes "OFF"
shown_variable SqlAutoIsNull on = codes "OFF"
shown_variable SqlSafeUpdates on = codes "OFF"
shown_variable TransactionReadOnly on = codes "OFF"
shown_variable TxReadOnly on = codes "OFF"
shown_variable UniqueChecks on = codes "ON"
shown_variable v on = variable_value v on

-- the variable that has this name, in any case
unfoldable pub variable_of : List ℕ → Option Variable
variable_of name = find (λ v. same_in_any_case name (variable_name v)) variables
