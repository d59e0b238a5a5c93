-- The words that MySQL 8.0 reserves, by 'Keywords and Reserved Words' of its reference manual: none is an alias without quotes.
use Rattle.std.specs.Prelude.{ℕ, Bool, List, [], ◌∷◌, codes, Option, Some, None, if◌then◌else◌}
use Rattle.std.specs.List.{list_any}
use Rattle.client_statements.specs.tokens.Keywords.{same_in_any_case}
use Rattle.client_statements.specs.tokens.Pieces.{Lexeme, bare, named}

abbrev pub reserved : List (List ℕ)
reserved =
    codes "ACCESSIBLE" ∷ codes "ADD" ∷ codes "ALL" ∷ codes "ALTER" ∷ codes "ANALYZE" ∷ codes "AND" ∷ codes "AS" ∷ codes "ASC"
    ∷ codes "ASENSITIVE" ∷ codes "BEFORE" ∷ codes "BETWEEN" ∷ codes "BIGINT" ∷ codes "BINARY" ∷ codes "BLOB" ∷ codes "BOTH" ∷ codes "BY"
    ∷ codes "CALL" ∷ codes "CASCADE" ∷ codes "CASE" ∷ codes "CHANGE" ∷ codes "CHAR" ∷ codes "CHARACTER" ∷ codes "CHECK" ∷ codes "COLLATE"
    ∷ codes "COLUMN" ∷ codes "CONDITION" ∷ codes "CONSTRAINT" ∷ codes "CONTINUE" ∷ codes "CONVERT" ∷ codes "CREATE" ∷ codes "CROSS"
    ∷ codes "CUBE" ∷ codes "CUME_DIST" ∷ codes "CURRENT_DATE" ∷ codes "CURRENT_TIME" ∷ codes "CURRENT_TIMESTAMP" ∷ codes "CURRENT_USER"
    ∷ codes "CURSOR" ∷ codes "DATABASE" ∷ codes "DATABASES" ∷ codes "DAY_HOUR" ∷ codes "DAY_MICROSECOND" ∷ codes "DAY_MINUTE"
    ∷ codes "DAY_SECOND" ∷ codes "DEC" ∷ codes "DECIMAL" ∷ codes "DECLARE" ∷ codes "DEFAULT" ∷ codes "DELAYED" ∷ codes "DELETE"
    ∷ codes "DENSE_RANK" ∷ codes "DESC" ∷ codes "DESCRIBE" ∷ codes "DETERMINISTIC" ∷ codes "DISTINCT" ∷ codes "DISTINCTROW" ∷ codes "DIV"
    ∷ codes "DOUBLE" ∷ codes "DROP" ∷ codes "DUAL" ∷ codes "EACH" ∷ codes "ELSE" ∷ codes "ELSEIF" ∷ codes "EMPTY" ∷ codes "ENCLOSED"
    ∷ codes "ESCAPED" ∷ codes "EXCEPT" ∷ codes "EXISTS" ∷ codes "EXIT" ∷ codes "EXPLAIN" ∷ codes "FALSE" ∷ codes "FETCH" ∷ codes "FIRST_VALUE"
    ∷ codes "FLOAT" ∷ codes "FLOAT4" ∷ codes "FLOAT8" ∷ codes "FOR" ∷ codes "FORCE" ∷ codes "FOREIGN" ∷ codes "FROM" ∷ codes "FULLTEXT"
    ∷ codes "FUNCTION" ∷ codes "GENERATED" ∷ codes "GET" ∷ codes "GRANT" ∷ codes "GROUP" ∷ codes "GROUPING" ∷ codes "GROUPS" ∷ codes "HAVING"
    ∷ codes "HIGH_PRIORITY" ∷ codes "HOUR_MICROSECOND" ∷ codes "HOUR_MINUTE" ∷ codes "HOUR_SECOND" ∷ codes "IF" ∷ codes "IGNORE" ∷ codes "IN"
    ∷ codes "INDEX" ∷ codes "INFILE" ∷ codes "INNER" ∷ codes "INOUT" ∷ codes "INSENSITIVE" ∷ codes "INSERT" ∷ codes "INT" ∷ codes "INT1"
    ∷ codes "INT2" ∷ codes "INT3" ∷ codes "INT4" ∷ codes "INT8" ∷ codes "INTEGER" ∷ codes "INTERSECT" ∷ codes "INTERVAL" ∷ codes "INTO"
    ∷ codes "IO_AFTER_GTIDS" ∷ codes "IO_BEFORE_GTIDS" ∷ codes "IS" ∷ codes "ITERATE" ∷ codes "JOIN" ∷ codes "JSON_TABLE" ∷ codes "KEY"
    ∷ codes "KEYS" ∷ codes "KILL" ∷ codes "LAG" ∷ codes "LAST_VALUE" ∷ codes "LATERAL" ∷ codes "LEAD" ∷ codes "LEADING" ∷ codes "LEAVE"
    ∷ codes "LEFT" ∷ codes "LIKE" ∷ codes "LIMIT" ∷ codes "LINEAR" ∷ codes "LINES" ∷ codes "LOAD" ∷ codes "LOCALTIME" ∷ codes "LOCALTIMESTAMP"
    ∷ codes "LOCK" ∷ codes "LONG" ∷ codes "LONGBLOB" ∷ codes "LONGTEXT" ∷ codes "LOOP" ∷ codes "LOW_PRIORITY" ∷ codes "MASTER_BIND"
    ∷ codes "MASTER_SSL_VERIFY_SERVER_CERT" ∷ codes "MATCH" ∷ codes "MAXVALUE" ∷ codes "MEDIUMBLOB" ∷ codes "MEDIUMINT" ∷ codes "MEDIUMTEXT"
    ∷ codes "MIDDLEINT" ∷ codes "MINUTE_MICROSECOND" ∷ codes "MINUTE_SECOND" ∷ codes "MOD" ∷ codes "MODIFIES" ∷ codes "NATURAL" ∷ codes "NOT"
    ∷ codes "NO_WRITE_TO_BINLOG" ∷ codes "NTH_VALUE" ∷ codes "NTILE" ∷ codes "NULL" ∷ codes "NUMERIC" ∷ codes "OF" ∷ codes "ON"
    ∷ codes "OPTIMIZE" ∷ codes "OPTIMIZER_COSTS" ∷ codes "OPTION" ∷ codes "OPTIONALLY" ∷ codes "OR" ∷ codes "ORDER" ∷ codes "OUT"
    ∷ codes "OUTER" ∷ codes "OUTFILE" ∷ codes "OVER" ∷ codes "PARTITION" ∷ codes "PERCENT_RANK" ∷ codes "PRECISION" ∷ codes "PRIMARY"
    ∷ codes "PROCEDURE" ∷ codes "PURGE" ∷ codes "RANGE" ∷ codes "RANK" ∷ codes "READ" ∷ codes "READS" ∷ codes "READ_WRITE" ∷ codes "REAL"
    ∷ codes "RECURSIVE" ∷ codes "REFERENCES" ∷ codes "REGEXP" ∷ codes "RELEASE" ∷ codes "RENAME" ∷ codes "REPEAT" ∷ codes "REPLACE"
    ∷ codes "REQUIRE" ∷ codes "RESIGNAL" ∷ codes "RESTRICT" ∷ codes "RETURN" ∷ codes "REVOKE" ∷ codes "RIGHT" ∷ codes "RLIKE" ∷ codes "ROW"
    ∷ codes "ROWS" ∷ codes "ROW_NUMBER" ∷ codes "SCHEMA" ∷ codes "SCHEMAS" ∷ codes "SECOND_MICROSECOND" ∷ codes "SELECT" ∷ codes "SENSITIVE"
    ∷ codes "SEPARATOR" ∷ codes "SET" ∷ codes "SHOW" ∷ codes "SIGNAL" ∷ codes "SMALLINT" ∷ codes "SPATIAL" ∷ codes "SPECIFIC" ∷ codes "SQL"
    ∷ codes "SQLEXCEPTION" ∷ codes "SQLSTATE" ∷ codes "SQLWARNING" ∷ codes "SQL_BIG_RESULT" ∷ codes "SQL_CALC_FOUND_ROWS"
    ∷ codes "SQL_SMALL_RESULT" ∷ codes "SSL" ∷ codes "STARTING" ∷ codes "STORED" ∷ codes "STRAIGHT_JOIN" ∷ codes "SYSTEM" ∷ codes "TABLE"
    ∷ codes "TERMINATED" ∷ codes "THEN" ∷ codes "TINYBLOB" ∷ codes "TINYINT" ∷ codes "TINYTEXT" ∷ codes "TO" ∷ codes "TRAILING"
    ∷ codes "TRIGGER" ∷ codes "TRUE" ∷ codes "UNDO" ∷ codes "UNION" ∷ codes "UNIQUE" ∷ codes "UNLOCK" ∷ codes "UNSIGNED" ∷ codes "UPDATE"
    ∷ codes "USAGE" ∷ codes "USE" ∷ codes "USING" ∷ codes "UTC_DATE" ∷ codes "UTC_TIME" ∷ codes "UTC_TIMESTAMP" ∷ codes "VALUES"
    ∷ codes "VARBINARY" ∷ codes "VARCHAR" ∷ codes "VARCHARACTER" ∷ codes "VARYING" ∷ codes "VIRTUAL" ∷ codes "WHEN" ∷ codes "WHERE"
    ∷ codes "WHILE" ∷ codes "WINDOW" ∷ codes "WITH" ∷ codes "WRITE" ∷ codes "XOR" ∷ codes "YEAR_MONTH" ∷ codes "ZEROFILL" ∷ []

unfoldable pub is_reserved : List ℕ → Bool
is_reserved word = list_any (same_in_any_case word) reserved

-- what the alias of a table says
unfoldable pub alias_of : Lexeme → Option (List ℕ)
alias_of (bare key w) = if is_reserved w then None else Some w
alias_of (named w) = Some w
alias_of _ = None
