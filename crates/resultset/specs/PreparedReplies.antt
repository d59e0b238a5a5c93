-- The packets that answer COM_STMT_PREPARE: the MySQL client/server protocol.
use Rattle.std.specs.Prelude.{ℕ, zero, suc, List, [], ◌∷◌, ◌++◌, length, map, codes, refl}
use Rattle.mysql_message.specs.Messages.{prepared_payload}
use Rattle.mysql_packet.specs.Frames.{frames_from}
use Rattle.resultset.specs.declared.Column.{Column}
use Rattle.resultset.specs.declared.Kind.TheVariants.{VarBinary}
use Rattle.resultset.specs.declared.SetEnd.{SetEnd}
use Rattle.resultset.specs.Encoding.{definition_payload, after_definitions}

-- definitions, and what comes after them if there are any
abbrev pub definitions : SetEnd → List Column → ℕ → List (List ℕ)
definitions end [] status = []
definitions end (c ∷ columns) status = map definition_payload (c ∷ columns) ++ after_definitions end status

-- the definition of a hole: a VAR_STRING named `?`, of no table
abbrev pub hole_column : Column
hole_column = record { schema = []; table = []; name = codes "?"; org_name = []; kind = VarBinary 0; flags = 128; allowed = refl }

abbrev pub hole_columns : ℕ → List Column
hole_columns zero = []
hole_columns (suc n) = hole_column ∷ hole_columns n

-- the statement's number with how many columns and holes it has; a definition for each hole, and for each column of its rows
abbrev pub prepare_payloads : SetEnd → ℕ → List Column → ℕ → ℕ → List (List ℕ)
prepare_payloads end statement columns holes status =
    prepared_payload statement (length columns) holes ∷ definitions end (hole_columns holes) status ++ definitions end columns status

abbrev pub prepare_encoded : SetEnd → ℕ → List Column → ℕ → ℕ → ℕ → List ℕ
prepare_encoded end statement columns holes number status = frames_from number (prepare_payloads end statement columns holes status)
