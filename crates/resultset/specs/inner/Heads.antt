-- What comes before the rows of a result set.
use Rattle.std.specs.Prelude.{ℕ, List, ◌∷◌, ◌++◌, length, map}
use Rattle.mysql_packet.specs.Numbers.{length_encoded}
use Rattle.resultset.specs.declared.Column.{Column}
use Rattle.resultset.specs.declared.SetEnd.{SetEnd}
use Rattle.resultset.specs.Encoding.{definition_payload, after_definitions}

-- the number of columns, each definition and what comes after them
abbrev pub head_payloads : SetEnd → List Column → ℕ → List (List ℕ)
head_payloads end columns status = (length_encoded (length columns) ∷ map definition_payload columns) ++ after_definitions end status
