-- What one packet of a result set carries.
use Rattle.std.specs.Prelude.{ℕ, ◌<◌, List, ◌∷◌, ◌++◌, length}
use Rattle.mysql_packet.specs.Numbers.{length_encoded_string}
use Rattle.resultset.specs.declared.Column.{Column}
use Rattle.resultset.specs.Encoding.{row_payload, definition_payload}
use Rattle.resultset.specs.BinaryRows.{binary_row_payload}
use Rattle.resultset.specs.declared.parts.Part.{Part}
use Rattle.resultset.specs.declared.parts.Part.TheVariants.{Definition, Row, BinaryRow}

abbrev pub part_payload : Part → List ℕ
part_payload (Definition column) = definition_payload column.now
part_payload (Row row) = row_payload row.now
part_payload (BinaryRow kinds row) = binary_row_payload kinds.now row.now

-- the length of each name takes one byte
abbrev pub HasShortNames : Column → Type 0
HasShortNames c = (length c.schema < 251) × (length c.table < 251) × (length c.name < 251) × (length c.org_name < 251)

-- the names of a definition after its catalog
abbrev pub names_payload : Column → List ℕ
names_payload c =
    length_encoded_string c.schema ++ length_encoded_string c.table ++ length_encoded_string c.table
    ++ length_encoded_string c.name ++ length_encoded_string c.org_name

-- a packet that says that its payload is empty
abbrev pub open_packet : ℕ → List ℕ → List ℕ
open_packet number payload = 0 ∷ 0 ∷ 0 ∷ number ∷ payload
