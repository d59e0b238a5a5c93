-- The columns by whose values a table's rows are stored.
use Rattle.std.specs.Prelude.{ℕ, Bool, true, not, List, [], ◌∷◌, ◌++◌, filter, Option, Some, None}
use Rattle.sql_eval.specs.Table.{Table}
use Rattle.sql_eval.specs.ColumnVindex.{ColumnVindex}
use Rattle.sql_eval.specs.Checks.{has_number}

-- the ordinal of the vindex column, in a table that has one
abbrev pub vindex_ordinals : Option ColumnVindex → List ℕ
vindex_ordinals None = []
vindex_ordinals (Some v) = v.column ∷ []

-- the vindex column first, and then the others of the primary key
abbrev pub key_ordinals : Table → List ℕ
key_ordinals t = vindex_ordinals t.vindex ++ filter (λ n. not (has_number (vindex_ordinals t.vindex) n)) t.primary_key

-- the vindex column is one of the primary key's, as in each table of a well-formed VSchema
abbrev pub right_by : Option ColumnVindex → List ℕ → Bool
right_by None ns = true
right_by (Some v) ns = has_number ns v.column

abbrev pub is_vindex_in_key : Table → Bool
is_vindex_in_key t = right_by t.vindex t.primary_key
