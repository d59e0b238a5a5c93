-- What a kept entry changes: one row mostly.
use Rattle.std.specs.Prelude.{List, [], ◌∷◌}
use Rattle.vschema.specs.declared.changes.RowChange.{RowChange}
use Rattle.shard_contents.specs.declared.kept_entry.Changes.{Changes}
use Rattle.shard_contents.specs.declared.kept_entry.Changes.TheVariants.{One, Many}

abbrev pub changes_in : Changes → List RowChange
changes_in (One change) = change ∷ []
changes_in (Many list) = list.items
