-- Items that show a column that isn't there.
use Rattle.std.specs.Prelude.{ℕ, Bool, false, is_none}
use Rattle.sql_tree.specs.declared.Item.{Item}
use Rattle.sql_tree.specs.declared.Item.TheVariants.{Column}
use Rattle.vschema.specs.declared.first_ordinals.FirstOrdinals.{FirstOrdinals}
use Rattle.vschema.specs.FirstOrdinals.{first_ordinal}

-- an item that shows a column that isn't there
abbrev pub shows_other : FirstOrdinals → Item ℕ → Bool
shows_other ordinals (Column n) = is_none (first_ordinal ordinals n)
shows_other ordinals _ = false
