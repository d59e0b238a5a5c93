-- The values of a key as they are kept.
use Rattle.std.specs.Prelude.{List, [], ◌∷◌}
use Rattle.vt_value.specs.declared.value.Value.{Value}
use Rattle.vt_value.specs.declared.value.Value.TheVariants.{Int}
use Rattle.shard_store.specs.declared.key_values.Listing.{Listing}
use Rattle.shard_store.specs.declared.key_values.Listing.TheVariants.{Number, Values}

-- one number, or the values one after the other
abbrev pub listed : Listing → List Value
listed (Number n) = Int n ∷ []
listed (Values values) = values
