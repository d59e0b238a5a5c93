-- The keyspace id of a value, kept with it.
use Rattle.std.specs.Prelude.{◌≡◌, ℕ, true, List, Option, Some, None}
use Rattle.std.specs.Option.{ForSome}
use Rattle.vt_value.specs.declared.value.Value.{Value}
use Rattle.vindex.specs.declared.AnyVindex.{AnyVindex}
use Rattle.vindex.specs.KeyspaceIds.{keyspace_id, is_key}
use Rattle.planner.specs.declared.members.KnownId.{KnownId}
use Rattle.planner.specs.declared.members.KnownId.TheVariants.{Eight, Sixteen, Unknown}

abbrev pub known_bytes : KnownId → Option (List ℕ)
known_bytes (Eight bytes) = Some bytes
known_bytes (Sixteen bytes) = Some bytes
known_bytes Unknown = None

-- if there is one, it is the value's id by this vindex
abbrev pub IsIdOf : AnyVindex → Value → KnownId → Type 0
IsIdOf x v id = ForSome (known_bytes id) (λ bytes. (is_key x v ≡ true) × (keyspace_id x v ≡ bytes))
