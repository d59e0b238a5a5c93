-- Where numbers stand first in a list.
use Rattle.std.specs.Prelude.{ℕ, Option}
use Rattle.std.specs.Ordering.{nat_cmp}
use Rattle.std.specs.BTreeMap.{get}
use Rattle.vschema.specs.declared.first_ordinals.FirstOrdinals.{FirstOrdinals}

-- where a number stands first, if it is there
abbrev pub first_ordinal : FirstOrdinals → ℕ → Option ℕ
first_ordinal ordinals n = get nat_cmp ordinals.by_number n
