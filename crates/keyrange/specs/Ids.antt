-- Keyspace ids: byte strings, ordered byte by byte, a proper prefix before the longer one.
use Rattle.std.specs.Prelude.{ℕ, Bool, true, false, nat_lt, IsTrue, List}
use Rattle.std.specs.Ordering.{nat_cmp}
use Rattle.std.specs.Cmp.Lexicographic.{slice_cmp}
use Rattle.std.specs.List.{list_all}
use Rattle.std.specs.declared.cmp.Ordering.{Ordering}
use Rattle.std.specs.declared.cmp.Ordering.TheVariants.{Less, Equal, Greater}

abbrev pub is_less : Ordering → Bool
is_less Less = true
is_less Equal = false
is_less Greater = false

abbrev pub is_before : List ℕ → List ℕ → Bool
is_before a b = is_less (slice_cmp nat_cmp a b)

abbrev pub IsByteString : List ℕ → Type 0
IsByteString id = IsTrue (list_all (λ b. nat_lt b 256) id)
