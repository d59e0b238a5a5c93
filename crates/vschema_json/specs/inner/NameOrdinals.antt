-- Where a text stands first, as a map keeps it.
use Rattle.std.specs.Prelude.{ℕ, List, Option}
use Rattle.std.specs.Ordering.{nat_cmp}
use Rattle.std.specs.Cmp.Lexicographic.{slice_cmp}
use Rattle.std.specs.BTreeMap.{BTreeMap, get}
use denote.Ref.{Bor}

abbrev pub first_in : BTreeMap (Bor (List ℕ)) ℕ → Bor (List ℕ) → Option ℕ
first_in ordinals q = get (λ x y. slice_cmp nat_cmp x.now y.now) ordinals q
