use Rattle.std.proofs.Common.{◌≡◌, ℕ, ◌==◌, drop, nat_cmp}
use Rattle.std.specs.BTreeMap.{get}
use Rattle.vschema.specs.Schema.{ordinal_from}
use Rattle.vschema.proofs.first_ordinals.FirstOrdinals.of.Given as goal

-- where a number stands first from this place on
abbrev pub invariant-loop-i : goal.invariant-loop-i
invariant-loop-i l = (n : ℕ) → get nat_cmp l.by_number n ≡ ordinal_from (λ m. m == n) l.i (drop l.i l.numbers)
