-- A comparison from its other side.
use Rattle.vt_value.specs.declared.value.Comparison.{Comparison}
use Rattle.vt_value.specs.declared.value.Comparison.TheVariants.{Eq, Ne, Lt, Le, Gt, Ge}

-- the operator that says the same of the two sides in turn
abbrev pub turned : Comparison → Comparison
turned Eq = Eq
turned Ne = Ne
turned Lt = Gt
turned Le = Ge
turned Gt = Lt
turned Ge = Le
