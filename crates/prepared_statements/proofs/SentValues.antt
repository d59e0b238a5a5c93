-- What a client sends for holes are literals.
use Rattle.std.proofs.Common.{◌≡◌, ℕ, ℤ, suc, ◌+◌, ◌-◌, ◌<◌, ◌≤◌, ◌^◌, Bool, true, false, List, [], ◌∷◌, ◌++◌, Option, refl, pos, negsuc, arith}
use Rattle.std.specs.Prelude.{nat_lt}
use Rattle.std.specs.List.{AllByRecursion}
use Rattle.std.proofs.lemmas.Bool.{ltb-true, ltb-false}
use Rattle.sql_lexer.specs.Value.{Value}
use Rattle.sql_lexer.specs.Value.TheVariants.{Int}
use Rattle.statement_values.specs.declared.ParameterType.{ParameterType}
use Rattle.statement_values.specs.declared.Width.{Width}
use Rattle.statement_values.specs.declared.Width.TheVariants as w
use Rattle.statement_values.specs.Floats.{IsInRange}
use Rattle.statement_values.specs.Values.{Spells, number_of, signed_of, half_of}
use Rattle.statement_values.specs.Values as v
use Rattle.statement_values.specs.Executions.{has_bit, BindsHole, Binds, Parts, Executes}
use Rattle.statement_values.specs.Executions as e
use Rattle.prepared_statements.specs.Tokens.{IsLiteral}

half_small : (width : Width) → half_of width ≤ 2 ^ 63
half_small w.One = omega arith
half_small w.Two = omega arith
half_small w.Four = omega arith
half_small w.Eight = omega arith

signed_fits : (half n : ℕ) → half ≤ 2 ^ 63 → n < half + half → IsLiteral (Int (signed_of half n))
signed_fits half n small lt = go (nat_lt n half) refl
  where
    go : (b : Bool) → nat_lt n half ≡ b → IsLiteral (Int (signed_of half n))
    go true is = rw is (omega (arith, small, ltb-true n half is))
    go false is = rw is (omega (arith, small, lt, ltb-false n half is))

number_fits : (unsigned : Bool) (width : Width) (n : ℕ) → n < half_of width + half_of width → IsLiteral (number_of unsigned (half_of width) n)
number_fits true width n lt = omega (arith, half_small width, lt)
number_fits false width n lt = signed_fits (half_of width) n (half_small width) lt

range_fits : (z : ℤ) → IsInRange z → IsLiteral (Int z)
range_fits (pos n) h = h
range_fits (negsuc n) h = h

spelled_fits : (t : ParameterType) (bytes : List ℕ) (value : Value) → Spells t bytes value → IsLiteral value
spelled_fits _ _ _ v.null = tt
spelled_fits _ _ _ (v.number {unsigned = unsigned} width n lt) = number_fits unsigned width n lt
spelled_fits _ _ _ (v.single {z = z} lt is range) = range_fits z range
spelled_fits _ _ _ (v.double {z = z} lt is range) = range_fits z range
spelled_fits _ _ _ (v.decimal {z = z} is range) = range_fits z range
spelled_fits _ _ _ (v.text bytes) = tt

hole_fits : (is_null : Bool) (long : Option (List ℕ)) (t : ParameterType) (bytes : List ℕ) (value : Value) → BindsHole is_null long t bytes value → IsLiteral value
hole_fits _ _ _ _ _ e.null = tt
hole_fits _ _ _ _ _ e.long = tt
hole_fits _ _ t bytes value (e.sent s) = spelled_fits t bytes value s

bound_fit : (bitmap : List ℕ) (n : ℕ) (long : List (Option (List ℕ))) (types : List ParameterType) (bytes : List ℕ) (values : List Value)
    → Binds bitmap n long types bytes values → AllByRecursion IsLiteral values
bound_fit bitmap _ _ _ _ _ e.end = tt
bound_fit bitmap _ _ _ _ _ (e.next {n = n} {sent = sent} {long = long} {t = t} {types = types} {front = front} {rest = rest} {v = value} {values = values} hole others) =
    (hole_fits (has_bit bitmap n) sent t front value hole, bound_fit bitmap (n + 1) long types rest values others)

pub sent_fit : (kept : List ParameterType) (long : List (Option (List ℕ))) (bytes : List ℕ) (types : List ParameterType) (values : List Value)
    → Executes kept long bytes types values → AllByRecursion IsLiteral values
sent_fit kept long _ _ _ (e.without none) = tt
sent_fit kept long _ types values (e.with_values p) = bound_fit p.bitmap 0 long types p.rest values p.bind
