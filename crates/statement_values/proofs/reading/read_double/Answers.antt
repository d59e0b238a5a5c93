use Rattle.std.proofs.Common.{◌≡◌, ◌++◌, ◌<◌, ◌^◌, ℕ, ℤ, List, refl, ap, sym, subst, ◌∙◌, arith, rules, FitsSigned}
use Rattle.std.specs.Int.{w128}
use Rattle.std.proofs.lemmas.Int.{to_z-of_z}
use Rattle.vt_value.specs.declared.value.Value.TheVariants.{Int}
use Rattle.mysql_packet.specs.Numbers.{little_endian}
use Rattle.statement_values.specs.Floats.{IsDouble, IsInRange}
use Rattle.statement_values.specs.declared.ParameterType.TheVariants as p
use Rattle.statement_values.specs.Values.{Spells}
use Rattle.statement_values.specs.Values as b
use Rattle.statement_values.proofs.Spelled.{double_spelled, double_other}
use Rattle.statement_values.proofs.Wholes.{double_same}
use Rattle.statement_values.proofs.reading.read_double.Goals as goal

pub returns-in-Some-whole_double-clause-found : goal.returns-in-Some-whole_double-clause-found
returns-in-Some-whole_double-clause-found c =
    let fits : FitsSigned w128 c.in-Some-whole_double.n = search rules in
    let small : c.in-Some.bits < 2 ^ 64 = omega (arith, c.in-Some.ensures.below) in (
      little_endian 8 c.in-Some.bits,
      c.in-Some.ensures.found,
      subst (λ (z : ℤ). Spells p.Double (little_endian 8 c.in-Some.bits) (Int z)) (sym (to_z-of_z w128 c.in-Some-whole_double.n fits))
          (b.double {bits = c.in-Some.bits} {z = c.in-Some-whole_double.n} small c.in-Some-whole_double.ensures.found.0 c.in-Some-whole_double.ensures.found.1),
    )

pub returns-in-Some-whole_double-clause-only : goal.returns-in-Some-whole_double-clause-only
returns-in-Some-whole_double-clause-only c = λ front rest v s e.
    let fits : FitsSigned w128 c.in-Some-whole_double.n = search rules in
    let h = double_spelled front v s in
    let o = c.in-Some.ensures.only h.0 rest (omega (arith, h.2)) (e ∙ ap (λ (us : List ℕ). us ++ rest) h.5) in
    let same : c.in-Some-whole_double.n ≡ h.1 =
    double_same c.in-Some.bits c.in-Some-whole_double.n h.1 c.in-Some-whole_double.ensures.found.0 (subst (λ (n : ℕ). IsDouble n h.1) (sym o.0) h.3) in
    (ap Int (to_z-of_z w128 c.in-Some-whole_double.n fits ∙ same) ∙ sym h.6, o.1)

pub returns-in-Some-whole_double-clause-refused : goal.returns-in-Some-whole_double-clause-refused
returns-in-Some-whole_double-clause-refused c = λ front rest s e.
    let h = double_other front s in
    let o = c.in-Some.ensures.only h.0 rest (omega (arith, h.1)) (e ∙ ap (λ (us : List ℕ). us ++ rest) h.3) in
    absurd (h.2 c.in-Some-whole_double.n (subst (λ (n : ℕ). IsDouble n c.in-Some-whole_double.n) o.0 c.in-Some-whole_double.ensures.found.0) c.in-Some-whole_double.ensures.found.1)

pub returns-in-None-whole_double-clause-only : goal.returns-in-None-whole_double-clause-only
returns-in-None-whole_double-clause-only c = λ front rest v s e.
    let h = double_spelled front v s in
    let o = c.in-Some.ensures.only h.0 rest (omega (arith, h.2)) (e ∙ ap (λ (us : List ℕ). us ++ rest) h.5) in
    c.whole_double.ensures.none c.in-None-whole_double.is h.1 (subst (λ (n : ℕ). IsDouble n h.1) (sym o.0) h.3) h.4

pub returns-in-None-whole_double-clause-other : goal.returns-in-None-whole_double-clause-other
returns-in-None-whole_double-clause-other c = λ is. (
  little_endian 8 c.in-Some.bits,
  c.in-Some.rest.now,
  c.in-Some.ensures.found,
  b.other_double (omega (arith, c.in-Some.ensures.below)) (c.whole_double.ensures.none c.in-None-whole_double.is),
)

pub returns-in-None-clause-refused : goal.returns-in-None-clause-refused
returns-in-None-clause-refused c = λ front rest s e.
    let h = double_other front s in
    absurd (c.in-None.ensures.only h.0 rest (omega (arith, h.1)) (e ∙ ap (λ (us : List ℕ). us ++ rest) h.3))

pub returns-in-None-clause-only : goal.returns-in-None-clause-only
returns-in-None-clause-only c = λ front rest v s e.
    let h = double_spelled front v s in
    c.in-None.ensures.only h.0 rest (omega (arith, h.2)) (e ∙ ap (λ (us : List ℕ). us ++ rest) h.5)
