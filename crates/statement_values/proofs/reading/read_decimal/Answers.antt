use Rattle.std.proofs.Common.{◌≡◌, ◌++◌, ℕ, ℤ, List, refl, ap, sym, subst, ◌∙◌, FitsSigned}
use Rattle.std.specs.Int.{w128}
use Rattle.std.proofs.lemmas.Int.{to_z-of_z}
use Rattle.vt_value.specs.declared.value.Value.TheVariants.{Int}
use Rattle.mysql_packet.specs.Numbers.{length_encoded_string}
use Rattle.statement_values.specs.Decimals.{IsDecimal}
use Rattle.statement_values.specs.declared.ParameterType.TheVariants as p
use Rattle.statement_values.specs.Values.{Spells}
use Rattle.statement_values.specs.Values as b
use Rattle.statement_values.proofs.Points.{range_fits}
use Rattle.statement_values.proofs.Spelled.{decimal_spelled, decimal_other}
use Rattle.statement_values.proofs.reading.read_decimal.Goals as goal

pub returns-in-Some-whole_decimal-clause-found : goal.returns-in-Some-whole_decimal-clause-found
returns-in-Some-whole_decimal-clause-found c =
    let fits : FitsSigned w128 c.in-Some-whole_decimal.n = range_fits c.in-Some-whole_decimal.n c.in-Some-whole_decimal.ensures.found.1 in (
      length_encoded_string c.in-Some.text.now,
      c.in-Some.ensures.found,
      subst (λ (z : ℤ). Spells p.Decimal (length_encoded_string c.in-Some.text.now) (Int z)) (sym (to_z-of_z w128 c.in-Some-whole_decimal.n fits))
          (b.decimal c.in-Some-whole_decimal.ensures.found.0 c.in-Some-whole_decimal.ensures.found.1),
    )

pub returns-in-Some-whole_decimal-clause-only : goal.returns-in-Some-whole_decimal-clause-only
returns-in-Some-whole_decimal-clause-only c = λ front rest v s e.
    let fits : FitsSigned w128 c.in-Some-whole_decimal.n = range_fits c.in-Some-whole_decimal.n c.in-Some-whole_decimal.ensures.found.1 in
    let h = decimal_spelled front v s in
    let o = c.in-Some.ensures.only h.0 rest (e ∙ ap (λ (us : List ℕ). us ++ rest) h.4) in
    let there : IsDecimal c.in-Some.text.now h.1 = subst (λ (t : List ℕ). IsDecimal t h.1) (sym o.0) h.2 in
    let same : c.in-Some-whole_decimal.n ≡ h.1 = c.in-Some-whole_decimal.ensures.found.0.value ∙ sym there.value in
    (ap Int (to_z-of_z w128 c.in-Some-whole_decimal.n fits ∙ same) ∙ sym h.5, o.1)

pub returns-in-Some-whole_decimal-clause-refused : goal.returns-in-Some-whole_decimal-clause-refused
returns-in-Some-whole_decimal-clause-refused c = λ front rest s e.
    let h = decimal_other front s in
    let o = c.in-Some.ensures.only h.0 rest (e ∙ ap (λ (us : List ℕ). us ++ rest) h.2) in
    absurd (h.1 c.in-Some-whole_decimal.n (subst (λ (t : List ℕ). IsDecimal t c.in-Some-whole_decimal.n) o.0 c.in-Some-whole_decimal.ensures.found.0)
    c.in-Some-whole_decimal.ensures.found.1)

pub returns-in-None-whole_decimal-clause-only : goal.returns-in-None-whole_decimal-clause-only
returns-in-None-whole_decimal-clause-only c = λ front rest v s e.
    let h = decimal_spelled front v s in
    let o = c.in-Some.ensures.only h.0 rest (e ∙ ap (λ (us : List ℕ). us ++ rest) h.4) in
    c.whole_decimal.ensures.none c.in-None-whole_decimal.is h.1 (subst (λ (t : List ℕ). IsDecimal t h.1) (sym o.0) h.2) h.3

pub returns-in-None-whole_decimal-clause-other : goal.returns-in-None-whole_decimal-clause-other
returns-in-None-whole_decimal-clause-other c = λ is. (
  length_encoded_string c.in-Some.text.now,
  c.in-Some.rest.now,
  c.in-Some.ensures.found,
  b.other_decimal (c.whole_decimal.ensures.none c.in-None-whole_decimal.is),
)

pub returns-in-None-clause-refused : goal.returns-in-None-clause-refused
returns-in-None-clause-refused c = λ front rest s e.
    let h = decimal_other front s in
    absurd (c.in-None.ensures.only h.0 rest (e ∙ ap (λ (us : List ℕ). us ++ rest) h.2))

pub returns-in-None-clause-only : goal.returns-in-None-clause-only
returns-in-None-clause-only c = λ front rest v s e.
    let h = decimal_spelled front v s in
    c.in-None.ensures.only h.0 rest (e ∙ ap (λ (us : List ℕ). us ++ rest) h.4)
