use Rattle.std.proofs.Common.{◌++◌, refl, ap, sym, subst, ◌∙◌, []}
use Rattle.mysql_packet.specs.Numbers.{little_endian, length_encoded_string}
use Rattle.statement_values.specs.Values.{Spells, number_of, half_of, width_of}
use Rattle.statement_values.specs.Values as b
use Rattle.statement_values.proofs.Spelled.{number_only}
use Rattle.statement_values.proofs.reading.read_value.Goals as goal

pub returns-in-Null-clause-found : goal.returns-in-Null-clause-found
returns-in-Null-clause-found c = ([], refl, rw c.in-Null.is b.null)

pub returns-in-Some-clause-found : goal.returns-in-Some-clause-found
returns-in-Some-clause-found c =
    (little_endian (width_of c.in-Number.width) c.in-Some.n, c.in-Some.ensures.found, rw (c.in-Number.is, c.number_of.ensures) (b.number c.in-Number.width c.in-Some.n c.in-Some.ensures.below))

pub returns-in-Some-clause-only : goal.returns-in-Some-clause-only
returns-in-Some-clause-only c = λ front rest v s e.
    let h = number_only c.in-Number.width c.in-Number.unsigned front v (subst (λ k. Spells k front v) c.in-Number.is s) in
    let o = c.in-Some.ensures.only h.0 rest h.1 (e ∙ ap (λ us. us ++ rest) h.2) in
    (rw (c.number_of.ensures, o.0) (sym h.3), o.1)

pub returns-in_ok-from_slice-in-Some-read_length_encoded_string-clause-found :
    goal.returns-in_ok-from_slice-in-Some-read_length_encoded_string-clause-found
returns-in_ok-from_slice-in-Some-read_length_encoded_string-clause-found c = (
  length_encoded_string c.in-Some-read_length_encoded_string.text.now,
  c.in-Some-read_length_encoded_string.ensures.found,
  rw (c.in-Text.is, c.in_ok-from_slice-in-Some-read_length_encoded_string.ensures) (b.text _),
)
