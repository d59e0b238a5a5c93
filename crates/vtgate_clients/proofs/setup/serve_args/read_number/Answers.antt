use Rattle.std.proofs.Common.{true≢false, sym, ◌∙◌}
use Rattle.std.proofs.lemmas.Slice.Eq.{bytes_eq-Decides}
use Rattle.vtgate_clients.proofs.setup.Numbers.{no_number, other_number}
use Rattle.vtgate_clients.proofs.setup.serve_args.read_number.Goals as goal

pub returns-in_default-clause-none : goal.returns-in_default-clause-none
returns-in_default-clause-none c = no_number c.args.text.now c.in_default.field-0 c.parse.result c.parse.ensures.value.0 c.in_default.is

pub returns-else-eq-clause-none : goal.returns-else-eq-clause-none
returns-else-eq-clause-none c =
    other_number c.args.text.now c.in-Ok.number c.parse.result c.parse.ensures.value.0 c.in-Ok.is
    (λ same. true≢false (sym ((bytes_eq-Decides c.as_bytes.result.now c.as_bytes-2.result.now).1 (c.as_bytes.ensures.value ∙ c.format.ensures.text ∙ same ∙ sym c.as_bytes-2.ensures.value)) ∙ sym c.if-eq.ensures))
