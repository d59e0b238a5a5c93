use Rattle.std.proofs.Common.{true≢false, ◌≡◌, sym, subst, ◌∙◌}
use Rattle.std.specs.Prelude.{OnOk}
use Rattle.hex.specs.Hex.{encode_lower}
use Rattle.std.proofs.lemmas.Slice.Eq.{bytes_eq-Decides}
use Rattle.vtgate_clients.proofs.setup.Digests.{no_digest, other_digest, are_bytes}
use Rattle.vtgate_clients.proofs.setup.serve_args.read_digest.Goals as goal

pub returns-in_default-clause-none : goal.returns-in_default-clause-none
returns-in_default-clause-none c =
    no_digest c.args.text.now c.decode_to_slice.result c.decode_to_slice.new.out c.decode_to_slice.ensures.value c.in_default.field-0 c.in_default.is

pub returns-else-eq-clause-none : goal.returns-else-eq-clause-none
returns-else-eq-clause-none c =
    let written = subst (λ r. OnOk r (c.encode_to_slice.new.output ≡ encode_lower c.decode_to_slice.new.out)) c.unwrap.ensures c.encode_to_slice.ensures.written in
    other_digest c.args.text.now c.decode_to_slice.result c.decode_to_slice.new.out c.decode_to_slice.ensures.value
    (λ same. true≢false (sym ((bytes_eq-Decides c.as_slice.result.now c.args.text.now).1 (c.as_slice.ensures ∙ written ∙ same)) ∙ sym c.if-eq.ensures))

pub returns-then-eq-clause-bytes : goal.returns-then-eq-clause-bytes
returns-then-eq-clause-bytes c = (
  are_bytes c.args.text.now c.decode_to_slice.result c.decode_to_slice.new.out c.decode_to_slice.ensures.value c.in-Ok.is,
  c.decode_to_slice.auto.out,
)
