use Rattle.std.proofs.Common.{◌≡◌, None, ap, sym, subst, ◌∙◌}
use Rattle.std.specs.Prelude.{IsTrue}
use Rattle.serde_json.specs.View.{view}
use Rattle.vschema.specs.Formed.{is_formed}
use Rattle.vschema_json.specs.Faults.{first_fault}
use Rattle.vschema.specs.Meant.{meant}
use Rattle.vschema_json.proofs.Formats.{document_good}
use Rattle.vschema.proofs.Lawful.{meant_is_formed}
use Rattle.vschema.proofs.schema.VSchema.read.Goals as goal

pub meant-requires-clause-formed : goal.meant-requires-clause-formed
meant-requires-clause-formed c =
    let ks = c.in_ok-declared.declared in
    let none : first_fault ks ≡ None = ap first_fault (sym c.as_slice.ensures) ∙ sym c.in_ok-fault.ensures ∙ c.in-None.is in
    let lawful = meant_is_formed ks (document_good (view c.in_ok-value.value) ks c.in_ok-declared.ensures.ok) c.in_ok-declared.ensures.distinct none in
    subst (λ ks. IsTrue (is_formed (meant ks).keyspaces (meant ks).tables)) (sym c.as_slice-in-None.ensures) lawful
