use Rattle.std.proofs.Common.{◌∙◌, ap, sym}
use Rattle.std.specs.List.{list_any}
use Rattle.vt_value.specs.declared.value.Value.{Value}
use Rattle.keyrange.specs.Ranges.{has_id}
use Rattle.vschema.proofs.VschemaJsonLists.{list_any_map}
use Rattle.planner.specs.declared.members.InValue.{InValue}
use Rattle.planner.specs.Routes.{id_of}
use Rattle.planner.proofs.taking.has_one_among.Goals as goal

pub returns : goal.returns
returns c =
    let lies = λ (v : Value). has_id c.args.range.now (id_of c.args.table.now v) in
    let value = λ (m : InValue). m.value in
    c.has_one_of.ensures ∙ sym (list_any_map lies value c.as_slice.result.now) ∙ ap (list_any lies) c.as_slice.ensures
