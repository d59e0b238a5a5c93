use Rattle.std.proofs.Common.{ℕ, List, bytes_eq, ◌∙◌}
use Rattle.vschema_json.specs.Places.{ordinal_from}
use Rattle.vschema_json.proofs.name_ordinals.NameOrdinals.ordinal_of.Goals as goal

pub returns : goal.returns
returns c =
    c.copied.ensures ∙ c.get.ensures.value ∙ c.self.invariant c.as_slice.result
    ∙ (λ i. ordinal_from (λ (n : List ℕ). bytes_eq n (c.as_slice.ensures i)) 0 (c.self.view_is i))
