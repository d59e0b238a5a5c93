use Rattle.std.proofs.Common.{◌∙◌}
use Rattle.resultset.specs.Encoding.{fixed_fields}
use Rattle.resultset.proofs.Definitions.{same_column}
use Rattle.resultset.proofs.columns.column.Goals as goal

pub returns : goal.returns
returns c = λ k long e.
    let names = c.in_ok-names.ensures k (fixed_fields k.kind k.flags) e in
    let kind = c.in_ok-kind.ensures.again k.kind k.flags long k.allowed names.4 in
    same_column _ k (c.in_ok-owned.ensures ∙ names.0) (c.in_ok-owned-2.ensures ∙ names.1) (c.in_ok-owned-3.ensures ∙ names.2) (c.in_ok-owned-4.ensures ∙ names.3) kind.0 kind.1
