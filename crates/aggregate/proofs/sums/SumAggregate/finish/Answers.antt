use Rattle.std.proofs.Common.{ap, sym, ◌∙◌, rules, FitsSigned}
use Rattle.std.specs.Int.{w128}
use Rattle.std.proofs.lemmas.Int.{to_z-of_z}
use Rattle.vt_value.specs.declared.value.Value.TheVariants.{Int}
use Rattle.aggregate.specs.Parts.{part_value}
use Rattle.aggregate.specs.inner.SumLemmas.{sum_is}
use Rattle.aggregate.proofs.sums.SumAggregate.finish.Goals as goal

pub returns-in-Some-clause-means : goal.returns-in-Some-clause-means
returns-in-Some-clause-means c = λ values same.
    let fits : FitsSigned w128 c.in-Some.sum = search rules in
    ap Int (to_z-of_z w128 c.in-Some.sum fits) ∙ ap part_value (sym c.in-Some.is ∙ same) ∙ sum_is values

pub returns-in-None-clause-means : goal.returns-in-None-clause-means
returns-in-None-clause-means c = λ values same. ap part_value (sym c.in-None.is ∙ same) ∙ sum_is values
