use Rattle.std.proofs.Common.{ap, ◌∙◌, unwrap_or}
use Rattle.vt_value.specs.declared.value.Value.TheVariants.{Null}
use Rattle.aggregate.specs.inner.ExtremeLemmas.{max_is}
use Rattle.aggregate.proofs.extremes.MaxAggregate.finish.Goals as goal

pub returns-clause-means : goal.returns-clause-means
returns-clause-means c = λ values same. c.unwrap_or.ensures ∙ ap (λ p. unwrap_or p Null) same ∙ max_is values
