use Rattle.std.proofs.Common.{ap, arith}
use Rattle.std.proofs.lemmas.Int.{ints}
use Rattle.vt_value.specs.declared.value.Value.TheVariants.{Int}
use Rattle.aggregate.specs.inner.CountLemmas.{count_is}
use Rattle.aggregate.proofs.counts.CountAggregate.finish.Goals as goal

pub returns-clause-means : goal.returns-clause-means
returns-clause-means c = λ values same. ap Int (omega (arith, ints, count_is values))
