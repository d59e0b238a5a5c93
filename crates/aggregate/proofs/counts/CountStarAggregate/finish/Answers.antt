use Rattle.std.proofs.Common.{ap, arith}
use Rattle.std.proofs.lemmas.Int.{ints}
use Rattle.vt_value.specs.declared.value.Value.TheVariants.{Int}
use Rattle.aggregate.specs.inner.CountLemmas.{rows_are}
use Rattle.aggregate.proofs.counts.CountStarAggregate.finish.Goals as goal

pub returns-clause-means : goal.returns-clause-means
returns-clause-means c = λ values same. ap Int (omega (arith, ints, rows_are values))
