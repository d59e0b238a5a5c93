use Rattle.std.proofs.Common.{rules}
use Rattle.reshard_create.proofs.Rising.{sorted_by_begins, ranges_rise}
use Rattle.reshard_create.proofs.new_workflow.by_begin.Goals as goal

pub returns-clause-rise : goal.returns-clause-rise
returns-clause-rise g c =
    ranges_rise (λ s. s.member.which.place.range) _
    (sorted_by_begins (λ s. s.member.which.place.range) _ c.sort_unstable_by.ensures.sorted (λ a r q k. search rules))
