use Rattle.std.proofs.Common.{sym, ap, ◌∙◌}
use Rattle.std.proofs.lemmas.Bool.{false≢true}
use Rattle.reshard_cutover.specs.Steps.{has_source}
use Rattle.reshard_cutover.proofs.steps.is_done_with.Goals as goal

pub returns-else-is_source_of : goal.returns-else-is_source_of
returns-else-is_source_of g c e own =
    absurd (false≢true (sym c.if-is_source_of.false ∙ c.is_source_of.ensures ∙ ap (has_source c.args.source.now.member.which.slot) c.shard.ensures.shard ∙ own))
