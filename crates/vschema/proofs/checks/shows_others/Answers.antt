use Rattle.std.proofs.Common.{◌∙◌}
use Rattle.vschema.proofs.FirstOrdinalsLemmas.{others}
use Rattle.vschema.proofs.checks.shows_others.Goals as goal

pub returns : goal.returns
returns c = c.has_ungrouped.ensures ∙ others c.in_ok-grouped.grouped c.args.group_by.now c.in_ok-grouped.ensures c.args.items.now c.args.order_by.now
