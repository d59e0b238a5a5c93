use Rattle.std.proofs.Common.{◌∙◌, ap}
use Rattle.vschema.specs.inner.Mixes.{filter_mixes_at}
use Rattle.vschema.proofs.Mixes.{filter_same}
use Rattle.vschema.proofs.checks.filter_mixes.Goals as goal

pub returns : goal.returns
returns c =
    let s = c.args.scope.now in
    c.resolved_mixes.ensures ∙ ap (filter_mixes_at s) c.requires.resolved ∙ filter_same s c.args.filter.now
