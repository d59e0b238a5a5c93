use Rattle.std.proofs.Common.{None, ap, sym, ◌∙◌}
use Rattle.vschema.specs.Scopes.{Scope}
use Rattle.vschema.specs.TypedStatement.{checked, checked_with}
use Rattle.vschema.proofs.resolve.sources_with.Goals as goal

pub returns-in-None-clause-some : goal.returns-in-None-clause-some
returns-in-None-clause-some c =
    ap (checked_with c.args.schema.now c.args.select.now c.args.ordinal c.args.table.now) c.in-None.is
    ∙ ap (λ (s : Scope). checked c.args.ordinal None s c.args.select.now) (sym c.of.ensures)
