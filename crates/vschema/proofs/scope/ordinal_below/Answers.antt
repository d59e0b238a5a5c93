use Rattle.std.specs.Prelude.{bytes_eq}
use Rattle.vschema.proofs.ScopeOrdinals.{found_below}
use Rattle.vschema.proofs.scope.ordinal_below.Goals as goal

pub returns-clause-below : goal.returns-clause-below
returns-clause-below c = found_below (λ k. bytes_eq k.name c.args.name.now) c.args.table.now.columns c.column_ordinal.result c.column_ordinal.ensures
