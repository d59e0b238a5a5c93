use Rattle.std.proofs.Common.{is_some, ap, ◌∙◌}
use Rattle.vschema_json.proofs.Named.{placed_any}
use Rattle.vschema_json.proofs.name_ordinals.NameOrdinals.has.Goals as goal

pub returns : goal.returns
returns c = c.is_some.ensures ∙ ap is_some c.ordinal_of.ensures ∙ placed_any c.args.name.now c.args.self.now
