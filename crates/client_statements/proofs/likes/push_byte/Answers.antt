use Rattle.std.proofs.Common.{sym, ◌∙◌}
use Rattle.client_statements.proofs.Patterns.{left_out}
use Rattle.client_statements.proofs.likes.push_byte.Goals as goal

pub returns-else-not-is_left_out : goal.returns-else-not-is_left_out
returns-else-not-is_left_out c = left_out c.args.found.now.items c.args.byte c.args.rest.now (sym c.is_left_out.ensures ∙ c.if-not-is_left_out.false)
