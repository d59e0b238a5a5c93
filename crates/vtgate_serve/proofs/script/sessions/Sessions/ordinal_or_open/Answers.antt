use Rattle.std.proofs.Common.{◌∙◌, sym}
use Rattle.vtgate_serve.proofs.script.Places.{was_there, is_opened}
use Rattle.vtgate_serve.proofs.script.sessions.Sessions.ordinal_or_open.Goals as goal

pub returns-in-Some : goal.returns-in-Some
returns-in-Some g c = was_there c.args.self.now c.args.name.now c.in-Some.ordinal (sym c.ordinal_of.ensures ∙ c.in-Some.is)

pub returns : goal.returns
returns g c =
    is_opened c.args.self.now c.open.new.self c.args.name.now c.count-ordinal.result (sym c.ordinal_of.ensures ∙ c.in_default.is) c.count-ordinal.ensures
    c.in_ok-open.ensures
