use Rattle.program_log.proofs.lines.Tellings.{known_spans}
use Rattle.program_log.proofs.lines.draft.Draft.add_spans.Goals as goal

pub returns-in-Ok : goal.returns-in-Ok
returns-in-Ok g c = known_spans (g.S.Spans.scopes c.args.spans.now) c.args.self.now c.visit.new.visitor c.in-Ok.ensures
