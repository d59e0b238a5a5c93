use Rattle.program_log.proofs.lines.Tellings.{known_pairs}
use Rattle.program_log.proofs.lines.draft.Draft.add_pairs.Goals as goal

pub returns-in-Ok : goal.returns-in-Ok
returns-in-Ok g c = known_pairs (g.K.Source.pairs c.args.pairs.now) c.args.self.now c.visit.new.visitor c.in-Ok.ensures
