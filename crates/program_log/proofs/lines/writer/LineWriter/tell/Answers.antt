use Rattle.std.proofs.Common.{refl, ap}
use Rattle.program_log.proofs.lines.Writings.{both, lost_after}
use Rattle.program_log.proofs.lines.writer.LineWriter.tell.Goals as goal

pub returns-then-put-clause-reported : goal.returns-then-put-clause-reported
returns-then-put-clause-reported g c = λ none some.
    let r = c.if-not-report.ensures.told refl some in (
      r.0,
      r.1,
      both c.args.self.now.is_torn (g.W.Write.contents c.args.self.now.device) (g.W.Write.contents c.report.new.self.device) (g.W.Write.contents c.put.new.self.device)
          r.0 c.args.line.now r.3 (rw r.2 at (c.if-put.ensures.whole refl).1),
    )

pub returns-else-put-clause-untold : goal.returns-else-put-clause-untold
returns-else-put-clause-untold g c = λ some.
    let p = c.if-put.ensures.part refl in
    lost_after c.args.lost c.args.self.now.is_torn c.report.new.self.is_torn c.put.new.self.is_torn c.args.instant c.args.line.now
    (g.W.Write.contents c.args.self.now.device) (g.W.Write.contents c.report.new.self.device) (g.W.Write.contents c.put.new.self.device)
    (λ none. let same = (c.if-not-report.ensures.none none).1 in (ap (λ w. w.is_torn) same, ap (λ w. g.W.Write.contents w.device) same))
    (λ lost. c.if-not-report.ensures.told refl lost)
    p.0 p.1 p.2
