use Rattle.std.proofs.Common.{refl}
use Rattle.program_log.proofs.lines.Writings.{part_after}
use Rattle.program_log.proofs.lines.writer.LineWriter.put.Goals as goal

pub returns-clause-part : goal.returns-clause-part
returns-clause-part g c =
    λ differ. part_after c.args.self.now.is_torn c.is_part-self.result c.args.line.now c.as_bytes-bytes.result.now
    (g.W.Write.contents c.args.self.now.device) (g.W.Write.contents c.mend.new.self.device) (g.W.Write.contents c.write_once-taken.new.device) c.write_once-taken.result
    c.as_bytes-bytes.ensures.bytes c.write_once-taken.ensures.bound differ c.is_part-self.ensures (c.if-not-mend.ensures.whole refl).1 c.write_once-taken.ensures.bytes
