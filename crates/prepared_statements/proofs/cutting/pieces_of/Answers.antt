use Rattle.prepared_statements.proofs.Cuttings.{cut_end}
use Rattle.prepared_statements.proofs.cutting.pieces_of.Goals as goal

pub returns : goal.returns
returns c = record {
  ok =
      cut_end c.loop-byte.cutting.pieces c.push.new.self c.loop-byte.cutting.piece c.loop-byte.rest.now c.args.text.now c.loop-byte.cutting.place c.loop-byte.invariant
      (c.first_byte.ensures.none c.in_default.is) c.in_ok-push.ensures.ok;
}
