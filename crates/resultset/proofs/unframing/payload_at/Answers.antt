use Rattle.std.proofs.Common.{◌∙◌, arith}
use Rattle.std.proofs.lemmas.Result.{err_from_is_err_and}
use Rattle.resultset.proofs.FramesAgain.{reads_more, reads_last, no_part}
use Rattle.resultset.proofs.unframing.payload_at.Goals as goal

pub returns-in_err-part-clause-again : goal.returns-in_err-part-clause-again
returns-in_err-part-clause-again c =
    let p = err_from_is_err_and c.from_residual.result c.from_residual.ensures.1 in
    rw (p.1, p.2) (no_part c.args.bytes.now c.loop-payload.payload.items c.loop-payload.rest.now c.in_err-part.field-0.0 c.in_err-part.ensures.again c.loop-payload.invariant.0)

pub returns-then-part-lt-FULL_PART-clause-again : goal.returns-then-part-lt-FULL_PART-clause-again
returns-then-part-lt-FULL_PART-clause-again c = λ number payload rest e.
    let last = reads_last c.args.bytes.now c.loop-payload.payload.items c.loop-payload.rest.now c.in_ok-part.part.now c.in_ok-part.after.now c.in_ok-part.ensures.again c.if-part-lt-FULL_PART.true c.loop-payload.invariant.0 number payload rest e in
    (c.from_vec.ensures ∙ c.in_ok-extend_from_slice.ensures.items ∙ last.0, last.1)

pub loop-payload-preserved : goal.loop-payload-preserved
loop-payload-preserved c = (
  rw c.in_ok-extend_from_slice.ensures.items
      (reads_more c.args.bytes.now c.loop-payload.payload.items c.loop-payload.rest.now c.in_ok-part.part.now c.in_ok-part.after.now c.in_ok-part.ensures.again c.if-part-lt-FULL_PART.false c.loop-payload.invariant.0),
  omega (arith, c.in_ok-part.ensures.shorter, c.loop-payload.invariant.1),
)
