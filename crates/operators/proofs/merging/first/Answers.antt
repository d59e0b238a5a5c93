use Rattle.std.proofs.Common.{◌≡◌, ◌<◌, length, sym, ◌∙◌, arith}
use Rattle.operators.specs.inner.Merges.{row_lt, head_row, earlier}
use Rattle.operators.proofs.FirstLemmas.{row_read, stays, turns}
use Rattle.operators.proofs.merging.first.Goals as goal
use Rattle.operators.proofs.merging.first.Goals.{then-comes_before, else-comes_before}

pub loop-ordinal-preserved : goal.loop-ordinal-preserved
loop-ordinal-preserved g c =
    let keys = c.args.keys.now in
    let heads = c.args.heads.now in
    let least = c.loop-ordinal.least in
    let ordinal = c.loop-ordinal.ordinal in
    let within : ordinal < length heads = omega (arith, c.loop-ordinal-test.true) in
    let here = row_read heads ordinal c.index-heads-ordinal.result within in
    let there = row_read heads least c.index-heads-least.result (omega (arith, within, c.loop-ordinal.invariant.0)) in
    let test : earlier (row_lt keys) (head_row heads ordinal) (head_row heads least) ≡ c.comes_before.result =
    rw (here, there) (sym c.comes_before.ensures)
    in
    elim c.if-comes_before.branch [
      | then-comes_before w ↦ rw w.least-is (turns keys heads least ordinal c.loop-ordinal.invariant (test ∙ w.if-comes_before.true))
      | else-comes_before w ↦ rw w.least-is (stays keys heads least ordinal c.loop-ordinal.invariant (test ∙ w.if-comes_before.false))
    ]
