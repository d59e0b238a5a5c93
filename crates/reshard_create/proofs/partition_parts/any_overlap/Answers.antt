use Rattle.std.proofs.Common.{refl, arith}
use Rattle.reshard_create.proofs.Named.{apart_more, apart_here}
use Rattle.reshard_create.proofs.partition_parts.any_overlap.Goals as goal

pub returns-then-overlaps_any : goal.returns-then-overlaps_any
returns-then-overlaps_any c = (
  λ e. absurd (Rattle.std.proofs.lemmas.Bool.false≢true e),
  λ apart. absurd (c.overlaps_any.ensures.yes c.if-overlaps_any.true
      (apart_here c.args.ranges.now c.loop-i.i c.index-ranges-i.result c.loop-i-test.true c.index-ranges-i.is apart)),
)

pub loop-i-preserved : goal.loop-i-preserved
loop-i-preserved c =
    apart_more c.args.ranges.now c.loop-i.i c.index-ranges-i.result c.loop-i-test.true c.index-ranges-i.is c.loop-i.invariant
    (c.overlaps_any.ensures.no c.if-overlaps_any.false)

pub returns : goal.returns
returns c = (λ e i j d before within. c.loop-i.invariant i j d before (let l = c.loop-i-test.false in omega (arith, within, l)), λ apart. refl)
