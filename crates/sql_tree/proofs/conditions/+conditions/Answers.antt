use Rattle.std.proofs.Common.{arith}
use Rattle.std.specs.Prelude.{codes}
use Rattle.sql_tree.specs.Printing.{inside_and, inside_or}
use Rattle.sql_tree.proofs.Puts.{first_put, next_put}
use Rattle.sql_tree.proofs.conditions.+conditions.Goals as goal
use Rattle.sql_tree.proofs.conditions.+conditions.Goals.{put_and-then-i-gt0+in_ok-put, put_and-else-i-gt0, put_or-then-i-gt0+in_ok-put, put_or-else-i-gt0}

pub put_and-loop-i-preserved : goal.put_and-loop-i-preserved
put_and-loop-i-preserved n c =
    elim c.if-i-gt0.branch [
      | put_and-then-i-gt0+in_ok-put w ↦ next_put inside_and (codes " AND ") c.args.members.now c.loop-i.i c.index-members-i.result _
          c.loop-i.out.items c.if-i-gt0.out.items _ c.loop-i-test.true c.index-members-i.is
          w.if-i-gt0.true c.loop-i.invariant (rw w.out-is w.in_ok-put.ensures.ok) c.in_ok-put_inside_and.ensures.ok
      | put_and-else-i-gt0 w ↦ first_put inside_and (codes " AND ") c.args.members.now c.loop-i.i c.index-members-i.result _
          c.if-i-gt0.out.items _ c.loop-i-test.true c.index-members-i.is
          (omega (arith, w.if-i-gt0.false)) (rw w.out-is c.loop-i.invariant) c.in_ok-put_inside_and.ensures.ok
    ]

pub put_or-loop-i-preserved : goal.put_or-loop-i-preserved
put_or-loop-i-preserved n c =
    elim c.if-i-gt0.branch [
      | put_or-then-i-gt0+in_ok-put w ↦ next_put inside_or (codes " OR ") c.args.members.now c.loop-i.i c.index-members-i.result _
          c.loop-i.out.items c.if-i-gt0.out.items _ c.loop-i-test.true c.index-members-i.is
          w.if-i-gt0.true c.loop-i.invariant (rw w.out-is w.in_ok-put.ensures.ok) c.in_ok-put_inside_or.ensures.ok
      | put_or-else-i-gt0 w ↦ first_put inside_or (codes " OR ") c.args.members.now c.loop-i.i c.index-members-i.result _
          c.if-i-gt0.out.items _ c.loop-i-test.true c.index-members-i.is
          (omega (arith, w.if-i-gt0.false)) (rw w.out-is c.loop-i.invariant) c.in_ok-put_inside_or.ensures.ok
    ]
