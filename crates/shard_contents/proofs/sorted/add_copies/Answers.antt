use Rattle.shard_contents.proofs.RowsLeft.{moved}
use Rattle.std.proofs.Common.{◌++◌, subst, IsPermutation}
use Rattle.shard_contents.proofs.sorted.add_copies.Goals as goal

pub loop-row-preserved : goal.loop-row-preserved
loop-row-preserved c =
    let before = c.loop-row.rows.rows in
    moved before c.add_copy.new.rows.rows c.next_row.new.self (c.args.rows.now.rows ++ c.args.all) c.in-Some.row.now c.in_ok-add_copy.ensures.ok
    (subst (λ l. IsPermutation (before ++ l) (c.args.rows.now.rows ++ c.args.all)) c.in-Some.ensures c.loop-row.invariant)
