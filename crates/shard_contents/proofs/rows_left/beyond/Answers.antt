use Rattle.std.proofs.Common.{sym, ◌∙◌, arith}
use Rattle.shard_contents.proofs.RowsLeft.{ended, taken}
use Rattle.shard_contents.proofs.rows_left.beyond.Goals as goal

pub returns-in_default : goal.returns-in_default
returns-in_default c =
    let none = rw c.in_default.is at c.next_row.ensures in
    none.1 ∙ sym (ended c.args.rows c.loop.counter c.args.count (sym c.loop.invariant ∙ none.0) (omega arith))

pub loop-preserved : goal.loop-preserved
loop-preserved c =
    let first = rw c.in-Some.is at c.next_row.ensures in
    sym (taken c.args.rows c.next_row.new.self c.in-Some._row.now c.loop.counter (sym c.loop.invariant ∙ first))
