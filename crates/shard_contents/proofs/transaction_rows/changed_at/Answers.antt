use Rattle.std.proofs.Common.{ℕ, get_or}
use Rattle.std.proofs.lemmas.List.{get_or_default}
use Rattle.shard_contents.proofs.ChangeLists.{one_done, ended}
use Rattle.shard_contents.proofs.transaction_rows.changed_at.Goals as goal

pub loop-position-preserved : goal.loop-position-preserved
loop-position-preserved c = λ p h.
    let i = c.loop-position.position-index in
    let q : ℕ = get_or c.args.positions.now i 0 in
    one_done p c.args.ordinal c.args.changes.now c.args.store.now.rows c.requires.there c.args.positions.now i q c.loop-position.next c.in_ok-next.next
    c.loop-position.overlaid.rows c.change_at.new.rows.rows c.requires.sorted c.loop-position-test.true (get_or_default c.args.positions.now i 0 q c.loop-position-test.true)
    (c.loop-position.invariant p h) c.in_ok-next.ensures

pub returns : goal.returns
returns c = record {
  ok = λ p h.
      let i = c.loop-position.position-index in
      ended p c.args.ordinal c.args.changes.now c.args.store.now.rows c.requires.there c.args.positions.now i c.loop-position.next c.loop-position.overlaid.rows
      c.loop-position-test.false (c.loop-position.invariant p h);
}
