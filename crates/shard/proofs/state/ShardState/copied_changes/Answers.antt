use Rattle.std.proofs.Common.{Bool, List, [], ◌∷◌, ◌++◌, sym, ap, ◌∙◌}
use Rattle.vschema.specs.declared.changes.RowChange.{RowChange}
use Rattle.shard_run.specs.Copies.{change_is_copied}
use Rattle.shard_contents.proofs.CopySteps.{kept_next, dropped_next}
use Rattle.shard.proofs.state.ShardState.copied_changes.Goals as goal
use Rattle.shard.proofs.state.ShardState.copied_changes.Goals.{then-change_is_copied+in_ok-copy_change+in_ok-push, else-change_is_copied}

pub loop-change-preserved : goal.loop-change-preserved
loop-change-preserved g c =
    let v = c.args.self.now in
    let test : RowChange → Bool = change_is_copied g.W.World.opening.schema v.seen v.shard.slot c.args.taken.now.source in
    let items = c.as_slice-change-items.result.now in
    let i = c.loop-change.change-index in
    let x = c.change-item.result in
    elim c.if-change_is_copied.branch [
      | then-change_is_copied+in_ok-copy_change+in_ok-push w ↦
          rw w.changes-is
          (w.in_ok-push.ensures.ok ∙ ap (λ (y : RowChange). c.loop-change.changes ++ y ∷ []) w.in_ok-copy_change.ensures.ok
          ∙ ap (λ (l : List RowChange). l ++ x ∷ []) c.loop-change.invariant
          ∙ sym (kept_next test items i x c.loop-change-test.true c.change-item.is (sym c.change_is_copied.ensures ∙ w.if-change_is_copied.true)))
      | else-change_is_copied w ↦
          rw w.changes-is
          (c.loop-change.invariant
          ∙ sym (dropped_next test items i x c.loop-change-test.true c.change-item.is (sym c.change_is_copied.ensures ∙ w.if-change_is_copied.false)))
    ]
