use Rattle.std.proofs.Common.{◌++◌, ◌∷◌, [], sym, ap, ◌∙◌}
use Rattle.serving.specs.Partitions.{Seat}
use Rattle.reshard_create.proofs.reopening.Others.{other_next, same_next}
use Rattle.reshard_create.proofs.reopening.remaining_parts.others_of.Goals as goal
use Rattle.reshard_create.proofs.reopening.remaining_parts.others_of.Goals.{then-is_other+in_ok-copy_part+in_ok-push, else-is_other}

pub loop-part-preserved : goal.loop-part-preserved
loop-part-preserved g c =
    elim c.if-is_other.branch [
      | then-is_other+in_ok-copy_part+in_ok-push w ↦
          other_next (c.args.from.now ++ c.args.into.now) c.args.parts.now c.loop-part.part-index c.part-item.result c.loop-part.rest.items c.if-is_other.rest.items
          c.loop-part-test.true c.part-item.is c.loop-part.invariant (sym c.is_other.ensures ∙ w.if-is_other.true)
          (ap (λ v. v.items) w.rest-is ∙ w.in_ok-push.ensures.items ∙ ap (λ (x : Seat). c.loop-part.rest.items ++ x ∷ []) w.in_ok-copy_part.ensures.ok)
      | else-is_other w ↦
          same_next (c.args.from.now ++ c.args.into.now) c.args.parts.now c.loop-part.part-index c.part-item.result c.loop-part.rest.items c.if-is_other.rest.items
          c.loop-part-test.true c.part-item.is c.loop-part.invariant (sym c.is_other.ensures ∙ w.if-is_other.false) (ap (λ v. v.items) w.rest-is)
    ]
