use Rattle.std.proofs.Common.{◌++◌, ◌∷◌, [], ap, sym, ◌∙◌, append_assoc, drop, ◌+◌}
use Rattle.vschema.specs.Resolved.{ordinals_from}
use Rattle.planner.proofs.PieceRows.{ordinals_from-next}
use Rattle.planner.proofs.planning.first_ordinals.Goals as goal

pub loop-ordinal-preserved : goal.loop-ordinal-preserved
loop-ordinal-preserved c =
    let items = c.args.items.now in
    let ordinal = c.loop-ordinal.ordinal in
    ap (λ l. l ++ ordinals_from (ordinal + 1) (drop (ordinal + 1) items)) c.in_ok-push.ensures.ok
    ∙ append_assoc c.loop-ordinal.ordinals (ordinal ∷ []) (ordinals_from (ordinal + 1) (drop (ordinal + 1) items))
    ∙ ap (λ l. c.loop-ordinal.ordinals ++ l) (sym (ordinals_from-next items ordinal ordinal c.loop-ordinal-test.true)) ∙ c.loop-ordinal.invariant
