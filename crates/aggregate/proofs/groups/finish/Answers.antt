use Rattle.std.proofs.Common.{[], ◌∷◌, ◌++◌, arith, append_assoc, ap, ◌∙◌}
use Rattle.std.specs.Vec.Iter.{into_iter_items}
use Rattle.aggregate.proofs.FinishLemmas.{next_part, no_part}
use Rattle.aggregate.proofs.groups.finish.Goals as goal
use Rattle.aggregate.proofs.groups.finish.Goals.{in-Some+in_ok-push, in_default}

pub loop-preserved : goal.loop-preserved
loop-preserved c =
    let all = into_iter_items c.args.parts.now in
    let old = into_iter_items c.loop.parts in
    let new = into_iter_items c.next.new.self in
    elim c.match-next.branch [
      | in-Some+in_ok-push w ↦ let next = next_part all old new c.loop.counter w.in-Some.part w.in-Some.ensures.items c.loop.invariant.rest in
          record {
            row = w.row-is ∙ w.in_ok-push.ensures.ok ∙ ap (λ r. r ++ w.in-Some.part ∷ []) c.loop.invariant.row
                ∙ append_assoc c.args.values _ (w.in-Some.part ∷ []) ∙ ap (λ r. c.args.values ++ r) next.0;
            rest = next.1;
          }
      | in_default w ↦ let next = no_part all old new c.loop.counter (omega (arith, w.in_default.ensures.cases.0, c.loop.parts.rest.ok.0)) w.in_default.ensures.items c.loop.invariant.rest in
          record { row = w.row-is ∙ c.loop.invariant.row ∙ ap (λ r. c.args.values ++ r) next.0; rest = next.1 }
    ]
