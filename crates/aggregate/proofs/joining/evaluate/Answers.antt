use Rattle.std.proofs.Common.{[], ◌∷◌, ◌+◌, take, sym, ap, ◌∙◌, subst}
use Rattle.aggregate.proofs.BeginningLemmas.{part_more, begin_held}
use Rattle.aggregate.proofs.joining.evaluate.Goals as goal

pub add-requires : goal.add-requires
add-requires g c =
    let A = g.A.Aggregate in
    let values = c.args.values.now in
    let i = c.loop-value.value-index in
    let more = ap (λ p. A.joined p (A.part_of (c.value-item.result ∷ []))) c.loop-value.invariant
    ∙ part_more A.part_of A.joined g.met.A.Aggregate.laws values i c.value-item.result c.loop-value-test.true c.value-item.is in
    subst A.can_hold (sym more) (g.met.A.Aggregate.holds (take (i + 1) values) (begin_held values (i + 1) c.requires))

pub loop-value-preserved : goal.loop-value-preserved
loop-value-preserved g c =
    let A = g.A.Aggregate in
    c.in_ok-add.ensures.ok ∙ ap (λ p. A.joined p (A.part_of (c.value-item.result ∷ []))) c.loop-value.invariant
    ∙ part_more A.part_of A.joined g.met.A.Aggregate.laws c.args.values.now c.loop-value.value-index c.value-item.result c.loop-value-test.true c.value-item.is
