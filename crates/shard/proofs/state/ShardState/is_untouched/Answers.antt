use Rattle.std.proofs.Common.{eqb, ap, sym, ◌∙◌}
use Rattle.std.proofs.lemmas.Bool.{eqb-true}
use Rattle.std.proofs.lemmas.List.{nil_from_length}
use Rattle.shard.proofs.NoEntry.{fresh, not_opening, follows, nothing_stored, no_step}
use Rattle.shard.proofs.state.ShardState.is_untouched.Goals as goal

pub returns-clause-fresh : goal.returns-clause-fresh
returns-clause-fresh g c e =
    let s = c.self.inside.contents in
    fresh g.W.World.opening g.W.World.limits c.self.inside.seat s c.args.self.now c.self.invariant.0 c.self.view_is (c.follows.ensures.0 c.if-not-follows.false)
    (eqb-true _ 0 (sym c.is_empty.ensures ∙ c.if-not-is_empty.false))
    (nil_from_length s.steps.items (sym s.steps.ok.0 ∙ eqb-true _ 0 (sym c.is_empty-2.ensures ∙ e)))

pub returns-clause-not_opening : goal.returns-clause-not_opening
returns-clause-not_opening g c e =
    let s = c.self.inside.contents in
    not_opening g.W.World.opening g.W.World.limits c.self.inside.seat s c.args.self.now c.self.invariant.0 c.self.view_is (c.follows.ensures.0 c.if-not-follows.false)
    (eqb-true _ 0 (sym c.is_empty.ensures ∙ c.if-not-is_empty.false))
    (nil_from_length s.steps.items (sym s.steps.ok.0 ∙ eqb-true _ 0 (sym c.is_empty-2.ensures ∙ e)))

pub returns-then-not-follows-clause-only : goal.returns-then-not-follows-clause-only
returns-then-not-follows-clause-only g c none target =
    let s = c.self.inside in
    sym c.if-not-follows.true ∙ c.follows.ensures.1 (follows g.W.World.opening g.W.World.limits s.seat s.contents c.args.self.now c.self.invariant.0 c.self.view_is none target)

pub returns-then-not-is_empty-clause-only : goal.returns-then-not-is_empty-clause-only
returns-then-not-is_empty-clause-only g c none target =
    let s = c.self.inside in
    sym c.if-not-is_empty.true
    ∙ c.is_empty.ensures
    ∙ ap (λ n. eqb n 0)
    (nothing_stored g.W.World.opening g.W.World.limits s.seat s.contents c.args.self.now c.self.invariant.0 c.self.view_is none target)

pub returns-clause-only : goal.returns-clause-only
returns-clause-only g c none target =
    let s = c.self.inside in
    c.is_empty-2.ensures
    ∙ ap (λ n. eqb n 0)
    (s.contents.steps.ok.0 ∙ no_step g.W.World.opening g.W.World.limits s.seat s.contents c.args.self.now c.self.invariant.0 c.self.view_is none target)
