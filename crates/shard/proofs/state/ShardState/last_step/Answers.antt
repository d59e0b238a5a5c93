use Rattle.std.proofs.Common.{◌≡◌, ◌==◌, ◌+◌, ◌-◌, ◌<◌, ◌≤◌, ◌++◌, ◌∷◌, [], ℕ, Bool, true, false, Some, None, take, length, List, get_or, arith, sym, ap, ◌∙◌}
use Rattle.std.specs.Prelude.{if◌then◌else◌}
use Rattle.std.proofs.lemmas.Bool.{eq-eqb, ne_eqb}
use Rattle.std.proofs.lemmas.List.{take_more}
use Rattle.shard_contents.specs.declared.target_steps.TargetStep.{TargetStep}
use Rattle.shard_contents.specs.Progress.{step_position}
use Rattle.shard_contents.specs.inner.Progress.{source_of}
use Rattle.shard_contents.proofs.Progress.{position_told, after_last, after_last-push, take_whole}
use Rattle.shard.proofs.state.ShardState.last_step.Goals as goal

-- what the first `end` steps tell, of which this one is the last
told : (source : ℕ) (steps : List TargetStep) (end : ℕ) (x : TargetStep) → 0 < end → end ≤ length steps → x ≡ get_or steps (end - 1) x
    → after_last source None (take end steps) ≡ (if source_of x == source then Some (step_position x) else after_last source None (take (end - 1) steps))
told source steps end x some within is =
    let on : end ≡ (end - 1) + 1 = omega (arith, some) in
    ap (λ n. after_last source None (take n steps)) on
    ∙ ap (after_last source None) (take_more steps (end - 1) x (omega (arith, some, within)) ∙ ap (λ (y : TargetStep). take (end - 1) steps ++ y ∷ []) (sym is))
    ∙ after_last-push source None (take (end - 1) steps) x

pub loop-end-init : goal.loop-end-init
loop-end-init g c =
    let steps = c.as_slice-steps.result.now in
    (omega arith, ap (after_last c.args.source None) (take_whole (length steps) steps (omega arith)))

pub returns-then-source : goal.returns-then-source
returns-then-source g c =
    let steps = c.as_slice-steps.result.now in
    let x = c.index-steps-end.result in
    let e : (source_of x == c.args.source) ≡ true = eq-eqb (source_of x) c.args.source (sym c.source.ensures ∙ c.if-source.true) in
    position_told g.W.World.opening g.W.World.limits c.self.inside.seat.seen c.self.inside.contents c.args.self.now c.self.invariant.0.keeps c.self.view_is c.requires.lives
    c.args.source
    ∙ ap (after_last c.args.source None) (sym c.as_slice-steps.ensures.value)
    ∙ sym c.loop-end.invariant.1
    ∙ told c.args.source steps c.loop-end.end x c.loop-end-test.true c.loop-end.invariant.0 c.index-steps-end.is
    ∙ ap (λ (b : Bool). if b then Some (step_position x) else after_last c.args.source None (take (c.loop-end.end - 1) steps)) e

pub loop-end-preserved : goal.loop-end-preserved
loop-end-preserved g c =
    let steps = c.as_slice-steps.result.now in
    let x = c.index-steps-end.result in
    let within = c.loop-end.invariant.0 in
    let e : (source_of x == c.args.source) ≡ false = ne_eqb (source_of x) c.args.source (λ same. c.if-source.false (c.source.ensures ∙ same)) in (
      omega (arith, within),
      sym (ap (λ (b : Bool). if b then Some (step_position x) else after_last c.args.source None (take (c.loop-end.end - 1) steps)) e)
          ∙ sym (told c.args.source steps c.loop-end.end x c.loop-end-test.true within c.index-steps-end.is)
          ∙ c.loop-end.invariant.1,
    )

pub returns : goal.returns
returns g c =
    let steps = c.as_slice-steps.result.now in
    let none : c.loop-end.end ≡ 0 = omega (arith, c.loop-end-test.false) in
    position_told g.W.World.opening g.W.World.limits c.self.inside.seat.seen c.self.inside.contents c.args.self.now c.self.invariant.0.keeps c.self.view_is c.requires.lives
    c.args.source
    ∙ ap (after_last c.args.source None) (sym c.as_slice-steps.ensures.value)
    ∙ sym c.loop-end.invariant.1
    ∙ ap (λ n. after_last c.args.source None (take n steps)) none
