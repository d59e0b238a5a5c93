use Rattle.std.proofs.Common.{◌≡◌, ◌+◌, ◌-◌, ◌<◌, ◌≤◌, ◌++◌, ◌∷◌, [], ℕ, Bool, false, Some, None, take, length, List, get_or, arith, sym, ap, subst, ◌∙◌}
use Rattle.std.specs.Prelude.{if◌then◌else◌}
use Rattle.std.proofs.lemmas.List.{take_more}
use Rattle.journal.specs.Runs.{IsLegal}
use Rattle.shard_contents.specs.declared.target_steps.TargetStep.{TargetStep}
use Rattle.shard_contents.specs.Kept.{is_copy_from}
use Rattle.shard_contents.specs.Progress.{steps_on}
use Rattle.shard_contents.specs.Entries.{ShardView, MayFollow}
use Rattle.shard_contents.proofs.Legality.{legal_is}
use Rattle.shard_contents.proofs.Progress.{copy_told, last_copy, last_copy-push, take_whole}
use Rattle.shard.specs.inner.Reached.{IsLastCopy}
use Rattle.shard.proofs.Reaches.{last_copy_tells}
use Rattle.shard.proofs.state.ShardState.last_copy.Goals as goal

-- what the first `end` steps tell, of which this one is the last
told : (source : ℕ) (steps : List TargetStep) (end : ℕ) (x : TargetStep) → 0 < end → end ≤ length steps → x ≡ get_or steps (end - 1) x
    → last_copy source None (take end steps) ≡ (if is_copy_from source x then Some x else last_copy source None (take (end - 1) steps))
told source steps end x some within is =
    let on : end ≡ (end - 1) + 1 = omega (arith, some) in
    ap (λ n. last_copy source None (take n steps)) on
    ∙ ap (last_copy source None) (take_more steps (end - 1) x (omega (arith, some, within)) ∙ ap (λ (y : TargetStep). take (end - 1) steps ++ y ∷ []) (sym is))
    ∙ last_copy-push source None (take (end - 1) steps) x

pub loop-end-init : goal.loop-end-init
loop-end-init g c =
    let steps = c.as_slice-steps.result.now in
    (omega arith, ap (last_copy c.args.source None) (take_whole (length steps) steps (omega arith)))

pub returns-then-is_copy_from : goal.returns-then-is_copy_from
returns-then-is_copy_from g c =
    let o = g.W.World.opening in
    let v = c.args.self.now in
    let source = c.args.source in
    let steps = c.as_slice-steps.result.now in
    let x = c.index-steps-end.result in
    let legal : IsLegal (MayFollow o) v.seen = subst (λ (w : ShardView). IsLegal (MayFollow o) w.seen) c.self.view_is c.slot-slot.ensures.legal in
    let last : last_copy source None (steps_on v.shard.slot v.seen) ≡ Some x =
    copy_told o g.W.World.limits c.self.inside.seat.seen c.self.inside.contents v c.self.invariant.0.keeps c.self.view_is c.requires.lives source
    ∙ ap (last_copy source None) (sym c.as_slice-steps.ensures.value) ∙ sym c.loop-end.invariant.1
    ∙ told source steps c.loop-end.end x c.loop-end-test.true c.loop-end.invariant.0 c.index-steps-end.is
    ∙ ap (λ (b : Bool). if b then Some x else last_copy source None (take (c.loop-end.end - 1) steps)) (sym c.is_copy_from.ensures ∙ c.if-is_copy_from.true) in
    subst (IsLastCopy o v.seen v.shard source) last (last_copy_tells o v.shard source v.seen (legal_is o v.seen legal) c.shard-shard.ensures.stands)

pub loop-end-preserved : goal.loop-end-preserved
loop-end-preserved g c =
    let source = c.args.source in
    let steps = c.as_slice-steps.result.now in
    let x = c.index-steps-end.result in
    let within = c.loop-end.invariant.0 in
    let e : is_copy_from source x ≡ false = sym c.is_copy_from.ensures ∙ c.if-is_copy_from.false in (
      omega (arith, within),
      sym (ap (λ (b : Bool). if b then Some x else last_copy source None (take (c.loop-end.end - 1) steps)) e)
          ∙ sym (told source steps c.loop-end.end x c.loop-end-test.true within c.index-steps-end.is) ∙ c.loop-end.invariant.1,
    )

pub returns : goal.returns
returns g c =
    let o = g.W.World.opening in
    let v = c.args.self.now in
    let source = c.args.source in
    let steps = c.as_slice-steps.result.now in
    let none : c.loop-end.end ≡ 0 = omega (arith, c.loop-end-test.false) in
    let legal : IsLegal (MayFollow o) v.seen = subst (λ (w : ShardView). IsLegal (MayFollow o) w.seen) c.self.view_is c.slot-slot.ensures.legal in
    let last : last_copy source None (steps_on v.shard.slot v.seen) ≡ None =
    copy_told o g.W.World.limits c.self.inside.seat.seen c.self.inside.contents v c.self.invariant.0.keeps c.self.view_is c.requires.lives source
    ∙ ap (last_copy source None) (sym c.as_slice-steps.ensures.value) ∙ sym c.loop-end.invariant.1
    ∙ ap (λ n. last_copy source None (take n steps)) none in
    subst (IsLastCopy o v.seen v.shard source) last (last_copy_tells o v.shard source v.seen (legal_is o v.seen legal) c.shard-shard.ensures.stands)
