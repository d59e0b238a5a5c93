use Rattle.std.proofs.Common.{◌++◌, map, refl, ap, ◌∙◌, subst}
use Rattle.std.specs.Prelude.{IsPermutation}
use Rattle.std.specs.Vec.Iter.{into_iter_items}
use Rattle.reshard_create.specs.Steps.{named_for}
use Rattle.reshard.proofs.Nexts.{prepared_now}
use Rattle.reshard.proofs.workflow.Workflow.prepare.Goals as goal

pub invariant_of-self : goal.invariant_of-self
invariant_of-self g c =
    let is =
    c.in_ok-named.ensures.ok
    ∙ ap (λ l. map (λ s. named_for s.member.which (map (λ t. t.member.which) c.as_slice-4.result.now)) l) c.as_slice-3.ensures.value
    ∙ ap (λ l. map (λ s. named_for s.member.which (map (λ t. t.member.which) l)) c.self.inside.sources.items) c.as_slice-4.ensures.value in (
      c.self.invariant.0,
      prepared_now (λ s. s.member.which) (λ t. (t.member.which, map (λ s. s.which) t.sources.items)) c.self.inside.sources.items c.self.inside.targets.items
          c.self.inside.retired (into_iter_items c.into_iter.result) (c.self.invariant.1.before c.if-self.false) (c.into_iter.ensures.rest ∙ is),
      c.in_ok-next.ensures.next,
      λ _ _. refl,
      subst (λ l. IsPermutation (l ++ map (λ t. t.member.shard.value) c.self.inside.targets.items) c.in_ok-next.next.value) c.as_slice.ensures.value
          (subst (λ l. IsPermutation (c.as_slice.result.now ++ map (λ t. t.member.shard.value) l) c.in_ok-next.next.value) c.as_slice-2.ensures.value
          c.in_ok-next.ensures.parts),
    )
