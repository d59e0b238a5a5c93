use Rattle.std.proofs.Common.{List, ◌++◌, map, take, drop, refl, ap, ap₂, subst, ◌∙◌}
use Rattle.std.proofs.lemmas.Result.{IfOk-weaker}
use Rattle.keyrange.specs.declared.KeyRange.{KeyRange}
use Rattle.serving.specs.Partitions.{Seat}
use Rattle.reshard.specs.Workflows.{WorkflowView}
use Rattle.reshard.specs.Served.{AreServed}
use Rattle.reshard.proofs.Serving.{served}
use Rattle.reshard.proofs.workflow.Workflow.served_ranges.Goals as goal

pub returns : goal.returns
returns g c = record {
  ok = (let was = c.self.invariant.0 in
      let own =
      c.as_slice-4.ensures.value ∙ c.in_ok-own.ensures.ok
      ∙ ap₂ (λ (a b : List KeyRange). a ++ b)
      (ap (map (λ s. s.member.which.place.range)) (c.without_first.ensures ∙ ap (drop c.self.inside.retired) c.as_slice.ensures.value))
      (ap (map (λ t. t.member.which.place.range)) (c.first.ensures ∙ ap (take c.self.inside.served) c.as_slice-2.ensures.value)) in
      IfOk-weaker c.next_ranges.result _ _
      (λ ranges h.
      subst (λ (w : WorkflowView). AreServed w ranges.items) c.self.view_is
      (served (λ s. s.member.which) (λ t. (t.member.which, map (λ s. s.which) t.sources.items)) c.self.inside.sources.items c.self.inside.targets.items _
      c.self.inside.rest.items (map (λ t. t.member.shard.value) c.self.inside.targets.items) ranges.items refl refl was.seated was.next was.home
      (h ∙ ap₂ (λ (a b : List KeyRange). a ++ b) (ap (map (λ (p : Seat). p.1)) c.as_slice-3.ensures.value) own))) c.next_ranges.ensures.ok);
}
