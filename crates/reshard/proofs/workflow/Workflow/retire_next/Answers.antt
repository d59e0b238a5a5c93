use Rattle.std.proofs.Common.{◌++◌, map, sym, ap, ◌∙◌, subst}
use Rattle.std.proofs.lemmas.Bool.{false≢true}
use Rattle.std.specs.Option.{option_to_list}
use Rattle.std.specs.Vec.Iter.{into_iter_items}
use Rattle.shard_run.specs.declared.Event.TheVariants.{Retire}
use Rattle.reshard_create.specs.FollowSteps.{HasStepped}
use Rattle.reshard_create.specs.Steps.{FitTargets, named_for}
use Rattle.reshard.specs.Workflows.{WorkflowView}
use Rattle.reshard_create.specs.TargetSources.{shards_of}
use Rattle.reshard_create.proofs.Retiring.{map_at, item_of}
use Rattle.reshard.proofs.Nexts.{view_within, view_there, next_list}
use Rattle.reshard.proofs.workflow.Workflow.retire_next.Goals as goal

pub retire-requires-clause-fit : goal.retire-requires-clause-fit
retire-requires-clause-fit g c =
    let s = c.index-source.result.now in
    let i = c.self.inside.retired in
    let sources = c.self.inside.sources.items in
    let ts = shards_of (map (λ t. (t.member.which, map (λ s. s.which) t.sources.items)) c.self.inside.targets.items) in
    let rest = into_iter_items c.next.new.self in
    let within = view_within (λ s. s.member.which) c.args.self.now.sources c.args.self.now.retired sources i s
    (sym (ap (λ (w : WorkflowView). w.sources) c.self.view_is)) (sym (ap (λ (w : WorkflowView). w.retired) c.self.view_is)) c.requires.some c.index-source.ensures in
    let at = map_at (λ s. s.member.which) sources i s within c.index-source.ensures in
    let w = next_list (λ s. s.member.which) sources i s within c.index-source.ensures (λ x. named_for x ts) (into_iter_items c.self.inside.named) rest
    c.unwrap-targets.result (c.self.invariant.1.after (ap (λ (w : WorkflowView). w.prepared) c.self.view_is ∙ c.requires.prepared))
    (c.next.ensures.items ∙ ap (λ o. option_to_list o ++ rest) c.unwrap-targets.ensures) in
    subst (FitTargets s.member.which) (sym w.0)
    (item_of (λ s. FitTargets s (named_for s ts)) (map (λ s. s.member.which) sources) i s.member.which at.0 at.1 c.self.invariant.0.split.fit)

pub invariant_of-self : goal.invariant_of-self
invariant_of-self g c =
    let s = c.index-source.result.now in
    let i = c.self.inside.retired in
    let sources = c.self.inside.sources.items in
    let ts = shards_of (map (λ t. (t.member.which, map (λ s. s.which) t.sources.items)) c.self.inside.targets.items) in
    let rest = into_iter_items c.next.new.self in
    let ready = ap (λ (w : WorkflowView). w.prepared) c.self.view_is ∙ c.requires.prepared in
    let within = view_within (λ s. s.member.which) c.args.self.now.sources c.args.self.now.retired sources i s
    (sym (ap (λ (w : WorkflowView). w.sources) c.self.view_is)) (sym (ap (λ (w : WorkflowView). w.retired) c.self.view_is)) c.requires.some c.index-source.ensures in
    let w = next_list (λ s. s.member.which) sources i s within c.index-source.ensures (λ x. named_for x ts) (into_iter_items c.self.inside.named) rest
    c.unwrap-targets.result (c.self.invariant.1.after ready)
    (c.next.ensures.items ∙ ap (λ o. option_to_list o ++ rest) c.unwrap-targets.ensures) in (
      c.self.invariant.0,
      record { before = λ e. absurd (false≢true (sym e ∙ ready)); after = λ e. w.1 },
      c.self.invariant.2,
      c.self.invariant.3,
      c.self.invariant.4,
    )

pub returns-clause-retired : goal.returns-clause-retired
returns-clause-retired g c =
    let s = c.index-source.result.now in
    let i = c.self.inside.retired in
    let sources = c.self.inside.sources.items in
    let ts = shards_of (map (λ t. (t.member.which, map (λ s. s.which) t.sources.items)) c.self.inside.targets.items) in
    let rest = into_iter_items c.next.new.self in
    let view = sym (ap (λ (w : WorkflowView). w.sources) c.self.view_is) in
    let place = sym (ap (λ (w : WorkflowView). w.retired) c.self.view_is) in
    let within = view_within (λ s. s.member.which) c.args.self.now.sources c.args.self.now.retired sources i s view place c.requires.some c.index-source.ensures in
    let w = next_list (λ s. s.member.which) sources i s within c.index-source.ensures (λ x. named_for x ts) (into_iter_items c.self.inside.named) rest
    c.unwrap-targets.result (c.self.invariant.1.after (ap (λ (w : WorkflowView). w.prepared) c.self.view_is ∙ c.requires.prepared))
    (c.next.ensures.items ∙ ap (λ o. option_to_list o ++ rest) c.unwrap-targets.ensures) in (
      s.member.which,
      view_there (λ s. s.member.which) c.args.self.now.sources c.args.self.now.retired sources i s view place c.requires.some c.index-source.ensures,
      subst (λ l. HasStepped g.W.World.opening s.member.which (Retire l) c.args.pass.now c.retire.new.pass)
          (w.0 ∙ ap (λ (v : WorkflowView). named_for s.member.which (shards_of v.targets)) c.self.view_is) c.retire.ensures.retired,
      c.retire.ensures.once,
    )
