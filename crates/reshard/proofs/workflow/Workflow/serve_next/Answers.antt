use Rattle.std.proofs.Common.{List, map, sym, ap, subst, ◌∙◌}
use Rattle.shard_run.specs.declared.ShardRecord.{ShardRecord}
use Rattle.reshard_create.specs.Turns.{EachInTurn}
use Rattle.reshard_create.specs.Looks.{HasLookedOnlyAt}
use Rattle.shard_run.specs.declared.Event.TheVariants.{Serve}
use Rattle.reshard_create.specs.Steps.{IsTargetOf}
use Rattle.reshard.specs.Workflows.{WorkflowView}
use Rattle.reshard_create.proofs.Retiring.{map_at, item_of}
use Rattle.reshard_create.proofs.Onward.{stepped_after}
use Rattle.reshard.proofs.Nexts.{view_within, view_there}
use Rattle.reshard.proofs.workflow.Workflow.serve_next.Goals as goal

pub serve-requires-clause-of_sources : goal.serve-requires-clause-of_sources
serve-requires-clause-of_sources g c =
    let t = c.index-target.result.now in
    let i = c.self.inside.served in
    let targets = c.self.inside.targets.items in
    let within = view_within (λ t. (t.member.which, map (λ s. s.which) t.sources.items)) c.args.self.now.targets c.args.self.now.served targets i t
    (sym (ap (λ (w : WorkflowView). w.targets) c.self.view_is)) (sym (ap (λ (w : WorkflowView). w.served) c.self.view_is)) c.requires.some c.index-target.ensures in
    let at = map_at (λ t. (t.member.which, map (λ s. s.which) t.sources.items)) targets i t within c.index-target.ensures in
    subst (λ l. IsTargetOf (map (λ s. s.member.which) l) t.member.which) (sym c.as_slice-2.ensures.value)
    (item_of (λ x. IsTargetOf (map (λ s. s.member.which) c.self.inside.sources.items) x.0)
    (map (λ t. (t.member.which, map (λ s. s.which) t.sources.items)) targets) i (t.member.which, map (λ s. s.which) t.sources.items) at.0 at.1
    c.self.invariant.0.split.of_sources)

pub returns-clause-served : goal.returns-clause-served
returns-clause-served g c =
    let t = c.index-target.result.now in (
      (t.member.which, map (λ s. s.which) t.sources.items),
      view_there (λ t. (t.member.which, map (λ s. s.which) t.sources.items)) c.args.self.now.targets c.args.self.now.served c.self.inside.targets.items
          c.self.inside.served t (sym (ap (λ (w : WorkflowView). w.targets) c.self.view_is)) (sym (ap (λ (w : WorkflowView). w.served) c.self.view_is))
          c.requires.some c.index-target.ensures,
      stepped_after g.W.World.opening c.args.pass.now c.confirm_retired.new.pass c.serve.new.pass t.member.which Serve c.confirm_retired.ensures.onward
          c.serve.ensures.served,
      c.confirm_retired.new.pass,
      subst (λ (l : List ShardRecord). EachInTurn (λ s. HasLookedOnlyAt s.slot) l c.args.pass.now c.confirm_retired.new.pass)
          (ap (map (λ s. s.member.which)) c.as_slice.ensures.value ∙ ap (λ (w : WorkflowView). w.sources) c.self.view_is) c.confirm_retired.ensures.looked,
      c.serve.ensures.once,
    )
