use Rattle.std.proofs.Common.{ℕ, List, ◌++◌, map, reverse, sym, ap, ◌∙◌}
use Rattle.reshard.specs.Workflows.{WorkflowView}
use Rattle.reshard_create.specs.TargetSources.{TargetWithSources}
use Rattle.reshard_create.proofs.Begins.{map_twice}
use Rattle.reshard.proofs.workflow.Workflow.create.Goals as goal

pub returns-clause-taken : goal.returns-clause-taken
returns-clause-taken g c =
    sym (ap (λ (w : WorkflowView). w.free) c.self.view_is) ∙ c.in_ok-begun.ensures.taken
    ∙ ap (λ (l : List ℕ). map (λ s. s.slot) c.begin.new.free.items ++ reverse l)
    (sym (map_twice (λ (t : TargetWithSources). t.0.slot) (λ t. (t.member.which, map (λ s. s.which) t.sources.items)) c.in_ok-begun.begun.targets.items))
