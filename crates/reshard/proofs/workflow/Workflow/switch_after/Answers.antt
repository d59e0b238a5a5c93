use Rattle.std.proofs.Common.{◌≡◌, ◌+◌, ◌≤◌, Bool, true, length, sym, ap, ◌∙◌, arith}
use Rattle.std.proofs.lemmas.List.{length-map}
use Rattle.reshard.specs.declared.workflow.Stage.TheVariants.{Switched}
use Rattle.reshard.specs.Workflows.{WorkflowView}
use Rattle.reshard_create.specs.TargetSources.{TargetWithSources}
use Rattle.reshard.specs.Cutover.{retired, served, published, released}
use Rattle.reshard.proofs.workflow.Workflow.switch_after.Goals as goal

pub returns-then-self-len-clause-switched : goal.returns-then-self-len-clause-switched
returns-then-self-len-clause-switched g c =
    let h = c.retire_next.ensures.retired in
    let w = c.args.self.now in
    retired h.0 h.1 h.2 (c.retire_next.ensures.now ∙ ap (λ (b : Bool). record w { retired = w.retired + 1; prepared = b }) c.requires.prepared)

pub returns-then-self-len-2-clause-switched : goal.returns-then-self-len-2-clause-switched
returns-then-self-len-2-clause-switched g c =
    let h = c.serve_next.ensures.served in
    let w = c.args.self.now in
    let a = c.if-self-len.false in
    let b = c.len.ensures in
    let d = c.self.inside.sources.ok.0 in
    let e = length-map c.self.inside.sources.items (λ s. s.member.which) in
    let v = ap (λ (w : WorkflowView). length w.sources) c.self.view_is in
    let n = ap (λ (w : WorkflowView). w.retired) c.self.view_is in
    served h.0 h.1 (omega (arith, a, b, d, e, v, n)) h.2
    (c.serve_next.ensures.now ∙ ap (λ (b : Bool). record w { served = w.served + 1; prepared = b }) c.requires.prepared)

pub returns-then-not-self-clause-switched : goal.returns-then-not-self-clause-switched
returns-then-not-self-clause-switched g c =
    let w = c.args.self.now in
    let a = c.if-self-len.false in
    let b = c.len.ensures in
    let d = c.self.inside.sources.ok.0 in
    let e = length-map c.self.inside.sources.items (λ s. s.member.which) in
    let v = ap (λ (w : WorkflowView). length w.sources) c.self.view_is in
    let n = ap (λ (w : WorkflowView). w.retired) c.self.view_is in
    let a2 = c.if-self-len-2.false in
    let b2 = c.len-2.ensures in
    let d2 = c.self.inside.targets.ok.0 in
    let e2 = length-map {B = TargetWithSources} c.self.inside.targets.items (λ t. (t.member.which, Rattle.std.proofs.Common.map (λ s. s.which) t.sources.items)) in
    let v2 = ap (λ (w : WorkflowView). length w.targets) c.self.view_is in
    let n2 = ap (λ (w : WorkflowView). w.served) c.self.view_is in
    published (sym (ap (λ (w : WorkflowView). w.published) c.self.view_is) ∙ c.if-not-self.true) (omega (arith, a, b, d, e, v, n))
    (omega (arith, a2, b2, d2, e2, v2, n2)) (c.publish_next.ensures ∙ ap (λ (b : Bool). record w { prepared = b; published = true }) c.requires.prepared)

pub returns-clause-switched : goal.returns-clause-switched
returns-clause-switched g c =
    let w = c.args.self.now in
    let a = c.if-self-len.false in
    let b = c.len.ensures in
    let d = c.self.inside.sources.ok.0 in
    let e = length-map c.self.inside.sources.items (λ s. s.member.which) in
    let v = ap (λ (w : WorkflowView). length w.sources) c.self.view_is in
    let n = ap (λ (w : WorkflowView). w.retired) c.self.view_is in
    let a2 = c.if-self-len-2.false in
    let b2 = c.len-2.ensures in
    let d2 = c.self.inside.targets.ok.0 in
    let e2 = length-map {B = TargetWithSources} c.self.inside.targets.items (λ t. (t.member.which, Rattle.std.proofs.Common.map (λ s. s.which) t.sources.items)) in
    let v2 = ap (λ (w : WorkflowView). length w.targets) c.self.view_is in
    let n2 = ap (λ (w : WorkflowView). w.served) c.self.view_is in
    released (sym (ap (λ (w : WorkflowView). w.published) c.self.view_is) ∙ c.if-not-self.false) (omega (arith, a, b, d, e, v, n))
    (omega (arith, a2, b2, d2, e2, v2, n2))
    (ap (λ (v : WorkflowView). record v { stage = Switched }) c.self.view_is
    ∙ ap (λ (b : Bool). record w { stage = Switched; prepared = b }) c.requires.prepared)

pub returns-then-self-len-clause-alone : goal.returns-then-self-len-clause-alone
returns-then-self-len-clause-alone g c = let h = c.retire_next.ensures.retired in (h.0, h.1, h.3)

pub returns-then-self-len-2-clause-alone : goal.returns-then-self-len-2-clause-alone
returns-then-self-len-2-clause-alone g c = let h = c.serve_next.ensures.served in (h.0, h.1, h.3, h.4, h.5)
