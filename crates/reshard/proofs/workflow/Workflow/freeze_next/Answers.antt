use Rattle.std.proofs.Common.{ℕ, List, length, map, sym, ap, ◌∙◌, arith}
use Rattle.std.proofs.Math.Seq.{take_at}
use Rattle.std.proofs.lemmas.List.{length-map}
use Rattle.std.specs.Prelude.{slice_set}
use Rattle.reshard.specs.Workflows.{WorkflowView}
use Rattle.reshard.proofs.Nexts.{view_there, view_among, no_room_at}
use Rattle.reshard_create.proofs.Residual.{residual_same}
use Rattle.reshard.proofs.Switches.{on_refusal}
use Rattle.reshard.proofs.workflow.Workflow.freeze_next.Goals as goal

pub returns-in_err-stored-clause-err : goal.returns-in_err-stored-clause-err
returns-in_err-stored-clause-err g c =
    let s = c.index-source.result.now in
    residual_same c.from_residual.result c.in_err-stored.field-0.0 _ c.from_residual.ensures.1 (
      c.in_err-stored.ensures.full.0,
      (
        s.member.which,
        view_among (λ s. s.member.which) c.args.self.now.sources c.args.self.now.frozen c.self.inside.sources.items c.self.inside.frozen s
            (sym (ap (λ (w : WorkflowView). w.sources) c.self.view_is)) (sym (ap (λ (w : WorkflowView). w.frozen) c.self.view_is)) c.requires.some
            c.index-source.ensures,
        no_room_at g.W.World.opening s.member.which c.args.pass.now c.freeze.new.pass c.in_err-stored.ensures.onward c.in_err-stored.ensures.full.1,
      ),
    )

pub returns-in_err-stored-clause-looked : goal.returns-in_err-stored-clause-looked
returns-in_err-stored-clause-looked g c =
    let s = c.index-source.result.now in
    on_refusal c.from_residual.result _ (
      s.member.which,
      view_there (λ s. s.member.which) c.args.self.now.sources c.args.self.now.frozen c.self.inside.sources.items c.self.inside.frozen s
          (sym (ap (λ (w : WorkflowView). w.sources) c.self.view_is)) (sym (ap (λ (w : WorkflowView). w.frozen) c.self.view_is)) c.requires.some
          c.index-source.ensures,
      c.in_err-stored.ensures.refused,
    )

pub returns-clause-froze : goal.returns-clause-froze
returns-clause-froze g c =
    let a = ap length c.note_stored.ensures.shards in
    let b = length-map c.note_stored.new.sources (λ s. s.member.which) in
    let d = length-map c.as_mut_slice.result.now (λ s. s.member.which) in
    let e = ap length c.as_mut_slice.ensures.value in
    let f = c.self.inside.sources.ok.0 in
    let count =
    c.note_stored.ensures.stored
    ∙ ap (λ (l : List ℕ). slice_set l c.self.inside.frozen c.in_ok-stored.stored)
    (ap (map (λ s. s.stored)) c.as_mut_slice.ensures.value ∙ ap (λ (w : WorkflowView). w.stored) c.self.view_is)
    ∙ ap (λ (n : ℕ). slice_set c.args.self.now.stored n c.in_ok-stored.stored) (ap (λ (w : WorkflowView). w.frozen) c.self.view_is)
    ∙ ap (λ (n : ℕ). slice_set c.args.self.now.stored c.args.self.now.frozen n) c.in_ok-stored.ensures.stored in (
      c.index-source.result.now.member.which,
      view_there (λ s. s.member.which) c.args.self.now.sources c.args.self.now.frozen c.self.inside.sources.items c.self.inside.frozen c.index-source.result.now
          (sym (ap (λ (w : WorkflowView). w.sources) c.self.view_is)) (sym (ap (λ (w : WorkflowView). w.frozen) c.self.view_is)) c.requires.some
          c.index-source.ensures,
      c.in_ok-stored.ensures.ok,
      c.in_ok-stored.ensures.once,
      ap (map (λ s. s.stored)) (take_at c.note_stored.new.sources _ c.self.inside.sources.len (omega (arith, a, b, d, e, f))) ∙ count,
    )
