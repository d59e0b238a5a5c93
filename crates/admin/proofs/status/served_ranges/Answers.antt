use Rattle.std.proofs.Common.{ℕ, sym, ap, subst, ◌∙◌}
use Rattle.std.proofs.lemmas.Result.{IfOk-weaker}
use Rattle.serving.specs.Partitions.{AreOf, ranges}
use Rattle.admin.specs.AdminAnswers.{replacing, partition}
use Rattle.admin.proofs.status.served_ranges.Goals as goal

pub returns-then-has_workflow : goal.returns-then-has_workflow
returns-then-has_workflow g c =
    record {
      ok = IfOk-weaker c.served_ranges.result _ _ (λ r h. replacing (λ e. c.has_workflow.ensures.yes c.if-has_workflow.true (c.stage.ensures ∙ e)) h)
          c.served_ranges.ensures.ok;
    }

pub returns : goal.returns
returns g c =
    record {
      ok = (let seats = c.current.result.now in
          IfOk-weaker c.ranges_of.result _ _
          (λ r h. partition (sym c.stage.ensures ∙ c.has_workflow.ensures.no c.if-has_workflow.false) seats c.parts.ensures.partition
          (subst (λ (k : ℕ). AreOf k seats) c.requires.home c.current.ensures) (h ∙ ap ranges c.parts.ensures.seats)) c.ranges_of.ensures.ok);
    }
