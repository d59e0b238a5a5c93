use Rattle.std.proofs.Common.{◌≡◌, ◌∷◌, ◌+◌, Bool, true, false, drop, ◌∙◌, ap, sym, arith}
use Rattle.std.proofs.lemmas.List.{drop_more}
use Rattle.journal.specs.Views.{PassView}
use Rattle.planner.specs.Routes.{takes}
use Rattle.shard.specs.Seats.{place_at}
use Rattle.shard_calls.specs.inner.Scatter.{asked}
use Rattle.shard_calls.proofs.Taken.{asked_pushed, skipped_next, numbered_pushed}
use Rattle.shard_calls.proofs.scatter.jobs.Goals as goal
use Rattle.shard_calls.proofs.scatter.jobs.Goals.{then-takes_by+in_ok-job_for+in_ok-push, else-takes_by}

next : (g : _) (c : goal.Joined-takes_by g)
    → drop c.loop-part.part-index c.args.parts.now ≡ c.part-item.result ∷ drop (c.loop-part.part-index + 1) c.args.parts.now
next g c =
    drop_more c.args.parts.now c.loop-part.part-index c.part-item.result (omega (arith, c.loop-part-test.true))
    ∙ ap (λ x. x ∷ drop (c.loop-part.part-index + 1) c.args.parts.now) (sym c.part-item.is)

tested : (g : _) (c : goal.Joined-takes_by g) (b : Bool) → c.takes_by.result ≡ b → takes c.args.table.now c.args.plan.now.route c.part-item.result.1 ≡ b
tested g c b is = ap (takes c.args.table.now c.args.plan.now.route) (sym c.range.ensures) ∙ sym c.takes_by.ensures ∙ is

pub loop-part-preserved : goal.loop-part-preserved
loop-part-preserved g c = elim c.if-takes_by.branch [
  | then-takes_by+in_ok-job_for+in_ok-push w ↦ (
    w.pass-is ∙ w.job_for.ensures.same ∙ c.loop-part.invariant.0,
    asked_pushed (λ job. record { slot = job.shard.now.0; place = place_at job.shard.now; query = job.query; pass = job.pass }) c.args.table.now c.args.plan.now
        c.args.pass.now.seen _ _ c.part-item.result (next g c) c.loop-part.jobs.items c.if-takes_by.jobs.items w.in_ok-job_for.field-0
        (ap (λ v. v.items) w.jobs-is ∙ w.in_ok-push.ensures.items)
        (w.in_ok-job_for.ensures.asks
        ∙ ap (λ (v : PassView _). asked c.args.table.now c.args.plan.now v.seen c.part-item.result) c.loop-part.invariant.0)
        (tested g c true w.if-takes_by.true) _ c.loop-part.invariant.1,
    numbered_pushed (λ job. job.turn) c.loop-part.jobs.items c.if-takes_by.jobs.items w.in_ok-job_for.field-0
        (ap (λ v. v.items) w.jobs-is ∙ w.in_ok-push.ensures.items) (w.in_ok-job_for.ensures.turn ∙ w.len-turn.ensures ∙ c.loop-part.jobs.ok.0) c.loop-part.invariant.2,
  )
  | else-takes_by w ↦ (
    w.pass-is ∙ c.loop-part.invariant.0,
    rw w.jobs-is (skipped_next c.args.table.now c.args.plan.now c.args.pass.now.seen _ _ c.part-item.result (next g c) _ _
        c.loop-part.invariant.1 (tested g c false w.if-takes_by.false)),
    rw w.jobs-is c.loop-part.invariant.2,
  )
]
