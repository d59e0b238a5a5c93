use Rattle.std.proofs.Common.{rules, ◌∷◌, [], ◌++◌, ap, ◌∙◌}
use Rattle.crossbeam_queue.specs.Passes.{view}
use Rattle.connection_workers.proofs.Letting.{none_begun, one_begun, all_begun}
use Rattle.connection_workers.proofs.pool.serve_turns.Goals as goal

pub loop-init : goal.loop-init
loop-init g c = record { takes = c.requires.takes; of = c.requires.of; begun = none_begun _ _; next = search rules }

pub loop-preserved : goal.loop-preserved
loop-preserved g c = record {
  takes = c.next_job.ensures.takes;
  of = c.next_job.ensures.of;
  begun = one_begun _ _ (view c.loop.pass).own _ c.in-Serve.connection c.loop.invariant.begun
      (c.next_job.ensures.taken.own ∙ ap (λ job. (view c.loop.pass).own ++ job ∷ []) c.in-Serve.is) c.admit.ensures.begun;
  next = search rules;
}

pub returns-in-Stop : goal.returns-in-Stop
returns-in-Stop g c = record {
  begun = all_begun _ _ (view c.loop.pass).own _ c.loop.invariant.begun
      (c.next_job.ensures.taken.own ∙ ap (λ job. (view c.loop.pass).own ++ job ∷ []) c.in-Stop.is);
}
