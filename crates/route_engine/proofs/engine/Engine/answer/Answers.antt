use Rattle.std.proofs.Common.{[], inr}
use Rattle.shard_run.specs.Runs.{answers_queries}
use Rattle.shard_calls.proofs.Finding.{held_up_by, held_up_since}
use Rattle.shard_calls.proofs.Gathers.{stays}
use Rattle.route_engine.proofs.Selecting.{gone_on}
use Rattle.route_engine.proofs.Scattering.{scattered_after}
use Rattle.route_engine.proofs.engine.Engine.answer.Goals as goal

pub loop-init : goal.loop-init
loop-init g c = record { next = tt; finite = tt; tried = tt; gone = ([], stays _ _ c.requires.legal) }

pub answer_by-requires-clause-legal : goal.answer_by-requires-clause-legal
answer_by-requires-clause-legal g c κs within = c.loop.invariant.gone.1.legal

pub answer_by-requires-clause-fit : goal.answer_by-requires-clause-fit
answer_by-requires-clause-fit g c κs within = λ pieces reads now is.
    c.requires.fit pieces reads now (scattered_after _ _ _ _ _ _ c.loop.invariant.gone pieces reads is)

pub answer_by-requires-clause-order : goal.answer_by-requires-clause-order
answer_by-requires-clause-order g c κs within = λ pieces reads now is plain.
    c.requires.order pieces reads now (scattered_after _ _ _ _ _ _ c.loop.invariant.gone pieces reads is) plain

pub returns-in_err-answered-clause-gone : goal.returns-in_err-answered-clause-gone
returns-in_err-answered-clause-gone g c = gone_on _ _ _ _ c.loop.invariant.gone c.answer_by.ensures.gone

pub returns-in-Some-2-clause-gone : goal.returns-in-Some-2-clause-gone
returns-in-Some-2-clause-gone g c = gone_on _ _ _ _ c.loop.invariant.gone c.answer_by.ensures.gone

pub returns-in-Some-2-clause-ok : goal.returns-in-Some-2-clause-ok
returns-in-Some-2-clause-ok g c =
    let is = rw c.in-Some-2.is at c.in_ok-answered.ensures.ok in
    record {
      pieces = is.pieces;
      scattered = scattered_after _ _ _ _ _ _ c.loop.invariant.gone _ _ is.scattered;
      finished = is.finished;
    }

pub loop-preserved : goal.loop-preserved
loop-preserved g c = record { next = tt; finite = tt; tried = c.in-Ok.ensures.ok; gone = gone_on _ _ _ _ c.loop.invariant.gone c.answer_by.ensures.gone }

pub returns-in-Err-clause-gone : goal.returns-in-Err-clause-gone
returns-in-Err-clause-gone g c = gone_on _ _ _ _ c.loop.invariant.gone (gone_on _ _ _ _ c.answer_by.ensures.gone c.find_partition.ensures.gone)

pub returns-in-Err-clause-err : goal.returns-in-Err-clause-err
returns-in-Err-clause-err g c =
    let held = rw c.in_default.is at c.in_ok-answered.ensures.stalled in
    inr (
      c.into.ensures,
      held_up_since g.W.World.opening c.args.table.now c.args.plan.now.route answers_queries c.args.pass.now.seen c.loop.pass.seen c.find_partition.new.pass.seen
          c.loop.invariant.gone.1.later
          (held_up_by g.W.World.opening c.args.table.now c.args.plan.now.route answers_queries c.loop.pass.seen c.answer_by.new.pass.seen c.find_partition.new.pass.seen
          c.partition_to_try-partition.result.now c.answer_by.ensures.gone.1.later c.find_partition.ensures.gone.1.later held
          (c.find_partition.ensures.found _ c.partition_to_try-partition.ensures)),
    )
