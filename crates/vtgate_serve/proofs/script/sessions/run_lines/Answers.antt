use Rattle.std.proofs.Common.{◌∙◌}
use Rattle.vtgate_serve.proofs.script.Scripts.{none_run, one_run, all_run, shorter}
use Rattle.vtgate_serve.proofs.script.sessions.run_lines.Goals as goal

pub loop-line-init : goal.loop-line-init
loop-line-init g c = record { run = none_run _ _ _ _ c.args.sessions.now c.requires.first; home = c.requires.home }

pub loop-line-smaller : goal.loop-line-smaller
loop-line-smaller g c =
    let next = rw c.in-Some.is at c.next_line.ensures.found in
    shorter c.loop-line.rest.now c.in-Some.line.now c.in-Some.more.now next

pub loop-line-preserved : goal.loop-line-preserved
loop-line-preserved g c =
    let next = rw c.in-Some.is at c.next_line.ensures.found in
    let ran = c.in_ok-run_line.ensures.gives in
    record {
      run = one_run _ _ _ _ _ _ _ _ _ _ _ ran.0 _ _ c.loop-line.invariant.run next ran.1 ran.2;
      home = c.run_line.ensures.keyspace ∙ c.loop-line.invariant.home;
    }

pub returns : goal.returns
returns g c =
    let none = rw c.in_default.is at c.next_line.ensures.none in
    record { given = all_run _ _ _ _ _ _ _ _ c.loop-line.invariant.run none; fault = tt }
