use Rattle.std.proofs.Common.{rules, ap}
use Rattle.connection_workers.proofs.Letting.{none_let_in, one_let_in}
use Rattle.connection_workers.proofs.pool.let_all_in.Goals as goal

pub loop-init : goal.loop-init
loop-init g c = record { puts = c.requires.puts; of = c.requires.of; let_in = none_let_in _ _ _; next = search rules }

pub loop-preserved : goal.loop-preserved
loop-preserved g c = record {
  puts = c.put.ensures.puts;
  of = c.put.ensures.of;
  let_in = one_let_in _ _ _ _ _ _ _ _ c.loop.invariant.let_in c.in-Some-next.ensures.given (ap (λ v. v.put) c.put.ensures.put);
  next = search rules;
}
