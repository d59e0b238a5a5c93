use Rattle.shard.specs.Seats.{place_at}
use Rattle.shard_calls.proofs.Looking.{both_ways}
use Rattle.shard_calls.proofs.scatter.read_all.Goals as goal

pub returns : goal.returns
returns g c = record {
  ok = both_ways (λ job. record { slot = job.shard.now.0; place = place_at job.shard.now; query = job.query; pass = job.pass })
      (λ l. record { slot = l.slot; query = l.query; pass = l.pass; begun = l.begun }) (λ d. record { slot = d.slot; pass = d.pass; outcome = d.outcome })
      g.W.World.opening c.args.jobs.items c.in_ok-looked.looked.items c.in_ok-done.done.items c.in_ok-looked.ensures.ok c.in_ok-done.ensures.ok;
}
