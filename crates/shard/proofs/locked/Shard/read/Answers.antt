use Rattle.shard.proofs.locked.Shard.read.Goals as goal

pub returns-clause-read : goal.returns-clause-read
returns-clause-read g c =
    let is = c.in_ok-begun.ensures.begun in (
      is.0,
      is.1,
      is.2,
      is.3,
      is.4,
      c.in_ok-outcome.ensures.read g.W.World.opening c.begin_read.new.pass.seen is.0 is.5,
    )
