use Rattle.std.specs.Sync.Mutex.{mutex_guard_value}
use Rattle.shard.proofs.Found.{found_past}
use Rattle.shard.proofs.locked.Shard.commit.Goals as goal

pub returns-clause-past : goal.returns-clause-past
returns-clause-past g c =
    found_past g.W.World.opening c.deref_mut.result.now (mutex_guard_value c.own_state-state.result) c.deref_mut.ensures.value
    c.own_state-state.ensures.past c.args.self.now.0 c.own_state-state.ensures.at.0 c.commit.new.self.seen c.commit.new.pass.seen
    c.commit.ensures.later c.commit.ensures.seen
