use Rattle.std.proofs.Common.{ap, ◌∙◌}
use Rattle.shard_contents.specs.Entries.{ShardView}
use Rattle.std.specs.Sync.Mutex.{mutex_guard_value}
use Rattle.shard.proofs.Found.{found_past}
use Rattle.shard.proofs.locked.Shard.commit_in.Goals as goal

pub commit_in-requires-clause-tied : goal.commit_in-requires-clause-tied
commit_in-requires-clause-tied g c =
    c.requires.tied c.deref_mut.result.now.shard (ap (λ (v : ShardView). v.shard.slot) c.deref_mut.ensures.value ∙ c.own_state-state.ensures.at.0)
    (ap (λ (v : ShardView). v.shard.place) c.deref_mut.ensures.value ∙ c.own_state-state.ensures.at.1)

pub returns-clause-past : goal.returns-clause-past
returns-clause-past g c =
    found_past g.W.World.opening c.deref_mut.result.now (mutex_guard_value c.own_state-state.result) c.deref_mut.ensures.value
    c.own_state-state.ensures.past c.args.self.now.0 c.own_state-state.ensures.at.0 c.commit_in.new.self.seen c.commit_in.new.pass.seen
    c.commit_in.ensures.later c.commit_in.ensures.seen
