use Rattle.std.proofs.Common.{sym, ap}
use Rattle.std.specs.Sync.Mutex.{mutex_guard_value}
use Rattle.journal.specs.Views.{PassView}
use Rattle.shard_run.specs.declared.Entry.{Entry}
use Rattle.shard.proofs.Found.{found_past}
use Rattle.shard.proofs.locked.Shard.begin_read_for.Goals as goal

pub returns-clause-past : goal.returns-clause-past
returns-clause-past g c =
    found_past g.W.World.opening c.deref_mut.result.now (mutex_guard_value c.own_state-state.result) c.deref_mut.ensures.value
    c.own_state-state.ensures.past c.args.self.now.0 c.own_state-state.ensures.at.0 c.begin_read_for.new.self.seen c.begin_read_for.new.pass.seen
    c.begin_read_for.ensures.seen.seat (sym (ap (λ (x : PassView Entry). x.seen) c.begin_read_for.ensures.pass))
