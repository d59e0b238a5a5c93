use Rattle.std.proofs.Common.{rules, sym, ap, subst, ◌∙◌}
use Rattle.shard_contents.specs.Entries.{ShardView}
use Rattle.std.proofs.lemmas.Result.{err_from_is_err_and}
use Rattle.std.specs.Sync.Mutex.{mutex_guard_value}
use Rattle.journal.specs.Views.{PassView}
use Rattle.shard_run.specs.declared.Entry.{Entry}
use Rattle.shard_contents.specs.Transactions as t
use Rattle.shard.specs.inner.Snapshots.{HasBegunIn}
use Rattle.shard.proofs.Found.{found_past}
use Rattle.shard.proofs.locked.Shard.read_in.Goals as goal

pub begin_read_in-begun-requires-clause-tied : goal.begin_read_in-begun-requires-clause-tied
begin_read_in-begun-requires-clause-tied g c =
    c.requires.tied c.deref_mut.result.now.shard (ap (λ (v : ShardView). v.shard.slot) c.deref_mut.ensures.value ∙ c.own_state-state.ensures.at.0)
    (ap (λ (v : ShardView). v.shard.place) c.deref_mut.ensures.value ∙ c.own_state-state.ensures.at.1)

pub returns-clause-past : goal.returns-clause-past
returns-clause-past g c =
    found_past g.W.World.opening c.deref_mut.result.now (mutex_guard_value c.own_state-state.result) c.deref_mut.ensures.value
    c.own_state-state.ensures.past c.args.self.now.0 c.own_state-state.ensures.at.0 c.begin_read_in-begun.new.self.seen c.begin_read_in-begun.new.pass.seen
    c.begin_read_in-begun.ensures.seen.seat (sym (ap (λ (x : PassView Entry). x.seen) c.begin_read_in-begun.ensures.pass))

pub returns-clause-read : goal.returns-clause-read
returns-clause-read g c =
    let o = g.W.World.opening in
    let s = c.deref_mut.result.now.shard in
    let e = c.begin_read_in-begun.ensures in
    let tx = c.args.tx.now in
    let q = c.args.query.now in
    let has =
    subst (λ (p : PassView Entry). HasBegunIn o s tx p.seen q c.in_ok-begun.field-0) (sym e.pass) c.in_ok-begun.ensures.begun in (
      s,
      search rules,
      ap (λ (v : ShardView). v.shard.slot) c.deref_mut.ensures.value ∙ c.own_state-state.ensures.at.0,
      ap (λ (v : ShardView). v.shard.place) c.deref_mut.ensures.value ∙ c.own_state-state.ensures.at.1,
      search rules,
      c.in_ok-reading.ensures.read o c.begin_read_in-begun.new.pass.seen s has,
    )

pub returns-in_err-reading-clause-read : goal.returns-in_err-reading-clause-read
returns-in_err-reading-clause-read g c =
    let p = err_from_is_err_and c.from_residual-in_err-reading.result c.from_residual-in_err-reading.ensures.1 in (
      c.deref_mut.result.now.shard,
      search rules,
      ap (λ (v : ShardView). v.shard.slot) c.deref_mut.ensures.value ∙ c.own_state-state.ensures.at.0,
      ap (λ (v : ShardView). v.shard.place) c.deref_mut.ensures.value ∙ c.own_state-state.ensures.at.1,
      search rules,
      rw (p.1, p.2) (t.no_memory, c.in_err-reading.ensures.unchanged),
    )
