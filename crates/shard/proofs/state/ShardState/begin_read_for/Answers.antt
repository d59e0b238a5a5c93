use Rattle.std.proofs.Common.{length, sym, ap, ◌∙◌, subst}
use Rattle.std.specs.Prelude.{IfOk}
use Rattle.journal.specs.Views.{IsLater}
use Rattle.shard_run.specs.declared.ShardRecord.{ShardRecord}
use Rattle.shard_run.specs.Runs.{entries_on}
use Rattle.shard_contents.specs.Legal.{IsOnItsSlot}
use Rattle.shard_contents.specs.Entries.{ShardView, MayFollow, slot_of, commit_of, seat_view}
use Rattle.shard.specs.BegunReads.{HasBegunRead}
use Rattle.shard.proofs.state.ShardState.begin_read_for.Goals as goal

pub begun-requires-clause-legal : goal.begun-requires-clause-legal
begun-requires-clause-legal g c = c.look_for-entries.ensures.seen.legal

pub begun-requires-clause-entries : goal.begun-requires-clause-entries
begun-requires-clause-entries g c =
    c.look_for-entries.ensures.count
    ∙ ap (λ (s : ShardRecord). length (entries_on s.slot c.look_for-entries.new.self.seen)) (sym c.look_for-entries.ensures.shard)

pub returns-clause-seen : goal.returns-clause-seen
returns-clause-seen g c =
    subst (λ (v : ShardView). IsLater slot_of commit_of (MayFollow g.W.World.opening) (seat_view c.args.self.now) c.args.pass.now v.seen)
    (sym c.begun.ensures.unchanged) c.look_for-entries.ensures.seen

pub returns-clause-begun : goal.returns-clause-begun
returns-clause-begun g c =
    let o = g.W.World.opening in
    let r = c.begun.result in
    let q = c.args.query.now in
    subst (λ (v : ShardView). IfOk r (HasBegunRead o v.seen c.args.self.now.shard q)) (sym c.begun.ensures.unchanged)
    (subst (λ (s : ShardRecord). IfOk r (HasBegunRead o c.look_for-entries.new.self.seen s q)) c.look_for-entries.ensures.shard c.begun.ensures.begun)

pub returns-clause-stands : goal.returns-clause-stands
returns-clause-stands g c =
    subst (λ (v : ShardView). IsOnItsSlot g.W.World.opening v.seen c.args.self.now.shard) (sym c.begun.ensures.unchanged) c.look_for-entries.ensures.stands
