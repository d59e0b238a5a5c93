use Rattle.std.proofs.Common.{◌≡◌, true, false, sym, ◌∙◌}
use Rattle.std.proofs.lemmas.Bool.{false≢true}
use Rattle.shard_contents.specs.inner.LastChanges.{tells_conflict}
use Rattle.shard_contents.proofs.Looks.{clear_seen, conflict_seen, moved_seen}
use Rattle.shard.proofs.state.ShardState.check.Goals as goal

pub returns-then-not-takes-clause-err : goal.returns-then-not-takes-clause-err
returns-then-not-takes-clause-err g c =
    moved_seen g.W.World.opening g.W.World.limits c.self.inside.seat c.self.inside.contents c.self.invariant.0 c.args.tx.now _ c.self.view_is c.args.self.now.shard
    c.look-entries.ensures.shard (λ is. false≢true (sym c.if-not-takes.true ∙ c.takes.ensures.1 is))

pub returns-then-is_conflict-clause-err : goal.returns-then-is_conflict-clause-err
returns-then-is_conflict-clause-err g c =
    let found : tells_conflict c.self.inside.contents.stored.log.last c.args.tx.now.touched ≡ true = sym c.is_conflict.ensures ∙ c.if-is_conflict.true in
    conflict_seen g.W.World.opening g.W.World.limits c.self.inside.seat c.self.inside.contents c.self.invariant.0 c.args.tx.now _ c.self.view_is c.args.self.now.shard
    c.look-entries.ensures.shard (c.takes.ensures.0 c.if-not-takes.false) found

pub returns-clause-clear : goal.returns-clause-clear
returns-clause-clear g c =
    let none : tells_conflict c.self.inside.contents.stored.log.last c.args.tx.now.touched ≡ false = sym c.is_conflict.ensures ∙ c.if-is_conflict.false in
    clear_seen g.W.World.opening g.W.World.limits c.self.inside.seat c.self.inside.contents c.self.invariant.0 c.args.tx.now _ c.self.view_is c.args.self.now.shard
    c.look-entries.ensures.shard (c.takes.ensures.0 c.if-not-takes.false) none
