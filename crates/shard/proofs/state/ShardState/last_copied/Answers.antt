use Rattle.std.proofs.Common.{None, sym, ◌∙◌}
use Rattle.std.specs.Prelude.{option_copied}
use Rattle.shard_contents.proofs.Legality.{legal_is}
use Rattle.shard.proofs.Reaches.{by_last, end_by, end_none}
use Rattle.shard.proofs.state.ShardState.last_copied.Goals as goal

pub returns-in-Some : goal.returns-in-Some
returns-in-Some g c row =
    let o = g.W.World.opening in
    let v = c.args.self.now in
    by_last o v.seen v.shard c.args.source c.self.invariant.0.opens (legal_is o v.seen c.requires.legal) c.args.table row (option_copied c.row_of.result)
    (λ left. end_by o v.seen v.shard c.args.source c.in-Some.step.now c.in-Some.ensures c.args.table left ∙ sym c.row_of.ensures)

pub returns-in-None : goal.returns-in-None
returns-in-None g c row =
    let o = g.W.World.opening in
    let v = c.args.self.now in
    by_last o v.seen v.shard c.args.source c.self.invariant.0.opens (legal_is o v.seen c.requires.legal) c.args.table row None
    (λ left. end_none o v.seen v.shard c.args.source c.in-None.ensures c.args.table)
