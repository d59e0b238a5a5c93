use Rattle.std.proofs.Common.{[], sym, ◌∙◌}
use Rattle.shard_calls.proofs.Gathers.{stays}
use Rattle.route_engine.proofs.Scattering.{of_keyspace, some_too, none_too}
use Rattle.route_engine.proofs.engine.Engine.ask_alone.Goals as goal

pub returns-in_err-piece-clause-gone : goal.returns-in_err-piece-clause-gone
returns-in_err-piece-clause-gone g c = ([], stays _ _ c.requires.legal)

pub returns-clause-ok : goal.returns-clause-ok
returns-clause-ok g c =
    some_too _ _
    (λ x to.
    to c.args.read.now.table.now c.args.read.now.plan.now _
    (record {
      partition = c.parts.ensures.partition;
      keyspace = of_keyspace c.args.read.now.table.now.keyspace c.args.read.now.table.now c.args.read.now.plan.now.route c.args.read.now.partition.now c.args.part.now c.requires.partition c.requires.needed;
      alone = c.requires.needed;
      piece = sym (c.get.ensures ∙ rw c.range.ensures at c.in_ok-piece.ensures.ok);
    }))
    c.read_alone.result c.read_alone.ensures.ok

pub returns-clause-stalled : goal.returns-clause-stalled
returns-clause-stalled g c =
    none_too _ _
    (λ to.
    to c.args.read.now.table.now c.args.read.now.plan.now _
    (record {
      partition = c.parts.ensures.partition;
      keyspace = of_keyspace c.args.read.now.table.now.keyspace c.args.read.now.table.now c.args.read.now.plan.now.route c.args.read.now.partition.now c.args.part.now c.requires.partition c.requires.needed;
      alone = c.requires.needed;
      piece = sym (c.get.ensures ∙ rw c.range.ensures at c.in_ok-piece.ensures.ok);
    }))
    c.read_alone.result c.read_alone.ensures.stalled
