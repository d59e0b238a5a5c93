use Rattle.route_engine.proofs.Homes.{home}
use Rattle.route_engine.proofs.engine.Engine.first_bound.Goals as goal

pub to_part-requires-clause-part : goal.to_part-requires-clause-part
to_part-requires-clause-part g c =
    home c.args.routed.now.table.now c.args.routed.now.route.now c.parts.result.now c.args.partition.now c.parts.ensures.seats c.requires.home
    c.in-Some.part.now (rw c.in-Some.is at c.in_ok-part.ensures.ok)
