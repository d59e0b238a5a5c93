use Rattle.route_engine.proofs.Doing as d
use Rattle.shard_contents.proofs.Typed.{table_there}
use Rattle.route_engine.proofs.Sessions.{is_typed}
use Rattle.route_engine.proofs.Theirs.{query_there, query_joins}
use Rattle.route_engine.proofs.engine.Engine.step_in.Goals as goal

pub write_in-requires-clause-typed : goal.write_in-requires-clause-typed
write_in-requires-clause-typed g c κs within =
    let means = rw c.in-Write.is at c.requires.means in
    is_typed g.W.World.opening.schema means.0 c.in-Write.write means.1

pub write_in-requires-clause-there : goal.write_in-requires-clause-there
write_in-requires-clause-there g c κs within =
    let means = rw c.in-Write.is at c.requires.means in
    table_there g.W.World.opening.schema c.in-Write.write (is_typed g.W.World.opening.schema means.0 c.in-Write.write means.1)

pub select_in-requires-clause-there : goal.select_in-requires-clause-there
select_in-requires-clause-there g c κs within =
    let means = rw c.in-Select.is at c.requires.means in
    query_there g.W.World.opening.schema means.0 c.in-Select.query means.1

pub select_in-requires-clause-joins : goal.select_in-requires-clause-joins
select_in-requires-clause-joins g c κs within =
    let means = rw c.in-Select.is at c.requires.means in
    query_joins g.W.World.opening.schema means.0 c.in-Select.query means.1

pub returns-in-SetNames-clause-ok : goal.returns-in-SetNames-clause-ok
returns-in-SetNames-clause-ok g c =
    rw (c.in-SetNames.is, c.counted.ensures) (d.names_go g.W.World.opening g.W.World.limits c.args.pass.now c.requires.ready c.args.tx.now)

pub returns-in-Begin-clause-err : goal.returns-in-Begin-clause-err
returns-in-Begin-clause-err g c =
    rw c.in-Begin.is (d.begins_twice g.W.World.opening g.W.World.limits c.args.pass.now c.requires.ready c.args.tx.now)

pub returns-in-Rollback-clause-ok : goal.returns-in-Rollback-clause-ok
returns-in-Rollback-clause-ok g c =
    rw (c.in-Rollback.is, c.counted-in-Rollback.ensures) (d.rolls_back g.W.World.opening g.W.World.limits c.args.pass.now c.requires.ready c.args.tx.now)
