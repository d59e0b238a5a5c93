use Rattle.std.proofs.Common.{Some, None, ap, sym, subst, length, ◌<◌}
use Rattle.shard_contents.specs.Transactions.{PendingView}
use Rattle.shard_contents.specs.Writes.{written_table}
use Rattle.shard_contents.proofs.Typed.{table_there}
use Rattle.vschema.specs.declared.schema.VSchema.{VSchema}
use Rattle.route_engine.proofs.Theirs.{query_there, query_joins}
use Rattle.route_engine.proofs.Sessions.{is_typed}
use Rattle.route_engine.proofs.Leading as l
use Rattle.route_engine.proofs.engine.Engine.alone.Goals as goal

pub returns-in-Select-clause-ok : goal.returns-in-Select-clause-ok
returns-in-Select-clause-ok g c =
    rw c.in-Select.is (l.selects_alone g.W.World.opening g.W.World.limits c.args.pass.now c.select.new.pass c.args.tx.now c.requires.closed c.in-Select.query c.select.result c.select.ensures.ok)

pub returns-in-Select-clause-err : goal.returns-in-Select-clause-err
returns-in-Select-clause-err g c =
    rw c.in-Select.is (l.not_selected_alone g.W.World.opening g.W.World.limits c.args.pass.now c.select.new.pass c.args.tx.now c.requires.closed c.in-Select.query c.select.result c.select.ensures.err)

pub returns-in-Write-clause-ok : goal.returns-in-Write-clause-ok
returns-in-Write-clause-ok g c =
    rw c.in-Write.is (l.writes_alone g.W.World.opening g.W.World.limits c.args.pass.now c.write.new.pass c.args.tx.now c.requires.closed c.in-Write.write c.write.result c.write.ensures.ok)

pub returns-in-Write-clause-err : goal.returns-in-Write-clause-err
returns-in-Write-clause-err g c =
    rw c.in-Write.is (l.not_written_alone g.W.World.opening g.W.World.limits c.args.pass.now c.write.new.pass c.args.tx.now c.requires.closed c.in-Write.write c.write.result c.write.ensures.err)

pub returns-in-Begin-clause-ok : goal.returns-in-Begin-clause-ok
returns-in-Begin-clause-ok g c =
    rw (c.in-Begin.is, c.counted.ensures) (l.begins_alone g.W.World.opening g.W.World.limits c.args.pass.now _ c.requires.legal (ap (λ (x : PendingView). Some (l.opened_with None x)) c.new.ensures))

pub returns-in-SetNames-clause-ok : goal.returns-in-SetNames-clause-ok
returns-in-SetNames-clause-ok g c =
    rw (c.in-SetNames.is, c.counted-in-SetNames.ensures) (l.names_alone g.W.World.opening g.W.World.limits c.args.pass.now c.args.tx.now c.requires.closed)

pub returns-in-Commit-clause-ok : goal.returns-in-Commit-clause-ok
returns-in-Commit-clause-ok g c =
    rw (c.in-Commit.is, c.counted-in-Commit.ensures) (l.commits_alone g.W.World.opening g.W.World.limits c.args.pass.now c.args.tx.now c.requires.closed)

pub returns-in-Rollback-clause-ok : goal.returns-in-Rollback-clause-ok
returns-in-Rollback-clause-ok g c =
    rw (c.in-Rollback.is, c.counted-in-Rollback.ensures) (l.rolls_back_alone g.W.World.opening g.W.World.limits c.args.pass.now c.args.tx.now c.requires.closed)

pub write-requires-clause-typed : goal.write-requires-clause-typed
write-requires-clause-typed g c κs within =
    let means = rw c.in-Write.is at c.requires.means in
    is_typed g.W.World.opening.schema means.0 c.in-Write.write means.1

pub write-requires-clause-there : goal.write-requires-clause-there
write-requires-clause-there g c κs within =
    let means = rw c.in-Write.is at c.requires.means in
    subst (λ (v : VSchema). written_table c.in-Write.write < length v.tables) (sym c.requires.served)
    (table_there g.W.World.opening.schema c.in-Write.write (is_typed g.W.World.opening.schema means.0 c.in-Write.write means.1))

pub select-requires-clause-there : goal.select-requires-clause-there
select-requires-clause-there g c κs within =
    let means = rw c.in-Select.is at c.requires.means in
    subst (λ (v : VSchema). c.in-Select.query.table < length v.tables) (sym c.requires.served) (query_there g.W.World.opening.schema means.0 c.in-Select.query means.1).0

pub select-requires-clause-joins : goal.select-requires-clause-joins
select-requires-clause-joins g c κs within =
    let means = rw c.in-Select.is at c.requires.means in
    query_joins g.W.World.opening.schema means.0 c.in-Select.query means.1
