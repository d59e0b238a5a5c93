use Rattle.std.proofs.Common.{◌≡◌, [], ap, sym, subst, ◌∙◌, refl}
use Rattle.vt_value.specs.declared.refusal.Refusal.TheVariants.{BufferFull}
use Rattle.vschema.specs.declared.changes.Write.{Write}
use Rattle.shard_contents.specs.Writes.{written_table}
use Rattle.shard_calls.specs.Routes.{table_at, write_route}
use Rattle.shard_calls.specs.Answers as a
use Rattle.shard_calls.proofs.Finding.{held_up_by}
use Rattle.shard_calls.proofs.Gathers.{stays}
use Rattle.serving.specs.Partitions.{AreOf}
use Rattle.vschema.specs.declared.schema.Table.{Table}
use Rattle.route_engine.proofs.Selecting.{gone_on}
use Rattle.route_engine.proofs.Trying as w
use Rattle.route_engine.proofs.engine.Engine.commit_until.Goals as goal

pub loop-init : goal.loop-init
loop-init g c = record { next = tt; finite = tt; tried = tt; gone = ([], stays _ _ c.requires.legal); same = refl }

pub commit-requires-clause-table : goal.commit-requires-clause-table
commit-requires-clause-table g c κs within =
    c.requires.table ∙ ap (λ (w : Write). table_at g.W.World.opening.schema (written_table w)) (sym c.loop.invariant.same)

pub commit-requires-clause-route : goal.commit-requires-clause-route
commit-requires-clause-route g c κs within = c.requires.route ∙ ap (write_route g.W.World.opening.schema) (sym c.loop.invariant.same)

pub commit-requires-clause-typed : goal.commit-requires-clause-typed
commit-requires-clause-typed g c κs within =
    subst (Rattle.vschema.specs.TypedWrites.IsTypedWrite g.W.World.opening.schema) (sym c.loop.invariant.same) c.requires.typed

pub returns-in-Ok-Done-clause-ok : goal.returns-in-Ok-Done-clause-ok
returns-in-Ok-Done-clause-ok g c =
    let done = rw c.loop.invariant.same at c.in-Ok-Done.ensures.ok in
    w.written_after g.W.World.opening g.W.World.limits c.args.write c.args.pass.now c.loop.pass c.commit.new.pass c.loop.invariant.gone c.in-Ok-Done.count
    (w.is_written g.W.World.opening g.W.World.limits c.args.write c.in-Ok-Done.count c.partition_to_try-partition.result.now c.loop.pass c.commit.new.pass c.in-Ok-Done.field-0 c.in-Ok-Done.field-0-is done)

pub returns-in-Err-clause-err : goal.returns-in-Err-clause-err
returns-in-Err-clause-err g c =
    let why = rw c.loop.invariant.same at c.in-Err.ensures.err in
    w.refused_after g.W.World.opening g.W.World.limits c.args.write c.args.pass.now c.loop.pass c.commit.new.pass c.loop.invariant.gone _ why

pub returns-in-Err-next_attempt-clause-err : goal.returns-in-Err-next_attempt-clause-err
returns-in-Err-next_attempt-clause-err g c =
    let done = rw c.loop.invariant.same at c.in-Ok-Again.ensures.ok in
    let back = w.came_back g.W.World.opening g.W.World.limits c.args.write c.in-Ok-Again.again c.partition_to_try-partition.result.now c.loop.pass c.commit.new.pass c.in-Ok-Again.field-0 c.in-Ok-Again.field-0-is done in
    let is : c.into.result ≡ BufferFull = c.into.ensures in
    let home = subst (λ (t : Table). AreOf t.keyspace c.partition_to_try-partition.result.now) c.requires.table c.partition_to_try-partition.ensures in
    let held = held_up_by g.W.World.opening (table_at g.W.World.opening.schema (written_table c.args.write)) (write_route g.W.World.opening.schema c.args.write)
    a.is_writable c.loop.pass.seen c.commit.new.pass.seen c.find_partition.new.pass.seen c.partition_to_try-partition.result.now back.gone.1.later
    c.find_partition.ensures.gone.1.later back.held (c.find_partition.ensures.found _ home) in
    rw is
    (w.refused_after g.W.World.opening g.W.World.limits c.args.write c.args.pass.now c.loop.pass c.find_partition.new.pass c.loop.invariant.gone _
    (a.buffer_full (gone_on _ _ _ _ back.gone c.find_partition.ensures.gone) held))

pub find_partition-requires : goal.find_partition-requires
find_partition-requires g c =
    let done = rw c.loop.invariant.same at c.in-Ok-Again.ensures.ok in
    let back = w.came_back g.W.World.opening g.W.World.limits c.args.write c.in-Ok-Again.again c.partition_to_try-partition.result.now c.loop.pass c.commit.new.pass c.in-Ok-Again.field-0 c.in-Ok-Again.field-0-is done in
    record { legal = back.gone.1.legal }

pub loop-preserved : goal.loop-preserved
loop-preserved g c =
    let done = rw c.loop.invariant.same at c.in-Ok-Again.ensures.ok in
    let back = w.came_back g.W.World.opening g.W.World.limits c.args.write c.in-Ok-Again.again c.partition_to_try-partition.result.now c.loop.pass c.commit.new.pass c.in-Ok-Again.field-0 c.in-Ok-Again.field-0-is done in
    record { next = tt; finite = tt; tried = c.in-Ok.ensures.ok; gone = gone_on _ _ _ _ c.loop.invariant.gone back.gone; same = back.same }
