use Rattle.std.proofs.Common.{◌≡◌, ◌∙◌, [], rules}
use Rattle.shard_calls.specs.Plans.{planned}
use Rattle.shard_calls.specs.Routes.{route_of}
use Rattle.shard_calls.proofs.Gathers.{stays}
use Rattle.route_engine.proofs.Scattering.{of_keyspace}
use Rattle.route_engine.proofs.Points.{finished_alone}
use Rattle.route_engine.proofs.engine.Engine.answer_point.Goals as goal

pub returns-in_err-route-clause-gone : goal.returns-in_err-route-clause-gone
returns-in_err-route-clause-gone g c = ([], stays _ _ c.requires.legal)

pub returns-in_default-clause-gone : goal.returns-in_default-clause-gone
returns-in_default-clause-gone g c = ([], stays _ _ c.requires.legal)

pub returns-in_default-lone_part-clause-gone : goal.returns-in_default-lone_part-clause-gone
returns-in_default-lone_part-clause-gone g c = ([], stays _ _ c.requires.legal)

pub returns-in-Some-2-clause-ok : goal.returns-in-Some-2-clause-ok
returns-in-Some-2-clause-ok g c =
    let o = g.W.World.opening in
    let t = c.args.table.now in
    let q = c.args.query.now in
    let plain : c.is_plain.result ≡ Rattle.std.proofs.Common.true = search rules in
    let route : c.in-Some.route ≡ route_of t q.join q.filter = rw c.in-Some.is at c.in_ok-route.ensures.ok in
    let piece = rw c.in-Some.is at c.in_ok-route.ensures.piece in
    let only = rw (c.in-Some-lone_part.is, route, c.parts.ensures.seats) at c.lone_part.ensures in
    let read = rw c.in-Some-2.is at c.in_ok-gathered.ensures.ok in
    let done = rw c.as_slice.ensures at c.is_answer.ensures c.if-is_answer.true in
    finished_alone o t q c.args.pass.now c.read_alone.new.pass c.in-Some-2.gathered.rows c.in-Some-2.gathered.reads
    (read t (planned t q) _
    (record {
      partition = c.parts.ensures.partition;
      keyspace = of_keyspace t.keyspace t _ _ c.in-Some-lone_part.part.now c.current.ensures only;
      alone = only;
      piece = piece c.in-Some-lone_part.part.now.1;
    }))
    done
