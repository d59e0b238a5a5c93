use Rattle.std.proofs.Common.{ℕ, ◌==◌, ◌<◌, ◌++◌, ◌∷◌, [], List, length, map, filter, subst, sym, ap, ◌∙◌, arith}
use Rattle.std.specs.List.{range_with_len}
use Rattle.shard_run.specs.declared.ShardRecord.{ShardRecord}
use Rattle.serving.specs.Partitions.{IsPartition}
use Rattle.route_engine.specs.Seats.{seat_of}
use Rattle.route_engine.proofs.Openings.{partition_at, of_keyspace}
use Rattle.admin.proofs.router.Empty.{one_number_more}
use Rattle.admin.proofs.router.setup.opening_keyspaces.Goals as goal

pub new-opening-requires : goal.new-opening-requires
new-opening-requires g c =
    let below : c.loop-keyspace.keyspace < length g.W.World.opening.schema.keyspaces =
    let h = c.loop-keyspace-test.true in let k = c.requires.each in omega (arith, h, k) in
    rw c.in_ok-parts.ensures.ok
    (record {
      partition =
          subst (λ (shards : List ShardRecord). IsPartition (map seat_of (filter (λ (s : ShardRecord). s.place.keyspace == c.loop-keyspace.keyspace) shards)))
          c.requires.opening (partition_at g.W.World.opening c.requires.opens c.loop-keyspace.keyspace below);
      keyspace = of_keyspace c.loop-keyspace.keyspace c.args.shards.now;
    })

pub new-requires : goal.new-requires
new-requires g c = rw c.new-opening.ensures (rw c.in_ok-parts.ensures.ok (of_keyspace c.loop-keyspace.keyspace c.args.shards.now))

pub loop-keyspace-preserved : goal.loop-keyspace-preserved
loop-keyspace-preserved g c =
    c.in_ok-push.ensures.items ∙ ap (λ (l : List ℕ). l ++ c.in_ok-new.field-0 ∷ []) c.loop-keyspace.invariant
    ∙ ap (λ (n : ℕ). range_with_len 0 c.loop-keyspace.keyspace ++ n ∷ []) c.in_ok-new.ensures ∙ sym (one_number_more c.loop-keyspace.keyspace)
