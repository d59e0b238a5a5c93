use Rattle.std.proofs.Common.{◌==◌, ap, sym, ◌∙◌}
use Rattle.std.proofs.lemmas.Bool.{eq-eqb, ne_eqb}
use Rattle.shard_run.specs.declared.ShardRecord.{ShardRecord}
use Rattle.route_engine.specs.Seats.{seat_of}
use Rattle.admin.proofs.router.Empty.{kept_more, kept_same, same_at}
use Rattle.admin.proofs.router.setup.keyspace_parts.Goals as goal
use Rattle.admin.proofs.router.setup.keyspace_parts.Goals.{then-shard-keyspace+in_ok-try_clone+in_ok-push, else-shard-keyspace}

pub loop-i-preserved : goal.loop-i-preserved
loop-i-preserved g c = elim c.if-shard-keyspace.branch [
  | then-shard-keyspace+in_ok-try_clone+in_ok-push w ↦
      ap (λ v. v.items) w.parts-is ∙ w.in_ok-push.ensures.items
      ∙ cc (
        c.loop-i.invariant,
        w.new.ensures,
        w.in_ok-try_clone.ensures,
        same_at (λ h. h.value) seat_of c.args.held.now c.args.shards.now c.requires.held c.loop-i.i w.index-held-i.result c.index-shards-i.result
            c.loop-i-test.true w.index-held-i.is c.index-shards-i.is,
        kept_more seat_of (λ (s : ShardRecord). s.place.keyspace == c.args.keyspace) c.args.shards.now c.loop-i.i c.index-shards-i.result c.loop-i-test.true
            c.index-shards-i.is (eq-eqb c.index-shards-i.result.place.keyspace c.args.keyspace w.if-shard-keyspace.true),
      )
  | else-shard-keyspace w ↦
      ap (λ v. v.items) w.parts-is ∙ c.loop-i.invariant
      ∙ sym (kept_same seat_of (λ (s : ShardRecord). s.place.keyspace == c.args.keyspace) c.args.shards.now c.loop-i.i c.index-shards-i.result c.loop-i-test.true
      c.index-shards-i.is (ne_eqb c.index-shards-i.result.place.keyspace c.args.keyspace w.if-shard-keyspace.false))
]
