use Rattle.std.proofs.Common.{◌≡◌, ◌+◌, ◌<◌, Some, length, not, ◌&&◌, ◌==◌, sym, ap, subst, ◌∙◌, arith}
use Rattle.std.specs.Prelude.{IfSome}
use Rattle.vschema.specs.declared.schema.VSchema.{VSchema}
use Rattle.shard_run.specs.Copies.{table_at, has_copied_all}
use Rattle.shard_contents.specs.inner.Rowed.{first_named}
use Rattle.shard.proofs.NextTables as next
use Rattle.shard.proofs.state.ShardState.first_unfinished.Goals as goal
use Rattle.shard.proofs.state.ShardState.first_unfinished.Goals.{then-is_unfinished, else-is_unfinished}

pub first_named-requires-clause-found : goal.first_named-requires-clause-found
first_named-requires-clause-found g c =
    subst (λ (v : VSchema). IfSome c.loop-n.found (λ m. m < length v.tables)) (sym c.requires.schema)
    (next.found_within g.W.World.opening c.args.self.now.seen c.args.self.now.shard c.args.source c.loop-n.n c.loop-n.found c.loop-n.invariant)

pub loop-n-preserved : goal.loop-n-preserved
loop-n-preserved g c =
    let o = g.W.World.opening in
    let v = c.args.self.now in
    let n = c.loop-n.n in
    let test = c.loop-n-test.true in
    let len = c.len-n-end.ensures in
    let long = ap (λ (s : VSchema). length s.tables) c.requires.schema in
    let told : c.is_unfinished.result ≡ next.is_unfinished o v.seen v.shard c.args.source n =
    c.is_unfinished.ensures
    ∙ ap (λ (s : VSchema). ((table_at s n).keyspace == v.shard.place.keyspace) && not (has_copied_all v.seen v.shard.slot c.args.source n)) c.requires.schema in
    elim c.if-is_unfinished.branch [
      | then-is_unfinished w ↦
          rw w.found-is
          (subst (λ k. next.SoFar o v.seen v.shard c.args.source (n + 1) (Some k))
          (sym (w.first_named.ensures ∙ ap (λ (s : VSchema). first_named s n c.loop-n.found) c.requires.schema))
          (next.found_next o v.seen v.shard c.args.source n c.loop-n.found (omega (arith, test, len, long)) (sym told ∙ w.if-is_unfinished.true) c.loop-n.invariant))
      | else-is_unfinished w ↦
          rw w.found-is (next.found_same o v.seen v.shard c.args.source n c.loop-n.found (sym told ∙ w.if-is_unfinished.false) c.loop-n.invariant)
    ]

pub returns : goal.returns
returns g c =
    let test = c.loop-n-test.false in
    let len = c.len-n-end.ensures in
    let long = ap (λ (s : VSchema). length s.tables) c.requires.schema in
    next.found_all g.W.World.opening c.args.self.now.seen c.args.self.now.shard c.args.source c.loop-n.n c.loop-n.found (omega (arith, test, len, long)) c.loop-n.invariant
