use Rattle.std.proofs.Common.{rules, IsSome, arith}
use Rattle.std.specs.Map.{lookup}
use Rattle.std.specs.BTreeMap.{is_at}
use Rattle.row_chunks.specs.Chunks.{changeable_in}
use Rattle.row_chunks.proofs.Counts.{count_removed}
use Rattle.row_chunks.proofs.map.ChunkMap.remove.Goals as goal

pub overflow_sub-self : goal.overflow_sub-self
overflow_sub-self g c =
    let h : IsSome (lookup (is_at (g.K.Ord.cmp c.args.key.now)) (changeable_in c.self.inside.own c.self.inside.shared)) = search rules in
    let e = count_removed g.met.K.Ord.total c.self.inside.own c.remove.new.self c.self.inside.shared (is_at (g.K.Ord.cmp c.args.key.now)) c.self.inside.count h c.remove.ensures c.self.invariant.0 in
    omega (arith, e)

pub invariant_of-self : goal.invariant_of-self
invariant_of-self g c =
    let h : IsSome (lookup (is_at (g.K.Ord.cmp c.args.key.now)) (changeable_in c.self.inside.own c.self.inside.shared)) = search rules in
    let e = count_removed g.met.K.Ord.total c.self.inside.own c.remove.new.self c.self.inside.shared (is_at (g.K.Ord.cmp c.args.key.now)) c.self.inside.count h c.remove.ensures c.self.invariant.0 in
    let small = c.self.invariant.1 in
    (omega (arith, e), omega (arith, small))
