use Rattle.std.proofs.Common.{◌≡◌, rules, sym, subst, List}
use Rattle.std.proofs.lemmas.List.Sorted.{IsPartitionPoint-from_clause}
use Rattle.std.specs.List.Sorted.{IsPartitionedBy}
use Rattle.row_chunks.specs.Chunks.{ChunkView}
use Rattle.row_chunks.proofs.Shelf.{parted_by, starts_by, begun_is}
use Rattle.row_chunks.proofs.chunks.Chunks.begun.Goals as goal

pub returns-clause-begun : goal.returns-clause-begun
returns-clause-begun g c =
    let o = g.met.K.Ord.total in
    let same : c.as_slice.result.now ≡ c.self.inside.list.items = search rules in
    let parted = subst (λ (chunks : List (ChunkView _ _)). IsPartitionedBy (starts_by o c.args.key.now) chunks) (sym same) (parted_by o c.args.key.now c.self.inside.list.items c.self.invariant.parted) in
    let point = IsPartitionPoint-from_clause (starts_by o c.args.key.now) _ _ c.partition_point.ensures.partitioned parted (λ a r q k. search rules) in
    let is = begun_is o c.args.key.now _ _ c.partition_point.ensures.bound point in
    search rules
