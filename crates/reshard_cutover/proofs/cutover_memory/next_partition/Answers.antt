use Rattle.std.proofs.Common.{◌≡◌, ◌++◌, map}
use Rattle.serving.specs.Partitions.{Seat}
use Rattle.reshard_cutover.proofs.Permuted.{all_permuted}
use Rattle.reshard_cutover.proofs.Prepares.{partition_permuted}
use Rattle.reshard_cutover.proofs.cutover_memory.next_partition.Goals as goal

pub new-requires-clause-partition : goal.new-requires-clause-partition
new-requires-clause-partition g c =
    partition_permuted (c.args.rest.now ++ map (λ t. t.member.shard.value) c.args.targets.now) c.in_ok-parts.parts.items c.in_ok-parts.ensures.ok c.requires.next

pub new-requires-clause-keyspace : goal.new-requires-clause-keyspace
new-requires-clause-keyspace g c =
    all_permuted (λ (seat : Seat). seat.2 ≡ c.args.keyspace) (c.args.rest.now ++ map (λ t. t.member.shard.value) c.args.targets.now) c.in_ok-parts.parts.items
    c.in_ok-parts.ensures.ok c.requires.home
