-- Which ranges are served while shards replace others.
use Rattle.std.specs.Prelude.{◌≡◌, List, ◌++◌, map, take, drop}
use Rattle.keyrange.specs.declared.KeyRange.{KeyRange}
use Rattle.serving.specs.Partitions.{Seat, IsPartition, AreOf, ranges}
use Rattle.reshard.specs.declared.workflow.Stage.TheVariants as stages
use Rattle.reshard_create.specs.Splits.{target_seats}
use Rattle.reshard.specs.Workflows.{WorkflowView}

-- The ranges of the parts that stay, which with the targets make a partition of the keyspace, of the sources that aren't retired, and of the targets
-- that serve.
pub record AreServed (w : WorkflowView) (served : List KeyRange) : Type 0 where
  pub rest : List Seat
  pub home : AreOf w.keyspace rest
  pub next : (w.stage ≡ stages.None → ⊥) → IsPartition (rest ++ target_seats w.targets)
  pub are :
      served
      ≡ ranges rest ++ (map (λ s. s.place.range) (drop w.retired w.sources) ++ map (λ t. t.0.place.range) (take w.served w.targets))
