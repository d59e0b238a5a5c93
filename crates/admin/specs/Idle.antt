-- The administrator of a router that begins.
use Rattle.std.specs.Prelude.{ℕ, ◌-◌, false, List, [], length, Option, Some, None}
use Rattle.std.specs.List.{range_with_len}
use Rattle.keyrange.specs.declared.KeyRange.{KeyRange}
use Rattle.vschema.specs.declared.schema.VSchema.{VSchema}
use Rattle.shard_run.specs.opening.Empty.{empty_shards, sharded_keyspace}
use Rattle.reshard.specs.declared.workflow.Stage.TheVariants as stages
use Rattle.reshard.specs.Workflows.{WorkflowView}

-- no workflow in the keyspace, over these free slots
abbrev pub idle : ℕ → List ℕ → WorkflowView
idle keyspace free = record {
  stage = stages.None;
  keyspace = keyspace;
  free = free;
  sources = [];
  targets = [];
  frozen = 0;
  retired = 0;
  served = 0;
  stored = [];
  prepared = false;
  published = false;
}

-- the slots after those of the opening's shards: there are 64
abbrev pub free_slots : VSchema → List KeyRange → List ℕ
free_slots schema ranges = range_with_len (length (empty_shards schema ranges)) (64 - length (empty_shards schema ranges))

abbrev pub idle_in : Option ℕ → List ℕ → Option WorkflowView
idle_in None free = None
idle_in (Some keyspace) free = Some (idle keyspace free)

-- what the administrator begins with: no workflow in the sharded keyspace, if there is one
abbrev pub opening_workflow : VSchema → List KeyRange → Option WorkflowView
opening_workflow schema ranges = idle_in (sharded_keyspace schema) (free_slots schema ranges)
