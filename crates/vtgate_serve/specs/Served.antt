-- What `vtgate serve` reads and prints, with the conversations of its connections.
use Rattle.std.specs.Prelude.{ℕ, List, codes}
use Rattle.std.specs.Io.KnownBytes.{Appends}
use Rattle.keyrange.specs.declared.KeyRange.{KeyRange}
use Rattle.vschema.specs.declared.schema.VSchema.{VSchema}
use Rattle.shard_run.specs.opening.Empty.{FitRanges}
use Rattle.vtgate_lines.specs.Partitions.{NamesPartition}
use Rattle.vtgate_lines.specs.Printed.{line}
use Rattle.vtgate_clients.specs.setup.Inputs.{Known, HasDeclared}

abbrev pub listening_text : List ℕ
listening_text = line (codes "listening")

-- The input was read to its end and declares a VSchema, which was served over the ranges that the word of the shards tells; and that it
-- listened was printed, and nothing else.
pub record HasRunServer (shards : List ℕ) (unread rest taken now : Known) : Type 0 where
  pub schema : VSchema
  pub ranges : List KeyRange
  pub read : HasDeclared unread rest schema
  pub partition : NamesPartition shards ranges
  pub fit : FitRanges schema ranges
  pub printed : Appends taken now listening_text
