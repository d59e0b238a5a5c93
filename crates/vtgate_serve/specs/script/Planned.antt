-- What `vtgate plan` reads and prints.
use Rattle.std.specs.Prelude.{ℕ, List}
use Rattle.std.specs.Io.KnownBytes.{Appends}
use Rattle.keyrange.specs.declared.KeyRange.{KeyRange}
use Rattle.vschema.specs.declared.schema.VSchema.{VSchema}
use Rattle.vtgate_lines.specs.Partitions.{NamesPartition}
use Rattle.vtgate_lines.specs.Plans.{IsPlanLine}
use Rattle.vtgate_clients.specs.setup.Inputs.{Known, HasDeclared}

-- the line of the statement's plan, under the VSchema of the input and over the ranges that the word of the shards tells
pub record IsPlanned (shards sql : List ℕ) (unread rest : Known) (line : List ℕ) : Type 0 where
  pub schema : VSchema
  pub ranges : List KeyRange
  pub read : HasDeclared unread rest schema
  pub partition : NamesPartition shards ranges
  pub plan : IsPlanLine schema ranges sql line

-- that line alone was printed
pub record HasPlanned (shards sql : List ℕ) (unread rest taken now : Known) : Type 0 where
  pub line : List ℕ
  pub planned : IsPlanned shards sql unread rest line
  pub printed : Appends taken now line
