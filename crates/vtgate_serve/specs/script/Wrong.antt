-- Why a call of `script` is wrong.
use Rattle.std.specs.Prelude.{◌≡◌, ℕ, List, [], Ok}
use Rattle.std.specs.Io.KnownBytes.{Consumes, IsAtEnd}
use Rattle.keyrange.specs.declared.KeyRange.{KeyRange}
use Rattle.vschema.specs.declared.schema.VSchema.{VSchema}
use Rattle.vschema.specs.Meant.{contents, schema_read}
use Rattle.vtgate_lines.specs.Lines.{IsNextLine}
use Rattle.vtgate_lines.specs.Partitions.{NamesPartition}
use Rattle.vtgate_clients.specs.setup.Inputs.{Known}
use Rattle.vtgate_clients.specs.setup.Statuses.{AreTooMany, IsNoSchema, TellsNone}

-- A script's text declares no VSchema for the ranges: it has no line; its first line is no VSchema; or that is one under which the ranges are
-- too many.
pub data DeclaresNone (text : List ℕ) (ranges : List KeyRange) : Type 0 where
  empty : text ≡ [] → DeclaresNone text ranges
  other : (first lines : List ℕ) → IsNextLine text first lines → IsNoSchema first → DeclaresNone text ranges
  many : (first lines : List ℕ) (schema : VSchema) → IsNextLine text first lines → schema_read first ≡ Ok (contents schema) → AreTooMany schema ranges
      → DeclaresNone text ranges

-- The word of the shards is wrong, or the input was read to its end and declares no VSchema for the ranges that the word tells.
pub data IsWrongScript (word : List ℕ) (unread rest : Known) : Type 0 where
  by_word : TellsNone word → IsWrongScript word unread rest
  by_input : (text : List ℕ) (ranges : List KeyRange) → Consumes unread rest text → IsAtEnd rest → NamesPartition word ranges → DeclaresNone text ranges
      → IsWrongScript word unread rest
