-- The status of a run that has failed, and what a call is that is wrong.
use Rattle.std.specs.Prelude.{◌≤◌, ◌⊎◌, ℕ, List, not, length, IsErr, IsTrue}
use Rattle.std.specs.List.{list_any}
use Rattle.std.specs.Str.{IsUtf8}
use Rattle.std.specs.Io.KnownBytes.{Consumes, IsAtEnd}
use Rattle.keyrange.specs.declared.KeyRange.{KeyRange}
use Rattle.vschema.specs.declared.schema.VSchema.{VSchema}
use Rattle.vschema.specs.Meant.{schema_read}
use Rattle.vtgate_lines.specs.Partitions.{NamesPartition}
use Rattle.vtgate_clients.specs.declared.setup.run_fault.RunFault.{RunFault}
use Rattle.vtgate_clients.specs.declared.setup.run_fault.RunFault.TheVariants.{WrongWords, Schema, Refused, OutOfMemory, CannotBind, Failed}
use Rattle.vtgate_clients.specs.setup.Inputs.{Known, HasDeclared}

-- 2 if the words or the VSchema are wrong, else 1
abbrev pub status_of : RunFault → ℕ
status_of WrongWords = 2
status_of (Schema fault) = 2
status_of (Refused refusal) = 1
status_of OutOfMemory = 1
status_of CannotBind = 1
status_of Failed = 1

-- the word tells no ranges
abbrev pub TellsNone : List ℕ → Type 0
TellsNone word = (ranges : List KeyRange) → NamesPartition word ranges → ⊥

-- the text declares no VSchema: it is no UTF-8, or it has a fault
abbrev pub IsNoSchema : List ℕ → Type 0
IsNoSchema text = (IsUtf8 text → ⊥) ⊎ IsErr (schema_read text)

-- the shards of these ranges and that of an unsharded keyspace are more than 64
abbrev pub AreTooMany : VSchema → List KeyRange → Type 0
AreTooMany schema ranges = (64 ≤ length ranges) × IsTrue (list_any (λ k. not k.sharded) schema.keyspaces)

-- Why the word of the shards and the input make a wrong call: the word is wrong; the input was read to its end and declares no VSchema; or it
-- declares one under which the word tells too many ranges.
pub data IsWrong (word : List ℕ) (unread rest : Known) : Type 0 where
  by_word : TellsNone word → IsWrong word unread rest
  by_input : (text : List ℕ) → Consumes unread rest text → IsAtEnd rest → IsNoSchema text → IsWrong word unread rest
  by_both : (schema : VSchema) (ranges : List KeyRange) → HasDeclared unread rest schema → NamesPartition word ranges → AreTooMany schema ranges
      → IsWrong word unread rest
