-- The writes of a transaction are what statements mean. Private: no public clause cites it.
use Rattle.std.specs.Prelude.{◌≡◌, Option, Some, None}
use Rattle.std.specs.List.{AllByRecursion}
use Rattle.vschema.specs.declared.schema.Typed.TheVariants as typed
use Rattle.vschema.specs.declared.changes.Write.{Write}
use Rattle.vschema.specs.TypedWrites.{IsTypedWrite}
use Rattle.shard_run.specs.Runs.{Opening}
use Rattle.route_engine.specs.Transactions.{TransactionStatement, Transaction}

-- its write is what some statement means
abbrev pub IsTypedStep : Opening → TransactionStatement → Type 0
IsTypedStep o step = (w : Write) → step.typed ≡ typed.Write w → IsTypedWrite o.schema w

abbrev pub AreTyped : Opening → Option Transaction → Type 0
AreTyped o None = Unit {0}
AreTyped o (Some t) = AllByRecursion (IsTypedStep o) t.steps
