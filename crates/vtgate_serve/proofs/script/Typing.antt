-- The writes of a transaction are what statements mean.
use Rattle.std.proofs.Common.{ℕ, List}
use Rattle.shard_law.specs.Entries.{most_limits}
use Rattle.shard_run.specs.Runs.{Opening}
use Rattle.vtgate_clients.specs.Means.{PassAndTransaction}
use Rattle.vtgate_clients.specs.TypedSteps.{AreTyped}
use Rattle.vtgate_clients.proofs.Typing.{answered_at, refused_at}
use Rattle.vtgate_serve.specs.script.Scripted as s
use Rattle.vtgate_serve.specs.script.Scripted.{Prints}

pub typed_then : (o : Opening) (st now : PassAndTransaction) (sql text : List ℕ) → AreTyped o st.tx → Prints o st sql text now → AreTyped o now.tx
typed_then o st now sql _ all (s.answered reply is) = answered_at o most_limits st now sql reply all is
typed_then o st now sql _ all (s.untold reply is rows) = answered_at o most_limits st now sql reply all is
typed_then o st now sql _ all (s.refused {r} why) = refused_at o most_limits st now sql r all why
