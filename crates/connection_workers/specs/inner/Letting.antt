-- What is put into the queue of what a source yields, and what a worker does with what it takes.
use Rattle.std.specs.Prelude.{◌≡◌, ℕ, List, [], ◌∷◌, ◌++◌, map, replicate}
use Rattle.connection_workers.specs.declared.pool.Job.{Job}
use Rattle.connection_workers.specs.declared.pool.Job.TheVariants.{Serve, Stop}
use Rattle.connection_workers.specs.Letting.{GaveAll}

-- Each connection that the source yielded was put into the queue, once and in order, and after them a stop for each worker.
pub record HasLetIn {E T : Type 0} (gives : E → T → E → Type 0) (ends : E → E → Type 0) (workers : ℕ) (from now : E) (before after : List (Job T)) : Type 0 where
  pub given : List T
  pub all : GaveAll gives ends from now given
  pub put : after ≡ (before ++ map Serve given) ++ replicate workers Stop

abbrev pub EachWas : {T : Type 0} → (T → Type 0) → List T → Type 0
EachWas P [] = Unit {0}
EachWas P (x ∷ xs) = P x × EachWas P xs

-- What a worker took: connections, of each of which the conversation was begun, and then its one stop.
pub record HasBegunConnections {T : Type 0} (before after : List (Job T)) (begun : T → Type 0) : Type 0 where
  pub taken : List T
  pub own : after ≡ (before ++ map Serve taken) ++ (Stop ∷ [])
  pub each : EachWas begun taken
