-- What a script keeps of its sessions between two lines. Private: no public clause cites it.
use Rattle.std.specs.Prelude.{◌≡◌, ◌≢◌, ◌⊎◌, ℕ, ◌<◌, ◌≤◌, List, [], ◌∷◌, ◌++◌, length, filter, slice_index_or, Option, Some, None, IsSome, Result, Ok, Err}
use Rattle.std.specs.List.{AllByRecursion}
use mathlib.Core.List.{IsPrefix}
use Rattle.vt_value.specs.declared.refusal.Refusal.{Refusal}
use Rattle.vt_value.specs.declared.refusal.Refusal.TheVariants.{OutOfMemory}
use Rattle.journal.specs.Runs.{by_session}
use Rattle.journal.specs.Views.{PassView, new_pass}
use Rattle.shard_run.specs.declared.Entry.{Entry}
use Rattle.shard_run.specs.Runs.{Run, Opening}
use Rattle.vtgate_clients.specs.Answer.{Answer}
use Rattle.vtgate_clients.specs.Reply.{Reply}
use Rattle.shard_law.specs.Entries.{commit_of}
use Rattle.vtgate_clients.specs.Pendings.{OpenView, IsOf}
use Rattle.vtgate_clients.specs.Means.{PassAndTransaction, IsKept, HasRows}
use Rattle.vtgate_clients.specs.TypedSteps.{AreTyped}
use Rattle.vtgate_lines.specs.Printed.{refusal_text}
use Rattle.vtgate_serve.specs.script.Scripted.{Session, ScriptProgress, Prints, PrintsAt, met, answer_text}

-- a session's pass, and what is kept of its open transaction
pub record KeptState : Type 0 where
  pub pass : PassView Entry
  pub tx : Option OpenView

pub record KeptSession : Type 0 where
  pub name : List ℕ
  pub kept : KeptState

-- what is kept of what a script has come to
pub record KeptProgress : Type 0 where
  pub sessions : List KeptSession
  pub seen : Run

-- no line yet
abbrev pub nothing_kept : KeptProgress
nothing_kept = record { sessions = []; seen = [] }

abbrev pub IsKeptOf : Opening → KeptState → PassAndTransaction → Type 0
IsKeptOf o k s = IsKept o k.pass k.tx s × AreTyped o s.tx

-- it is kept of these sessions, in their order
abbrev pub AreKept : Opening → List KeptSession → List Session → Type 0
AreKept o [] [] = Unit {0}
AreKept o [] (s ∷ ss) = ⊥
AreKept o (k ∷ ks) [] = ⊥
AreKept o (k ∷ ks) (s ∷ ss) = (k.name ≡ s.name) × IsKeptOf o k.kept s.state × AreKept o ks ss

pub record IsProgressOf (o : Opening) (k : KeptProgress) (s : ScriptProgress) : Type 0 where
  pub sessions : AreKept o k.sessions s.sessions
  pub seen : k.seen ≡ s.seen

-- the pass is a session's, has seen no more than all lines, and what is kept stands for a transaction of it
abbrev pub HasSeenLess : Opening → Run → KeptSession → Type 0
HasSeenLess o seen s = IsSome s.kept.pass.session × IsPrefix s.kept.pass.seen seen × IsOf o s.kept.tx s.kept.pass

-- what is printed for a statement after all that was seen, from what is kept to what is kept then
abbrev pub PrintsFrom : Opening → Run → KeptState → List ℕ → List ℕ → KeptState → Type 0
PrintsFrom o seen k sql text then =
    (s : PassAndTransaction) → IsKeptOf o k s → (now : PassAndTransaction) × IsKeptOf o then now × Prints o (met seen s) sql text now

-- the same, while no other session commits
abbrev pub PrintsHere : Opening → Run → KeptState → List ℕ → List ℕ → KeptState → Type 0
PrintsHere o seen k sql text then =
    (s : PassAndTransaction) → IsKeptOf o k s → (now : PassAndTransaction) × IsKeptOf o then now × PrintsAt o (met seen s) sql text now

-- the run has no commit of the session that its pass hasn't seen
abbrev pub KnowsOwn : Run → KeptSession → Type 0
KnowsOwn seen s =
    (n : ℕ) → s.kept.pass.session ≡ Some n → filter (by_session commit_of n) seen ≡ filter (by_session commit_of n) s.kept.pass.seen

-- So many sessions are opened, each with its ordinal as number. Of the commits in the run each is of one of them, whose pass has seen it.
pub record IsKnown (opened : ℕ) (seen : Run) (sessions : List KeptSession) : Type 0 where
  pub numbered : (k : ℕ) (d : KeptSession) → k < length sessions → (slice_index_or sessions k d).kept.pass.session ≡ Some k
  pub own : (k : ℕ) (d : KeptSession) → k < length sessions → KnowsOwn seen (slice_index_or sessions k d)
  pub unopened : (n : ℕ) → opened ≤ n → filter (by_session commit_of n) seen ≡ []

-- the session of the name is at the ordinal; if there was none, it was opened there
pub data HasOpened (s : KeptProgress) (name : List ℕ) (ordinal : ℕ) : KeptProgress → Type 0 where
  was : ordinal < length s.sessions → ((d : KeptSession) → (slice_index_or s.sessions ordinal d).name ≡ name) → HasOpened s name ordinal s
  opened : AllByRecursion (λ x. x.name ≢ name) s.sessions → ordinal ≡ length s.sessions
      → HasOpened s name ordinal
      (record s { sessions = s.sessions ++ record { name = name; kept = record { pass = new_pass s.seen (Some ordinal); tx = None } } ∷ [] })

-- what is printed of an answer; if there is no memory for its rows, that
abbrev pub IsShown : Answer → List ℕ → Type 0
IsShown answer text = (text ≡ answer_text answer) ⊎ (HasRows answer × (text ≡ refusal_text OutOfMemory))

-- what is printed of what a statement gave
abbrev pub IsOutcomeShown : Result Reply Refusal → List ℕ → Type 0
IsOutcomeShown (Ok reply) text = IsShown reply.answer text
IsOutcomeShown (Err r) text = text ≡ refusal_text r
