-- Steps from what a session keeps to what it keeps then.
use Rattle.std.specs.Prelude.{◌≡◌, ◌⊎◌, ℕ, Bool, false, List, Option, Some, None, Result, Ok, Err, IfSome, codes}
use Rattle.vt_value.specs.declared.refusal.Refusal.{Refusal}
use Rattle.vt_value.specs.declared.refusal.Refusal.TheVariants.{OutOfMemory, SyntaxError}
use Rattle.sql_tree.specs.declared.Statement.{Statement}
use Rattle.resultset.specs.declared.Outcome.{Outcome}
use Rattle.resultset.specs.declared.Outcome.TheVariants.{Rows, Count, Refused}
use Rattle.journal.specs.Views.{PassView}
use Rattle.shard_run.specs.declared.Entry.{Entry}
use Rattle.shard_run.specs.Runs.{Opening}
use Rattle.route_engine.specs.Pendings.{OpenView}
use Rattle.client_statements.specs.declared.statement.ClientStatement.{ClientStatement}
use Rattle.client_statements.specs.Asks.{Asks}
use Rattle.client_words.specs.Sayings.{IsSaidAs}
use Rattle.session.specs.declared.conversation.connection_state.Settings.{Settings}
use Rattle.session.specs.conversation.SessionContext.{SessionContext}
use Rattle.session.specs.conversation.GivesText.{opens_one, AnswersClient, RunsText, named_outcome}
use Rattle.session.specs.conversation.Means.{PassAndTransaction, IsKept}

-- From whatever pass and transaction were kept, this leads to some that are kept then.
abbrev pub LeadsKept : Opening → PassView Entry → Option OpenView → PassView Entry → Option OpenView
    → (PassAndTransaction → PassAndTransaction → Type 0) → Type 0
LeadsKept o p kept q kept_then R = (s : PassAndTransaction) → IsKept o p kept s → (now : PassAndTransaction) × IsKept o q kept_then now × R s now

abbrev pub IsRows : Outcome → Type 0
IsRows (Rows set) = Unit {0}
IsRows (Count n) = ⊥
IsRows (Refused r) = ⊥

-- BEGIN if none is open, or COMMIT
abbrev pub GivesNoRows : List ℕ → Option OpenView → Type 0
GivesNoRows text kept = ((text ≡ codes "BEGIN") × (kept ≡ None)) ⊎ (text ≡ codes "COMMIT")

-- what was read of what a text asks
pub record IsReading (text : List ℕ) (asks : Option ClientStatement) : Type 0 where
  pub asked : IfSome asks (λ s. Asks text s)
  pub only : (s : ClientStatement) → Asks text s → asks ≡ Some s

-- What a text that isn't run gives by what it asks of the server; if that is nothing, what its other words give, or the outcome that it had.
pub data AnswersAsked {S : Type 0} (context : SessionContext S) (May : S → List ℕ → Outcome → S → Type 0) (set : Settings) (s : S) (text : List ℕ) (outcome : Outcome) : Outcome → Settings → S → Type 0 where
  asked : {reply : Outcome} {then : Settings} {now : S} (statement : ClientStatement) → Asks text statement → AnswersClient context May set s statement reply then now
      → AnswersAsked context May set s text outcome reply then now
  nothing : ((statement : ClientStatement) → Asks text statement → ⊥)
      → ((whole : List ℕ) (names : List (Option (List ℕ))) → IsSaidAs context.schema text whole names → ⊥)
      → AnswersAsked context May set s text outcome outcome set s
  said : {reply : Outcome} {now : S} (whole : List ℕ) (names : List (Option (List ℕ)))
      → ((statement : ClientStatement) → Asks text statement → ⊥) → IsSaidAs context.schema text whole names → RunsText context May set s whole reply now
      → AnswersAsked context May set s text outcome (named_outcome names reply) set now
  unread : AnswersAsked context May set s text outcome (Refused OutOfMemory) set s

-- whether a text that was read opens a transaction; one without a tree opens none
abbrev pub opens_read : Result Statement Refusal → Result Bool Refusal
opens_read (Ok statement) = Ok (opens_one statement)
opens_read (Err OutOfMemory) = Err OutOfMemory
opens_read (Err _) = Ok false
