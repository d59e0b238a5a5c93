-- What a connection that was served has written for what it had read.
use Rattle.std.specs.Prelude.{◌≡◌, ℕ, List, ◌++◌, Option, Result, Err, IfOk}
use Rattle.std.specs.Io.KnownBytes.{Appends, Consumes}
use Rattle.journal.specs.Views.{PassView}
use Rattle.shard_run.specs.declared.Entry.{Entry}
use Rattle.shard_run.specs.Runs.{Opening}
use Rattle.route_engine.specs.Limits.{Limits}
use Rattle.route_engine.specs.Alone.{NoOthers}
use Rattle.session.specs.declared.conversation.access.Handshake.{Handshake}
use Rattle.session.specs.declared.conversation.connection_state.ConnectionState.TheVariants.{New}
use Rattle.session.specs.declared.conversation.end.End.{End}
use Rattle.session.specs.declared.conversation.end.SessionFault.{SessionFault}
use Rattle.session.specs.declared.conversation.end.SessionFault.TheVariants as fault
use Rattle.session.specs.conversation.Faults.{IsUnfinished, HasBrokenOff}
use Rattle.session.specs.conversation.Means.{PassAndTransaction, Means, none_open, context_of}
use Rattle.session.specs.conversation.Talk.{Talk}
use Rattle.session.specs.declared.session_core.TheConstants.{COMMAND_LIMIT}
use Rattle.session.specs.Alone.{Alone, MeansAlone, alone_context, alone_first}

-- By a pass, of a connection with this handshake: what its source had left before and after, and what its sink had taken before and after.
module _ (o : Opening) (limits : Limits) (handshake : Handshake) (p now : PassView Entry) (unread rest taken told : Option (List ℕ)) where
  -- Exactly the conversation over the bytes that were read is written, if each query has an outcome that its text may have over what the run leaves
  -- at a look of the pass, each after the one before.
  abbrev pub HasTalkedWhole : Result End SessionFault → Type 0
  HasTalkedWhole result = IfOk result (λ end. (read : List ℕ) × (written : List ℕ) × Consumes unread rest read × Appends taken told written
      × ((s : PassAndTransaction) × (s.pass ≡ now)
      × Talk COMMAND_LIMIT (context_of o handshake) (Means o limits) New (none_open p) read written end s))

  -- If no other session came between, it is one over one database, which knows no shards: each outcome is one that its text has over the rows that
  -- the commands before it left.
  abbrev pub HasTalkedAlone : Result End SessionFault → Type 0
  HasTalkedAlone result = IfOk result (λ end. NoOthers p now → (read : List ℕ) × (written : List ℕ) × Consumes unread rest read × Appends taken told written
      × ((s : Alone o) × (s.kept.pass ≡ now)
      × Talk COMMAND_LIMIT (alone_context o handshake) (MeansAlone o limits) New (alone_first o p) read written end s))

  -- If the source failed, each payload that was read whole is answered, and nothing else was written.
  abbrev pub HasStoppedReading : Result End SessionFault → Type 0
  HasStoppedReading result = result ≡ Err fault.Read → (read : List ℕ) × (written : List ℕ) × Consumes unread rest read × Appends taken told written
      × ((s : PassAndTransaction) × (s.pass ≡ now)
      × IsUnfinished COMMAND_LIMIT (context_of o handshake) (Means o limits) New (none_open p) read written s)

  -- A piece that was read and for which there is no memory counts as not read.
  abbrev pub HasStoppedForMemory : Result End SessionFault → Type 0
  HasStoppedForMemory result = result ≡ Err fault.Memory → (read : List ℕ) × (piece : List ℕ) × (written : List ℕ)
      × Consumes unread rest (read ++ piece) × Appends taken told written
      × ((s : PassAndTransaction) × (s.pass ≡ now)
      × IsUnfinished COMMAND_LIMIT (context_of o handshake) (Means o limits) New (none_open p) read written s)

  -- If the sink failed, a front of the payloads is answered, each once, and the sink took a front of the replies.
  abbrev pub HasStoppedWriting : Result End SessionFault → Type 0
  HasStoppedWriting result = result ≡ Err fault.Write → (read : List ℕ) × (written : List ℕ) × Consumes unread rest read × Appends taken told written
      × ((s : PassAndTransaction) × (s.pass ≡ now)
      × HasBrokenOff COMMAND_LIMIT (context_of o handshake) (Means o limits) New (none_open p) read written s)
