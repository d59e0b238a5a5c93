-- A connection between two of its statements.
use Rattle.std.specs.Prelude.{◌≡◌, ℕ, List, [], Option, Some, None, Result, Ok, Err, IsSome}
use Rattle.std.specs.Io.KnownBytes.{Appends, Consumes, IsAtEnd, append_known}
use Rattle.journal.specs.Runs.{IsLegal}
use Rattle.journal.specs.Views.{PassView}
use Rattle.shard_run.specs.declared.Entry.{Entry}
use Rattle.shard_run.specs.Runs.{Opening}
use Rattle.route_engine.specs.Entries.{MayFollow}
use Rattle.route_engine.specs.Limits.{Limits}
use Rattle.session.specs.declared.session_core.TheConstants.{COMMAND_LIMIT}
use Rattle.session.specs.declared.conversation.access.Handshake.{Handshake}
use Rattle.session.specs.declared.conversation.connection_state.ConnectionState.{ConnectionState}
use Rattle.session.specs.declared.conversation.connection_state.ConnectionState.TheVariants.{New}
use Rattle.session.specs.declared.conversation.end.End.{End}
use Rattle.session.specs.declared.conversation.end.SessionFault.{SessionFault}
use Rattle.session.specs.declared.conversation.end.SessionFault.TheVariants.{Read, Write, Memory}
use Rattle.session.specs.declared.conversation.end.Turned.{Turned}
use Rattle.session.specs.declared.conversation.end.Turned.TheVariants.{Waits, HasMore, Over}
use Rattle.session.specs.conversation.Means.{PassAndTransaction, IsKept, Means, none_open, context_of}
use Rattle.session.specs.conversation.Sessions.{SessionState, HasTalked}
use Rattle.session.specs.conversation.Talk.{IsByInput}
use Rattle.session.specs.Served.{HasTalkedWhole, HasStoppedReading, HasStoppedForMemory, HasStoppedWriting}

-- What clauses see of a conversation over a device: what its client is greeted with, its pass and its device as they were when it began and as
-- they are, how the session stands, what was read and not fed to it, what it wrote and the device hasn't taken, and how it ended.
pub record ConversationView (D : Type 0) : Type 0 where
  pub handshake : Handshake
  pub pass_then : PassView Entry
  pub pass : PassView Entry
  pub device_then : D
  pub device : D
  pub connection_state : ConnectionState
  pub unfed : List ℕ
  pub unsent : List ℕ
  pub ended : Option (Result End SessionFault)

-- of a turn that ends the conversation, or finds that it has ended
abbrev pub IfOver : Turned → (Result End SessionFault → Type 0) → Type 0
IfOver Waits P = Unit {0}
IfOver HasMore P = Unit {0}
IfOver (Over result) P = P result

-- By a pass, of a connection with this handshake: what its device had left when it began, and what it has left now with what is unfed before that; what
-- the device had taken then, and what it has taken now with what is unsent after that.
module _ (o : Opening) (limits : Limits) (handshake : Handshake) (p now : PassView Entry) (unread rest taken told : Option (List ℕ)) where
  -- Of what was read all but the unfed was fed, exactly the conversation over that is written, and all but the unsent of it is taken. It goes on.
  abbrev pub IsUnderWay : SessionState → Type 0
  IsUnderWay core = (fed : List ℕ) × (written : List ℕ) × Consumes unread rest fed × Appends taken told written
      × ((s : PassAndTransaction) × IsKept o now core.tx s × HasTalked (context_of o handshake) (Means o limits) New core (none_open p) fed written s)

  -- It has ended so.
  abbrev pub IsOver : Result End SessionFault → Type 0
  IsOver (Ok end) = HasTalkedWhole o limits handshake p now unread rest taken told (Ok end) × (IsByInput end → IsAtEnd rest)
  IsOver (Err Read) = HasStoppedReading o limits handshake p now unread rest taken told (Err Read)
  IsOver (Err Memory) = HasStoppedForMemory o limits handshake p now unread rest taken told (Err Memory)
  IsOver (Err Write) = HasStoppedWriting o limits handshake p now unread rest taken told (Err Write)

  abbrev pub IsUnderWayOrOver : SessionState → Option (Result End SessionFault) → Type 0
  IsUnderWayOrOver core None = IsUnderWay core
  IsUnderWayOrOver core (Some result) = IsOver result

-- A conversation, by what its device has taken without what is unsent. After a fault nothing is unsent.
pub record IsConversation (o : Opening) (limits : Limits) (handshake : Handshake) (p now : PassView Entry) (unread rest taken told : Option (List ℕ)) (unsent : List ℕ)
    (core : SessionState) (ended : Option (Result End SessionFault)) : Type 0 where
  pub limit : core.framing.limit ≡ COMMAND_LIMIT
  pub legal : IsLegal (MayFollow o) p.seen
  pub session : IsSome now.session
  pub sent : (sent : List ℕ) × Appends taken told sent
  pub silent : (fault : SessionFault) → ended ≡ Some (Err fault) → unsent ≡ []
  pub talked : IsUnderWayOrOver o limits handshake p now unread rest taken (append_known told unsent) core ended

-- It is the conversation that it was: its client, what it began with, and whose pass it has.
pub record IsSameConversation {D : Type 0} (old new : ConversationView D) : Type 0 where
  pub handshake : new.handshake ≡ old.handshake
  pub pass_then : new.pass_then ≡ old.pass_then
  pub device_then : new.device_then ≡ old.device_then
  pub session : new.pass.session ≡ old.pass.session
