-- The states of a session.
use Rattle.std.specs.Prelude.{ℕ, Bool, true, false, Option, Some, None}
use Rattle.session.specs.declared.conversation.end.End.{End}
use Rattle.session.specs.declared.conversation.connection_state.Phase.{Phase}
use Rattle.session.specs.declared.conversation.connection_state.Phase.TheVariants.{Response, Switch, Commands}
use Rattle.session.specs.declared.conversation.connection_state.Settings.{Settings}
use Rattle.session.specs.declared.conversation.connection_state.ConnectionState.{ConnectionState}
use Rattle.session.specs.declared.conversation.connection_state.ConnectionState.TheVariants.{New, At, Ended}

-- what holds for the commands of a client that was just let in, or begins anew
abbrev pub settings_at_first : ℕ → Option ℕ → Settings
settings_at_first capabilities keyspace = record { capabilities = capabilities; autocommit = true; keyspace = keyspace }

-- the sequence number with which the next payload begins
abbrev pub first_number : Phase → ℕ
first_number Response = 1
first_number (Switch login) = 3
first_number (Commands settings held) = 0

-- the client was let in, and sends commands
abbrev pub takes_commands : Phase → Bool
takes_commands Response = false
takes_commands (Switch login) = false
takes_commands (Commands settings held) = true

-- the session is in the phase of commands
abbrev pub is_in_commands : ConnectionState → Bool
is_in_commands New = false
is_in_commands (At phase) = takes_commands phase
is_in_commands (Ended end) = false

abbrev pub end_of : ConnectionState → Option End
end_of New = None
end_of (At phase) = None
end_of (Ended end) = Some end

-- the greeting is written, if the session has one
abbrev pub HasGreeted : ConnectionState → Type 0
HasGreeted New = ⊥
HasGreeted (At phase) = Unit {0}
HasGreeted (Ended end) = Unit {0}
