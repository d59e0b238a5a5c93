-- What holds in a conversation whatever is asked.
use Rattle.std.specs.Prelude.{ℕ, ◌+◌, Bool, if◌then◌else◌}
use Rattle.mysql_message.specs.Messages.{autocommit}
use Rattle.vschema.specs.declared.schema.VSchema.{VSchema}
use Rattle.session.specs.declared.conversation.access.Handshake.{Handshake}
use Rattle.session.specs.declared.conversation.connection_state.Settings.{Settings}

-- What holds in a conversation whatever is asked: the greeting and whom it lets in, the VSchema, whether a transaction
-- is open, by what the session has seen, and what it has seen once that is dropped.
pub record SessionContext (S : Type 0) : Type 0 where
  pub handshake : Handshake
  pub schema : VSchema
  pub is_open : S → Bool
  pub dropped : S → S

-- SERVER_STATUS_IN_TRANS
abbrev pub in_transaction : ℕ
in_transaction = 1

-- The status flags of a reply: whether a statement outside a transaction commits by itself, and whether a transaction is open.
abbrev pub status_flags : Bool → Bool → ℕ
status_flags commits is_open = (if commits then autocommit else 0) + (if is_open then in_transaction else 0)

abbrev pub status_in : {S : Type 0} → SessionContext S → Settings → S → ℕ
status_in context settings s = status_flags settings.autocommit (context.is_open s)
