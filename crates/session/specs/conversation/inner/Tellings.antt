-- The outcome of a reply, the statement that turns autocommit on, and the refusal of one that can't be done.
use Rattle.std.specs.Prelude.{Bool, true, false, not, List, [], ◌∷◌, Option, Some, None, Result, Ok, Err}
use Rattle.vt_value.specs.declared.refusal.Refusal.{Refusal}
use Rattle.vt_value.specs.declared.refusal.Refusal.TheVariants as r
use Rattle.resultset.specs.declared.Outcome.{Outcome}
use Rattle.resultset.specs.declared.Outcome.TheVariants as o
use Rattle.client_statements.specs.declared.tokens.token.Keyword.TheVariants as k
use Rattle.client_statements.specs.declared.tokens.token.Token.{Token}
use Rattle.client_statements.specs.declared.tokens.token.TokenKind.{TokenKind}
use Rattle.client_statements.specs.declared.tokens.token.TokenKind.TheVariants.{Word}
use Rattle.client_statements.specs.declared.statement.ClientStatement.{ClientStatement}
use Rattle.client_statements.specs.declared.statement.ClientStatement.TheVariants.{Set, NotSupported}
use Rattle.session.specs.declared.conversation.connection_state.Settings.{Settings}
use Rattle.session.specs.declared.conversation.client_reply.ClientReplyKind.{ClientReplyKind}
use Rattle.session.specs.declared.conversation.client_reply.ClientReplyKind.TheVariants.{Rows, Count, Refused}

abbrev pub outcome_of_reply : ClientReplyKind → Outcome
outcome_of_reply (Rows set) = o.Rows set
outcome_of_reply (Count n) = o.Count n
outcome_of_reply (Refused r) = o.Refused r

-- it turns autocommit on, which is off
abbrev pub turns_on : Settings → ClientStatement → Bool
turns_on settings (Set (Some true)) = not settings.autocommit
turns_on settings _ = false

-- the refusal of what was read of a text: of one that the server can't do, or for want of memory
abbrev pub refusal_of : {E : Type 0} → Result (Option ClientStatement) E → Option Refusal
refusal_of (Ok (Some NotSupported)) = Some r.NotSupported
refusal_of (Ok _) = None
refusal_of (Err e) = Some r.OutOfMemory

abbrev pub is_set_kind : TokenKind → Bool
is_set_kind (Word (Some k.Set)) = true
is_set_kind _ = false

-- SET is the first token
abbrev pub leads_set : List Token → Bool
leads_set [] = false
leads_set (t ∷ ts) = is_set_kind t.kind
