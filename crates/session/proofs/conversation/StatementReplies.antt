-- Answers to the commands of prepared statements.
use Rattle.std.proofs.Common.{◌≡◌, ◌⊎◌, inl, inr, ℕ, ◌-◌, List, [], length, Some, Ok, Err, refl, ap, sym, subst, ◌∙◌, Bool, true, false}
use Rattle.std.specs.Prelude.{◌||◌}
use Rattle.vt_value.specs.declared.refusal.Refusal.{Refusal}
use Rattle.vt_value.specs.declared.refusal.Refusal.TheVariants as r
use Rattle.sql_tree.specs.declared.Statement.{Statement}
use Rattle.vschema.specs.declared.schema.VSchema.{VSchema}
use Rattle.vschema.specs.TypedStatement.{typed_statement}
use Rattle.mysql_packet.specs.declared.framer.Payload.{Payload}
use Rattle.mysql_packet.specs.Frames.{frame}
use Rattle.mysql_message.specs.Messages.{Request, execute, prepare, command_of, err_payload}
use Rattle.resultset.specs.declared.Column as R
use Rattle.resultset.specs.declared.SetEnd.{SetEnd}
use Rattle.resultset.specs.PreparedReplies.{prepare_encoded}
use Rattle.prepared_statements.specs.declared.held.NotExecuted.{NotExecuted}
use Rattle.prepared_statements.specs.declared.held.NotExecuted.TheVariants as x
use Rattle.client_words.specs.Aliases.{Names}
use Rattle.prepared_statements.specs.Holes.{no_values}
use Rattle.prepared_statements.specs.Held.{HeldStatements, AddsHeld, newly_prepared}
use Rattle.shard_run.specs.Runs.{Opening}
use Rattle.route_engine.specs.Limits.{Limits}
use Rattle.session.specs.declared.conversation.access.Handshake.{Handshake}
use Rattle.session.specs.declared.conversation.connection_state.Settings.{Settings}
use Rattle.session.specs.declared.conversation.connection_state.Phase.TheVariants.{Commands}
use Rattle.session.specs.declared.conversation.connection_state.ConnectionState.TheVariants.{At}
use Rattle.session.specs.conversation.Means.{PassAndTransaction, Means, context_of}
use Rattle.session.specs.conversation.Packets.{reply_number}
use Rattle.session.specs.conversation.Prepared.{is_select, names_unknown, ShowsColumns, ShowsNamed, MayBeHeld, NotPrepared, AnswersStatement}
use Rattle.session.specs.conversation.Prepared as a
use Rattle.session.specs.conversation.SessionContext.{status_in}
use Rattle.session.specs.conversation.Talk.{AnswersPayload, set_end_of}
use Rattle.session.proofs.conversation.RepliesLemmas.{one_statement_reply}

pub not_supported_is : (w : NotExecuted) → w ≡ x.NotSupported → w ≡ x.OutOfMemory → ⊥
not_supported_is w e f = let differs : x.NotSupported ≡ x.OutOfMemory = sym e ∙ f in cc

pub wrong_is : (w : NotExecuted) → w ≡ x.Wrong → w ≡ x.OutOfMemory → ⊥
wrong_is w e f = let differs : x.Wrong ≡ x.OutOfMemory = sym e ∙ f in cc

-- a statement that is held, as it is told
pub told : (schema : VSchema) (end : SetEnd) (status number : ℕ) (held then : HeldStatements) (text : List ℕ) (pieces : List (List ℕ)) (statement : Statement) (names : Names)
    (columns : List R.Column) (n holes : ℕ) (out : List ℕ) → holes ≡ length pieces - 1 → MayBeHeld schema text pieces statement names → ShowsNamed schema statement names columns
    → AddsHeld held (newly_prepared pieces (no_values pieces)) n then
    → (out ≡ prepare_encoded end n columns holes number status) ⊎ (out ≡ frame number (err_payload r.OutOfMemory))
    → AnswersStatement schema end status number held (prepare text) out then
told schema end status number held then text pieces statement names columns n holes out is may shows adds (inl e) =
    subst (λ (bs : List ℕ). AnswersStatement schema end status number held (prepare text) bs then)
    (sym (e ∙ ap (λ (h : ℕ). prepare_encoded end n columns h number status) is)) (a.prepared may shows adds)
told schema end status number held then text pieces statement names columns n holes out is may shows adds (inr e) =
    subst (λ (bs : List ℕ). AnswersStatement schema end status number held (prepare text) bs then) (sym e) (a.untold may adds)

-- what isn't executed is told, and changes nothing but what is held
pub not_run : (o : Opening) (l : Limits) (handshake : Handshake) (set : Settings) (held then : HeldStatements) (number : ℕ) (bytes out : List ℕ) (s : PassAndTransaction)
    (payload : Payload) → payload.first ≡ 0 → number ≡ reply_number payload → command_of payload.bytes ≡ Some (execute bytes)
    → ((schema : VSchema) (end : SetEnd) (status : ℕ) → AnswersStatement schema end status number held (execute bytes) out then)
    → AnswersPayload (context_of o handshake) (Means o l) (Commands set held) s payload out (At (Commands set then)) s
not_run o l handshake set held then number bytes out s payload first is_number is answers =
    one_statement_reply (context_of o handshake) (Means o l) set held then s payload out (execute bytes) first is
    (subst (λ (n : ℕ). AnswersStatement o.schema (set_end_of set.capabilities) (status_in (context_of o handshake) set s) n held (execute bytes) out then) is_number
    (answers o.schema (set_end_of set.capabilities) (status_in (context_of o handshake) set s)))

pub unsure_is : (schema : VSchema) (statement : Statement) (why : Refusal) (selects : Bool) (columns : List R.Column)
    → (why ≡ r.OutOfMemory) ⊎ (typed_statement schema statement ≡ Err why) → selects ≡ is_select statement
    → (columns ≡ []) × (why ≡ r.OutOfMemory → ⊥) × ((selects || names_unknown why) ≡ false) → ShowsColumns schema statement columns
unsure_is schema statement why selects columns (inl memory) is said = absurd (said.1 memory)
unsure_is schema statement why selects columns (inr e) is said =
    a.unsure e (subst (λ (b : Bool). (b || names_unknown why) ≡ false) is said.2) said.0

pub refused_is : (schema : VSchema) (statement : Statement) (why e : Refusal) (selects : Bool) → (why ≡ r.OutOfMemory) ⊎ (typed_statement schema statement ≡ Err why)
    → selects ≡ is_select statement → (e ≡ why) × ((why ≡ r.OutOfMemory) ⊎ ((selects || names_unknown why) ≡ true))
    → (e ≡ r.OutOfMemory) ⊎ ((typed_statement schema statement ≡ Err e) × ((is_select statement || names_unknown e) ≡ true))
refused_is schema statement why e selects (inl memory) is said = inl (said.0 ∙ memory)
refused_is schema statement why e selects (inr typed) is (same, inl memory) = inl (same ∙ memory)
refused_is schema statement why e selects (inr typed) is (same, inr sure) = inr (
  typed ∙ ap Err (sym same),
  subst (λ (x : Refusal). (is_select statement || names_unknown x) ≡ true) (sym same) (subst (λ (b : Bool). (b || names_unknown why) ≡ true) is sure),
)

-- why a text isn't prepared that could be read
pub not_shown : (schema : VSchema) (text : List ℕ) (pieces : List (List ℕ)) (statement : Statement) (names : Names) (why : Refusal)
    → MayBeHeld schema text pieces statement names
    → (why ≡ r.OutOfMemory) ⊎ ((typed_statement schema statement ≡ Err why) × ((is_select statement || names_unknown why) ≡ true)) → NotPrepared schema text why
not_shown schema text pieces statement names why may (inl memory) = subst (λ (w : Refusal). NotPrepared schema text w) (sym memory) a.no_memory
not_shown schema text pieces statement names why may (inr (typed, sure)) = a.refused may typed sure

-- why a text couldn't be
pub not_read : (schema : VSchema) (text : List ℕ) (why : Refusal) → (why ≡ r.OutOfMemory)
    ⊎ ((why ≡ r.SyntaxError) × ((pieces : List (List ℕ)) (statement : Statement) (names : Names) → MayBeHeld schema text pieces statement names → ⊥))
    → NotPrepared schema text why
not_read schema text why (inl memory) = subst (λ (w : Refusal). NotPrepared schema text w) (sym memory) a.no_memory
not_read schema text why (inr (syntax, none)) = subst (λ (w : Refusal). NotPrepared schema text w) (sym syntax) (a.no_text none)
