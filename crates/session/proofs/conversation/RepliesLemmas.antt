-- Replies to one payload, and to the payloads behind it.
use Rattle.std.proofs.Common.{◌≡◌, ℕ, Bool, refl, true, false, ◌==◌, List, [], ◌∷◌, ◌++◌, Option, Some, None, sym, ap, subst, ◌∙◌, append_assoc, eq-eqb, ◌⊎◌, inl, inr}
use Rattle.std.proofs.lemmas.List.{append-nil}
use Rattle.std.specs.Prelude.{is_some, codes}
use Rattle.vt_value.specs.declared.refusal.Refusal.TheVariants.{OutOfMemory, PacketsOutOfOrder, UnknownCommand, UnknownKeyspace, NotSupported}
use Rattle.mysql_packet.specs.declared.framer.Payload.{Payload}
use Rattle.mysql_packet.specs.Frames.{frame}
use Rattle.mysql_message.specs.Messages.{Request, execute, quit, init_db, query, ping, statistics, multi_statements, reset, command_of, ok_payload, err_payload, statistics_payload}
use Rattle.resultset.specs.BinaryRows.{binary_encoded}
use Rattle.prepared_statements.specs.Held.{none_held, HeldStatements, RunsHeld}
use Rattle.session.specs.conversation.Prepared.{AnswersStatement}
use Rattle.session.specs.declared.conversation.reply.RowForm.{RowForm}
use Rattle.session.specs.conversation.inner.Replies.{encoded_in, TellsOutcome}
use Rattle.resultset.specs.declared.Outcome.{Outcome}
use Rattle.resultset.specs.declared.Outcome.TheVariants.{Count, Refused, Rows}
use Rattle.resultset.specs.declared.ResultSet.{ResultSet}
use Rattle.vt_value.specs.Values.{Row}
use Rattle.route_engine.specs.Reply.{Reply}
use Rattle.session.specs.conversation.Columns.{AreColumns}
use Rattle.resultset.specs.Encoding.{encoded, after_rows}
use Rattle.shard_run.specs.Runs.{Opening}
use Rattle.route_engine.specs.Selected.{Selected}
use Rattle.route_engine.specs.Limits.{Limits}
use Rattle.route_engine.specs.Answer.{Answer}
use Rattle.route_engine.specs.Answer.TheVariants as answer
use Rattle.journal.specs.Views.{PassView}
use Rattle.shard_run.specs.declared.Entry.{Entry}
use Rattle.route_engine.specs.Transactions.{Transaction, IsReplyTo}
use Rattle.route_engine.specs.Pendings.{OpenView, Represents}
use Rattle.route_engine.specs.Pendings as stands
use Rattle.vschema.specs.declared.schema.VSchema.{VSchema}
use Rattle.session.specs.declared.conversation.end.End.{End}
use Rattle.session.specs.declared.conversation.end.End.TheVariants.{Quit, Broken}
use Rattle.session.specs.declared.conversation.connection_state.Phase.{Phase}
use Rattle.session.specs.declared.conversation.connection_state.Phase.TheVariants.{Commands}
use Rattle.session.specs.declared.conversation.connection_state.Settings.{Settings}
use Rattle.session.specs.declared.conversation.connection_state.ConnectionState.{ConnectionState}
use Rattle.session.specs.declared.conversation.connection_state.ConnectionState.TheVariants.{New, At, Ended}
use Rattle.session.specs.conversation.ConnectionStates.{first_number, settings_at_first}
use Rattle.session.specs.conversation.Means.{PassAndTransaction, IsKept, Means, Shows, HasRows, none_open, context_of}
use Rattle.session.specs.conversation.inner.Means.{LeadsKept, IsRows}
use Rattle.session.specs.conversation.Means as q
use Rattle.session.specs.conversation.Packets.{refusal_bytes, reply_number}
use Rattle.std.specs.Io.KnownBytes.{Appends}
use Rattle.mysql_handshake.specs.Native.{is_right}
use Rattle.vschema.specs.declared.schema.Keyspace.{Keyspace}
use Rattle.session.specs.declared.conversation.connection_state.PendingLogin.{PendingLogin}
use Rattle.session.specs.conversation.Logins.{Admits, LogsIn, keyspace_named, login_of}
use Rattle.session.specs.conversation.Logins as l
use Rattle.session.specs.declared.conversation.access.Handshake.{Handshake}
use Rattle.session.proofs.conversation.LoginLemmas.{one_login}
use Rattle.client_statements.specs.declared.answers.ClientAnswer.{ClientAnswer}
use Rattle.client_statements.specs.declared.statement.ClientStatement.{ClientStatement}
use Rattle.session.specs.conversation.SessionContext.{SessionContext, status_flags, status_in}
use Rattle.session.specs.conversation.GivesText.{TellsAnswer, TellsClient, AnswersClient, OpensOne, NeedsOne, RunsText, GivesText, named_outcome}
use Rattle.session.specs.conversation.GivesText as g
use Rattle.session.specs.conversation.Talk.{AnswersPayload, Replies, Conversation, set_end_of}
use Rattle.session.specs.conversation.Talk as t

admits_goes : (status number : ℕ) (login : PendingLogin) (right : Bool) (out : List ℕ) (b : ConnectionState) → Admits status number login right out b → b ≡ New → ⊥
admits_goes status number login right _ _ (l.denied wrong) is = cc
admits_goes status number login right _ _ (l.unknown right' none) is = cc
admits_goes status number login right _ _ (l.admitted right' known) is = cc

logs_in_goes : (handshake : Handshake) (keyspaces : List Keyspace) (status : ℕ) (at : Phase) (p : Payload) (out : List ℕ) (b : ConnectionState)
    → LogsIn handshake keyspaces status at p out b → b ≡ New → ⊥
logs_in_goes handshake keyspaces status _ _ _ _ (l.unreadable first none) is = cc
logs_in_goes handshake keyspaces status _ _ _ _ (l.switches r first reads other) is = cc
logs_in_goes handshake keyspaces status _ p _ _ (l.responds {out} {connection_state} r first reads other a) is =
    admits_goes status (reply_number p) (login_of handshake keyspaces r) (is_right handshake.access.stage2 handshake.salt r.answer) out connection_state a is
logs_in_goes handshake keyspaces status _ p _ _ (l.answers {out} {connection_state} {login} first a) is =
    admits_goes status (reply_number p) login (is_right handshake.access.stage2 handshake.salt p.bytes) out connection_state a is

module _ {S : Type 0} (context : SessionContext S) (May : S → List ℕ → Outcome → S → Type 0) where
  module _ (set : Settings) (held : HeldStatements) where
    -- a payload whose reply is these bytes, after which the session stands so
    abbrev Goes : S → Payload → List ℕ → ConnectionState → S → Type 0
    Goes s p out connection_state now = AnswersPayload context May (Commands set held) s p out connection_state now

    as_bytes : (s now : S) (p : Payload) (out bytes : List ℕ) (connection_state : ConnectionState) → out ≡ bytes → Goes s p bytes connection_state now → Goes s p out connection_state now
    as_bytes s now p out bytes connection_state e a = subst (λ (bs : List ℕ). Goes s p bs connection_state now) (sym e) a

    pub one_ping : (s : S) (p : Payload) (out : List ℕ) → p.first ≡ 0 → command_of p.bytes ≡ Some ping
        → out ≡ frame (reply_number p) (ok_payload 0 (status_in context set s)) → Goes s p out (At (Commands set held)) s
    one_ping s p out first is e = as_bytes s s p out _ _ e (t.pinged (eq-eqb p.first 0 first) is)

    pub one_unknown : (s : S) (p : Payload) (out : List ℕ) → p.first ≡ 0 → command_of p.bytes ≡ None
        → out ≡ frame (reply_number p) (err_payload UnknownCommand) → Goes s p out (At (Commands set held)) s
    one_unknown s p out first is e = as_bytes s s p out _ _ e (t.unknown (eq-eqb p.first 0 first) is)

    pub one_line : (s : S) (p : Payload) (out : List ℕ) → p.first ≡ 0 → command_of p.bytes ≡ Some statistics
        → out ≡ frame (reply_number p) statistics_payload → Goes s p out (At (Commands set held)) s
    one_line s p out first is e = as_bytes s s p out _ _ e (t.told_statistics (eq-eqb p.first 0 first) is)

    one_statement : (s : S) (p : Payload) (out : List ℕ) → p.first ≡ 0 → command_of p.bytes ≡ Some (multi_statements false)
        → out ≡ frame (reply_number p) (after_rows (set_end_of set.capabilities) (status_in context set s)) → Goes s p out (At (Commands set held)) s
    one_statement s p out first is e = as_bytes s s p out _ _ e (t.takes_one_statement (eq-eqb p.first 0 first) is)

    no_more_statements : (s : S) (p : Payload) (out : List ℕ) → p.first ≡ 0 → command_of p.bytes ≡ Some (multi_statements true)
        → out ≡ frame (reply_number p) (err_payload NotSupported) → Goes s p out (At (Commands set held)) s
    no_more_statements s p out first is e = as_bytes s s p out _ _ e (t.takes_no_more (eq-eqb p.first 0 first) is)

    pub one_option : (s : S) (p : Payload) (out : List ℕ) (several : Bool) → p.first ≡ 0 → command_of p.bytes ≡ Some (multi_statements several)
        → (several ≡ true → out ≡ frame (reply_number p) (err_payload NotSupported))
        → (several ≡ false → out ≡ frame (reply_number p) (after_rows (set_end_of set.capabilities) (status_in context set s)))
        → Goes s p out (At (Commands set held)) s
    one_option s p out true first is on off = no_more_statements s p out first is (on refl)
    one_option s p out false first is on off = one_statement s p out first is (off refl)

    pub one_reset : (s : S) (p : Payload) (out : List ℕ) → p.first ≡ 0 → command_of p.bytes ≡ Some reset
        → out ≡ frame (reply_number p) (ok_payload 0 (status_flags true false))
        → Goes s p out (At (Commands (settings_at_first set.capabilities set.keyspace) none_held)) (context.dropped s)
    one_reset s p out first is e = as_bytes s (context.dropped s) p out _ _ e (t.reset_all (eq-eqb p.first 0 first) is)

    pub one_selected : (s : S) (p : Payload) (out name : List ℕ) (connection_state : ConnectionState) → p.first ≡ 0 → command_of p.bytes ≡ Some (init_db name)
        → ((ordinal : ℕ) → keyspace_named context.schema.keyspaces name ≡ Some ordinal → (out ≡ frame (reply_number p) (ok_payload 0 (status_in context set s)))
        × (connection_state ≡ At (Commands (record set { keyspace = Some ordinal }) held)))
        → (keyspace_named context.schema.keyspaces name ≡ None → (out ≡ frame (reply_number p) (err_payload UnknownKeyspace)) × (connection_state ≡ At (Commands set held)))
        → Goes s p out connection_state s
    one_selected s p out name connection_state first is known unknown = by_name (keyspace_named context.schema.keyspaces name) refl
      where
        by_name : (found : Option ℕ) → keyspace_named context.schema.keyspaces name ≡ found → Goes s p out connection_state s
        by_name (Some ordinal) e =
            let said = known ordinal e in
            subst (λ (b : ConnectionState). Goes s p out b s) (sym said.1) (as_bytes s s p out _ _ said.0 (t.selected name ordinal (eq-eqb p.first 0 first) is e))
        by_name None e =
            let said = unknown e in
            subst (λ (b : ConnectionState). Goes s p out b s) (sym said.1) (as_bytes s s p out _ _ said.0 (t.unknown_keyspace name (eq-eqb p.first 0 first) is e))

    pub one_query : (then : Settings) (s now : S) (p : Payload) (out text : List ℕ) (outcome : Outcome) → p.first ≡ 0 → command_of p.bytes ≡ Some (query text)
        → GivesText context May set s text outcome then now → out ≡ encoded (set_end_of set.capabilities) outcome (reply_number p) (status_in context then now)
        → Goes s p out (At (Commands then held)) now
    one_query then s now p out text outcome first is gives e = as_bytes s now p out _ _ e (t.queried text outcome (eq-eqb p.first 0 first) is gives)

    pub one_execution : (after : Settings) (then : HeldStatements) (s now : S) (p : Payload) (out bytes text : List ℕ) (outcome : Outcome) → p.first ≡ 0
        → command_of p.bytes ≡ Some (execute bytes) → RunsHeld held bytes text then → GivesText context May set s text outcome after now
        → out ≡ binary_encoded (set_end_of set.capabilities) outcome (reply_number p) (status_in context after now) → Goes s p out (At (Commands after then)) now
    one_execution after then s now p out bytes text outcome first is runs gives e =
        as_bytes s now p out _ _ e (t.executed bytes text outcome (eq-eqb p.first 0 first) is runs gives)

    pub one_statement_reply : (then : HeldStatements) (s : S) (p : Payload) (out : List ℕ) (request : Request) → p.first ≡ 0 → command_of p.bytes ≡ Some request
        → AnswersStatement context.schema (set_end_of set.capabilities) (status_in context set s) (reply_number p) held request out then
        → Goes s p out (At (Commands set then)) s
    one_statement_reply then s p out request first is answers = t.of_statement request (eq-eqb p.first 0 first) is answers

    pub one_quit : (s : S) (p : Payload) (out : List ℕ) → p.first ≡ 0 → command_of p.bytes ≡ Some quit → out ≡ []
        → Goes s p out (Ended Quit) s
    one_quit s p out first is e = as_bytes s s p out _ _ e (t.quits (eq-eqb p.first 0 first) is)

  pub one_out_of_order : (at : Phase) (s : S) (p : Payload) (out : List ℕ) → p.first == first_number at ≡ false → out ≡ refusal_bytes p.first PacketsOutOfOrder
      → AnswersPayload context May at s p out (Ended Broken) s
  one_out_of_order at s p out first e = subst (λ (bs : List ℕ). AnswersPayload context May at s p bs (Ended Broken) s) (sym e) (t.out_of_order first)

  -- what is written leads to no new session
  answers_go : (at : Phase) (s now : S) (p : Payload) (out : List ℕ) (b : ConnectionState) → AnswersPayload context May at s p out b now → b ≡ New → ⊥
  answers_go _ _ _ _ _ _ (t.out_of_order first) is = cc
  answers_go at s _ p _ _ (t.logs_in {out} {connection_state} logs) is = logs_in_goes context.handshake context.schema.keyspaces (status_flags true (context.is_open s)) at p out connection_state logs is
  answers_go _ _ _ _ _ _ (t.quits first command) is = cc
  answers_go _ _ _ _ _ _ (t.unknown first command) is = cc
  answers_go _ _ _ _ _ _ (t.pinged first command) is = cc
  answers_go _ _ _ _ _ _ (t.selected name ordinal first command known) is = cc
  answers_go _ _ _ _ _ _ (t.unknown_keyspace name first command known) is = cc
  answers_go _ _ _ _ _ _ (t.queried text outcome first command gives) is = cc
  answers_go _ _ _ _ _ _ (t.told_statistics first command) is = cc
  answers_go _ _ _ _ _ _ (t.takes_one_statement first command) is = cc
  answers_go _ _ _ _ _ _ (t.takes_no_more first command) is = cc
  answers_go _ _ _ _ _ _ (t.reset_all first command) is = cc
  answers_go _ _ _ _ _ _ (t.executed bytes text outcome first command runs gives) is = cc
  answers_go _ _ _ _ _ _ (t.of_statement request first command answers) is = cc

  pub never_new : (at : Phase) (s now : S) (p : Payload) (b : ConnectionState) (a c : Option (List ℕ)) → b ≡ New
      → (out : List ℕ) × Appends a c out × AnswersPayload context May at s p out b now → ⊥
  never_new at s now p b a c is said = answers_go at s now p said.0 b said.2 is

  -- what is written for one payload
  pub one_reply : (at : Phase) (s now : S) (p : Payload) (out : List ℕ) (connection_state : ConnectionState) → AnswersPayload context May at s p out connection_state now
      → Replies context May at s (p ∷ []) out connection_state now
  one_reply at s now p out (At next) a =
      subst (λ (bs : List ℕ). Replies context May at s (p ∷ []) bs (At next) now) (append-nil out) (t.goes a t.none)
  one_reply at s now p out (Ended end) a = t.ends a
  one_reply at s now p out New a = absurd (answers_go at s now p out New a refl)

  -- the payloads behind those that are answered
  pub go_on : (at next : Phase) (s mid now : S) (ps qs : List Payload) (out more : List ℕ) (b connection_state : ConnectionState) → b ≡ At next
      → Replies context May at s ps out b mid → Replies context May next mid qs more connection_state now → Replies context May at s (ps ++ qs) (out ++ more) connection_state now
  go_on _ next _ _ now _ qs _ more _ connection_state is (t.none {at} {s}) rest =
      let same : next ≡ at = cc in subst (λ (x : Phase). Replies context May x s qs more connection_state now) same rest
  go_on _ next _ _ now _ qs _ more _ connection_state is (t.goes {at} {next = then} {s} {mid = half} {t = mid} {p} {more = ps} {out} {rest = told} {connection_state = b} a r) rest =
      subst (λ (bs : List ℕ). Replies context May at s (p ∷ ps ++ qs) bs connection_state now) (sym (append_assoc out told more))
      (t.goes a (go_on then next half mid now ps qs told more b connection_state is r rest))
  go_on _ next _ _ now _ qs _ more _ connection_state is (t.ends a) rest = absurd (cc)

  pub not_new : (at : Phase) (s now : S) (ps : List Payload) (out : List ℕ) (b : ConnectionState) → b ≡ New → Replies context May at s ps out b now → ⊥
  not_new _ _ _ _ _ _ is t.none = cc
  not_new _ _ _ _ _ _ is (t.goes {next} {mid} {t = now} {more = ps} {rest} {connection_state = b} a r) = not_new next mid now ps rest b is r
  not_new _ _ _ _ _ _ is (t.ends a) = cc

  follow : (at : Phase) (b connection_state : ConnectionState) (s mid now : S) (ps qs : List Payload) (out more : List ℕ) → Conversation context May b mid qs more connection_state now
      → (b' : ConnectionState) → b' ≡ b → Replies context May at s ps out b' mid → Replies context May at s (ps ++ qs) (out ++ more) connection_state now
  follow at _ _ s _ _ ps _ out _ (t.new {s = mid}) b' is r = absurd (not_new at s mid ps out b' is r)
  follow at _ _ s _ _ ps qs out _ (t.begun {connection_state} {s = mid} {t = now} {out = more} t.greets q) b' is r = absurd (not_new at s mid ps out b' is r)
  follow at _ _ s _ _ ps qs out _ (t.begun {connection_state} {at = next} {s = mid} {t = now} {out = more} t.goes_on q) b' is r =
      go_on at next s mid now ps qs out more b' connection_state is r q

  -- a conversation that goes on
  pub talk_on : (begin b connection_state : ConnectionState) (s mid now : S) (ps qs : List Payload) (out more : List ℕ) → Conversation context May begin s ps out b mid
      → Conversation context May b mid qs more connection_state now → Conversation context May begin s (ps ++ qs) (out ++ more) connection_state now
  talk_on _ _ connection_state _ _ now _ qs _ more t.new rest = rest
  talk_on _ _ connection_state _ _ now _ qs _ more (t.begun {begin} {connection_state = b} {at} {s} {t = mid} {ps} {front} {out} g r) rest =
      subst (λ (bs : List ℕ). Conversation context May begin s (ps ++ qs) bs connection_state now) (sym (append_assoc front out more))
      (t.begun g (follow at b connection_state s mid now ps qs out more rest b refl r))

  -- payloads behind the end are not answered
  pub stay_ended : (at : Phase) (s now : S) (ps qs : List Payload) (out : List ℕ) (b : ConnectionState) (end : End) → b ≡ Ended end
      → Replies context May at s ps out b now → Replies context May at s (ps ++ qs) out b now
  stay_ended _ _ _ _ qs _ _ end is t.none = absurd (cc)
  stay_ended _ _ _ _ qs _ _ end is (t.goes {at} {next} {s} {mid} {t = now} {p} {more = ps} {out} {rest} {connection_state = b} a r) =
      t.goes a (stay_ended next mid now ps qs rest b end is r)
  stay_ended _ _ _ _ qs _ _ end is (t.ends a) = t.ends a

shows_rows : (schema : VSchema) (x : Answer) (outcome : Outcome) → Shows schema x outcome → IsRows outcome → HasRows x
shows_rows schema _ _ (q.rows columns) rows = tt
shows_rows schema _ _ q.count rows = absurd rows

-- rows for which there is no memory
unshown : (o : Opening) (l : Limits) (s : PassAndTransaction) (text : List ℕ) (outcome : Outcome) (now : PassAndTransaction) → Means o l s text outcome now → IsRows outcome
    → Means o l s text (Refused OutOfMemory) now
unshown o l s text outcome now (q.answered reply is shows) rows = q.untold reply is (shows_rows o.schema reply.answer outcome shows rows)
unshown o l s text _ now (q.untold reply is has) rows = absurd rows
unshown o l s text _ now (q.refused why) rows = absurd rows

unshown_answer : (x : ClientAnswer) (outcome : Outcome) → TellsAnswer x outcome → IsRows outcome → TellsAnswer x (Refused OutOfMemory)
unshown_answer _ _ (g.rows all) rows = g.untold
unshown_answer _ _ g.untold rows = absurd rows
unshown_answer _ _ g.refused rows = absurd rows

unshown_by_itself : (schema : VSchema) (handshake : Handshake) (set then : Settings) (statement : ClientStatement) (outcome : Outcome)
    → TellsClient schema handshake set statement outcome then → IsRows outcome → TellsClient schema handshake set statement (Refused OutOfMemory) then
unshown_by_itself schema handshake set _ _ _ g.holds rows = absurd rows
unshown_by_itself schema handshake set _ _ _ (g.stays is) rows = absurd rows
unshown_by_itself schema handshake set _ _ _ g.turned_off rows = absurd rows
unshown_by_itself schema handshake set _ _ _ g.not_supported rows = absurd rows
unshown_by_itself schema handshake set _ _ _ (g.used is) rows = absurd rows
unshown_by_itself schema handshake set _ _ _ (g.not_used is) rows = absurd rows
unshown_by_itself schema handshake set _ _ _ (g.told {answer} {outcome} is tells) rows = g.told is (unshown_answer answer outcome tells rows)
unshown_by_itself schema handshake set _ _ _ (g.no_memory is) rows = absurd rows

unshown_client : (o : Opening) (l : Limits) (handshake : Handshake) (set then : Settings) (s now : PassAndTransaction) (statement : ClientStatement) (outcome : Outcome)
    → AnswersClient (context_of o handshake) (Means o l) set s statement outcome then now → IsRows outcome
    → AnswersClient (context_of o handshake) (Means o l) set s statement (Refused OutOfMemory) then now
unshown_client o l handshake set _ s _ _ _ (g.begun {outcome} {now} may) rows = g.begun (unshown o l s (codes "BEGIN") outcome now may rows)
unshown_client o l handshake set _ s _ _ _ (g.turned_on off none) rows = absurd rows
unshown_client o l handshake set _ s _ _ _ (g.committed off held may) rows = absurd rows
unshown_client o l handshake set _ s _ _ _ (g.not_committed off held may) rows = absurd rows
unshown_client o l handshake set _ s _ _ _ (g.by_itself {statement} {outcome} {then} tells) rows =
    g.by_itself (unshown_by_itself o.schema handshake set then statement outcome tells rows)

unshown_run : (o : Opening) (l : Limits) (handshake : Handshake) (set : Settings) (s now : PassAndTransaction) (text : List ℕ) (outcome : Outcome)
    → RunsText (context_of o handshake) (Means o l) set s text outcome now → IsRows outcome → RunsText (context_of o handshake) (Means o l) set s text (Refused OutOfMemory) now
unshown_run o l handshake set s _ text _ (g.alone {outcome} {now} none may) rows = g.alone none (unshown o l s text outcome now may rows)
unshown_run o l handshake set s _ text _ (g.after_begin {outcome} {mid} {now} needs opens begun may) rows =
    g.after_begin needs opens begun (unshown o l mid text outcome now may rows)
unshown_run o l handshake set s _ text _ (g.not_begun needs opens may) rows = absurd rows
unshown_run o l handshake set s _ text _ (g.not_read needs) rows = absurd rows

-- names are given to the columns of rows alone
pub rows_unnamed : (names : List (Option (List ℕ))) (outcome : Outcome) → IsRows (named_outcome names outcome) → IsRows outcome
rows_unnamed names (Rows set) rows = tt
rows_unnamed names (Count n) rows = absurd rows
rows_unnamed names (Refused why) rows = absurd rows

unshown_text : (o : Opening) (l : Limits) (handshake : Handshake) (set then : Settings) (s now : PassAndTransaction) (text : List ℕ) (outcome : Outcome)
    → GivesText (context_of o handshake) (Means o l) set s text outcome then now → IsRows outcome
    → GivesText (context_of o handshake) (Means o l) set s text (Refused OutOfMemory) then now
unshown_text o l handshake set _ s _ text _ (g.run {outcome} {now} runs not_run held unsaid) rows =
    g.run (unshown_run o l handshake set s now text outcome runs rows) (λ e statement is_asked. cc) held (λ e whole names is_said. cc)
unshown_text o l handshake set _ s _ text _ (g.said {outcome} {refused} {mid} {now} whole names runs not_run none is_said again) rows =
    g.said {outcome = Refused OutOfMemory} whole names runs not_run none is_said
    (unshown_run o l handshake set mid now whole outcome again (rows_unnamed names outcome rows))
unshown_text o l handshake set _ s _ text _ (g.asked {reply} {then} {mid} {now} statement runs not_run is_asked answers) rows =
    g.asked statement runs not_run is_asked (unshown_client o l handshake set then mid now statement reply answers rows)
unshown_text o l handshake set _ s _ text _ (g.not_held sets is_asked) rows = absurd rows
unshown_text o l handshake set _ s _ text _ g.not_looked rows = absurd rows
unshown_text o l handshake set _ s _ text _ (g.unread runs not_run) rows = absurd rows

-- ---- what is kept

-- what is kept tells whether a transaction is open
status_is : (o : Opening) (p : PassView Entry) (kept : Option OpenView) (t : Option Transaction) → Represents o p kept t → is_some kept ≡ is_some t
status_is o p _ _ stands.closed = refl
status_is o p _ _ (stands.unbound legal all none) = refl
status_is o p _ _ (stands.bound is) = refl

pub kept_status : (o : Opening) (p : PassView Entry) (kept : Option OpenView) (s : PassAndTransaction) → IsKept o p kept s → is_some kept ≡ is_some s.tx
kept_status o p kept s is = status_is o p kept s.tx is.1

-- where autocommit is off and none is kept, one is needed
pub needs_one : (o : Opening) (handshake : Handshake) (set : Settings) (p : PassView Entry) (kept : Option OpenView) (s : PassAndTransaction) → kept ≡ None → set.autocommit ≡ false
    → IsKept o p kept s → NeedsOne (context_of o handshake) set s
needs_one o handshake set p kept s none off held = (off, sym (kept_status o p kept s held) ∙ ap (λ (k : Option OpenView). is_some k) none)

-- what a statement gives, from whatever was kept
pub gives : (o : Opening) (p q : PassView Entry) (kept then : Option OpenView) (R : PassAndTransaction → PassAndTransaction → Type 0)
    → ((t : Option Transaction) → Represents o p kept t
    → (u : Option Transaction) × R (record { pass = p; tx = t }) (record { pass = q; tx = u }) × Represents o q then u)
    → LeadsKept o p kept q then R
gives o p q kept then R said = λ s is.
    let next = said s.tx is.1 in
    let whole : record { pass = p; tx = s.tx } ≡ s = ap (λ (x : PassView Entry). record s { pass = x }) (sym is.0) in (
      record { pass = q; tx = next.0 },
      (refl, next.2),
      subst (λ (x : PassAndTransaction). R x (record { pass = q; tx = next.0 })) whole next.1,
    )

-- without a transaction
pub none_stands : (o : Opening) (p : PassView Entry) (then : Option OpenView) → then ≡ None → (t : Option Transaction) × Represents o p then t
none_stands o p then none = (None, subst (λ (x : Option OpenView). Represents o p x None) (sym none) stands.closed)

-- COM_RESET_CONNECTION, whatever was kept
pub reset_kept : (o : Opening) (l : Limits) (handshake : Handshake) (set anew : Settings) (held_then none_then : HeldStatements) (p : PassView Entry) (kept then : Option OpenView) (payload : Payload) (out : List ℕ)
    (status : ℕ) → payload.first ≡ 0 → command_of payload.bytes ≡ Some reset → then ≡ None → status ≡ status_flags true false
    → anew ≡ settings_at_first set.capabilities set.keyspace → none_then ≡ none_held → out ≡ frame (reply_number payload) (ok_payload 0 status)
    → LeadsKept o p kept p then (λ s now. AnswersPayload (context_of o handshake) (Means o l) (Commands set held_then) s payload out (At (Commands anew none_then)) now)
reset_kept o l handshake set anew held_then none_then p kept then payload out status first is none flags begins empty written = λ s held.
    let e : out ≡ frame (reply_number payload) (ok_payload 0 (status_flags true false)) =
    written ∙ ap (λ (n : ℕ). frame (reply_number payload) (ok_payload 0 n)) flags in (
      none_open s.pass,
      (held.0, subst (λ (x : Option OpenView). Represents o p x None) (sym none) stands.closed),
      subst (λ (x : HeldStatements). AnswersPayload (context_of o handshake) (Means o l) (Commands set held_then) s payload out (At (Commands anew x)) (none_open s.pass)) (sym empty)
          (subst (λ (x : Settings). AnswersPayload (context_of o handshake) (Means o l) (Commands set held_then) s payload out (At (Commands x none_held)) (none_open s.pass)) (sym begins)
          (one_reset (context_of o handshake) (Means o l) set held_then s payload out first is e)),
    )

-- one after the other
pub then_leads : (o : Opening) (p q r : PassView Entry) (kept mid then : Option OpenView) (R T U : PassAndTransaction → PassAndTransaction → Type 0)
    → LeadsKept o p kept q mid R → LeadsKept o q mid r then T
    → ((s m now : PassAndTransaction) → R s m → T m now → U s now) → LeadsKept o p kept r then U
then_leads o p q r kept mid then R T U first second join = λ s held.
    let one = first s held in
    let two = second one.0 one.1 in
    (two.0, two.1, join s one.0 two.0 one.2 two.2)

-- a text after BEGIN
pub begun_then : (o : Opening) (l : Limits) (handshake : Handshake) (set : Settings) (p q r : PassView Entry) (kept mid then : Option OpenView) (text : List ℕ) (outcome : Outcome)
    → kept ≡ None → set.autocommit ≡ false → OpensOne text → LeadsKept o p kept q mid (λ s now. Means o l s (codes "BEGIN") (Count 0) now)
    → LeadsKept o q mid r then (λ s now. Means o l s text outcome now)
    → LeadsKept o p kept r then (λ s now. RunsText (context_of o handshake) (Means o l) set s text outcome now)
begun_then o l handshake set p q r kept mid then text outcome none off opens begins runs = λ s held.
    let one = begins s held in
    let two = runs one.0 one.1 in
    (two.0, two.1, g.after_begin (needs_one o handshake set p kept s none off held) opens one.2 two.2)

-- a text's outcome, told in this form under the status that is kept then
pub one_text_or_refusal : (o : Opening) (l : Limits) (handshake : Handshake) (set after : Settings) (form : RowForm) (p q : PassView Entry) (kept then : Option OpenView)
    (number : ℕ) (out text : List ℕ) (outcome : Outcome) (Goes : PassAndTransaction → PassAndTransaction → Type 0)
    → ((s now : PassAndTransaction) (x : Outcome) → GivesText (context_of o handshake) (Means o l) set s text x after now
    → out ≡ encoded_in form (set_end_of set.capabilities) x number (status_flags after.autocommit (is_some now.tx)) → Goes s now)
    → LeadsKept o p kept q then (λ s now. GivesText (context_of o handshake) (Means o l) set s text outcome after now)
    → TellsOutcome form (set_end_of set.capabilities) outcome number (status_flags after.autocommit (is_some then)) out
    → LeadsKept o p kept q then Goes
one_text_or_refusal o l handshake set after form p q kept then number out text outcome Goes goes gives told = λ s held.
    let next = gives s held in
    let now = next.0 in
    let same : is_some then ≡ is_some now.tx = kept_status o q then now next.1 in
    (now, next.1, by s now same next.2 told)
  where
    Encoded : Outcome → Bool → List ℕ
    Encoded x is_open = encoded_in form (set_end_of set.capabilities) x number (status_flags after.autocommit is_open)

    by : (s now : PassAndTransaction) → is_some then ≡ is_some now.tx → GivesText (context_of o handshake) (Means o l) set s text outcome after now
        → (out ≡ Encoded outcome (is_some then)) ⊎ (IsRows outcome × (out ≡ Encoded (Refused OutOfMemory) (is_some then))) → Goes s now
    by s now same gives (inl e) = goes s now outcome gives (e ∙ ap (λ (b : Bool). Encoded outcome b) same)
    by s now same gives (inr (rows, e)) =
        goes s now (Refused OutOfMemory) (unshown_text o l handshake set after s now text outcome gives rows) (e ∙ ap (λ (b : Bool). Encoded (Refused OutOfMemory) b) same)

-- the answer to a command of prepared statements that runs none
pub statement_kept : (o : Opening) (l : Limits) (handshake : Handshake) (schema : VSchema) (set : Settings) (held_now held_then : HeldStatements) (p : PassView Entry) (kept : Option OpenView)
    (payload : Payload) (status : ℕ) (out : List ℕ) (request : Request) (connection_state : ConnectionState) → payload.first ≡ 0 → command_of payload.bytes ≡ Some request
    → schema ≡ o.schema → status ≡ status_flags set.autocommit (is_some kept) → connection_state ≡ At (Commands set held_then)
    → AnswersStatement schema (set_end_of set.capabilities) status (reply_number payload) held_now request out held_then
    → LeadsKept o p kept p kept (λ s now. AnswersPayload (context_of o handshake) (Means o l) (Commands set held_now) s payload out connection_state now)
statement_kept o l handshake schema set held_now held_then p kept payload status out request connection_state first is served told goes answers = λ s held.
    let status_now : status ≡ status_flags set.autocommit (is_some s.tx) = told ∙ ap (λ (b : Bool). status_flags set.autocommit b) (kept_status o p kept s held) in (
      s,
      held,
      subst (λ (b : ConnectionState). AnswersPayload (context_of o handshake) (Means o l) (Commands set held_now) s payload out b s) (sym goes)
          (one_statement_reply (context_of o handshake) (Means o l) set held_now held_then s payload out request first is
          (subst (λ (n : ℕ). AnswersStatement o.schema (set_end_of set.capabilities) n (reply_number payload) held_now request out held_then) status_now
          (subst (λ (v : VSchema). AnswersStatement v (set_end_of set.capabilities) status (reply_number payload) held_now request out held_then) served answers))),
    )

-- rows as they are shown, or the refusal for want of memory
pub shown_or_full : (schema : VSchema) (selected : Selected) (outcome : Outcome) → Shows schema (answer.Rows selected) outcome ⊎ (outcome ≡ Refused OutOfMemory)
    → Shows schema (answer.Rows selected) outcome ⊎ (HasRows (answer.Rows selected) × (outcome ≡ Refused OutOfMemory))
shown_or_full schema selected outcome (inl is) = inl is
shown_or_full schema selected outcome (inr is) = inr (tt, is)

-- a result set with the columns and rows of an answer
pub shows : (schema : VSchema) (selected : Selected) (set : ResultSet) → AreColumns schema selected.table selected.join selected.items selected.qualified set.columns
    → set.rows ≡ selected.rows → Shows schema (answer.Rows selected) (Rows set)
shows schema selected set columns rows =
    let E : List Row → Type 0 = λ rs. Shows schema (answer.Rows selected) (Rows (record { columns = set.columns; rows = rs })) in
    subst E (sym rows) (q.rows columns)

-- a reply as its client is told it
pub replied : (o : Opening) (l : Limits) (s now : PassAndTransaction) (text : List ℕ) (reply : Reply) (outcome : Outcome) (schema : VSchema) → schema ≡ o.schema
    → Shows schema reply.answer outcome ⊎ (HasRows reply.answer × (outcome ≡ Refused OutOfMemory)) → IsReplyTo o l s text reply now → Means o l s text outcome now
replied o l s now text reply outcome schema served (inl shows) is =
    q.answered reply is (subst (λ (v : VSchema). Shows v reply.answer outcome) served shows)
replied o l s now text reply outcome schema served (inr (rows, full)) is =
    subst (λ (x : Outcome). Means o l s text x now) (sym full) (q.untold reply is rows)

-- a payload of the connection phase
pub login_kept : (o : Opening) (l : Limits) (handshake : Handshake) (keyspaces : List Keyspace) (p : PassView Entry) (kept : Option OpenView) (at then : Phase) (payload : Payload)
    (status : ℕ) (out : List ℕ) (connection_state : ConnectionState) → at ≡ then → keyspaces ≡ o.schema.keyspaces → status ≡ status_flags true (is_some kept)
    → LogsIn handshake keyspaces status then payload out connection_state
    → LeadsKept o p kept p kept (λ s now. AnswersPayload (context_of o handshake) (Means o l) at s payload out connection_state now)
login_kept o l handshake keyspaces p kept at then payload status out connection_state is known told logs = λ s held.
    let status_now : status ≡ status_flags true (is_some s.tx) = told ∙ ap (λ (b : Bool). status_flags true b) (kept_status o p kept s held) in (
      s,
      held,
      one_login (context_of o handshake) (Means o l) at then keyspaces s payload out connection_state is known
          (subst (λ (n : ℕ). LogsIn handshake keyspaces n then payload out connection_state) status_now logs),
    )

-- what other words give under their names; if there is no memory for these, F1
pub said_or_full : (o : Opening) (l : Limits) (handshake : Handshake) (set : Settings) (p q : PassView Entry) (kept then : Option OpenView) (whole : List ℕ)
    (names : List (Option (List ℕ))) (outcome told : Outcome) → (told ≡ named_outcome names outcome) ⊎ (IsRows outcome × (told ≡ Refused OutOfMemory))
    → LeadsKept o p kept q then (λ s now. RunsText (context_of o handshake) (Means o l) set s whole outcome now)
    → (x : Outcome) × (told ≡ named_outcome names x) × LeadsKept o p kept q then (λ s now. RunsText (context_of o handshake) (Means o l) set s whole x now)
said_or_full o l handshake set p q kept then whole names outcome told (inl is) leads = (outcome, is, leads)
said_or_full o l handshake set p q kept then whole names outcome told (inr (rows, is)) leads = (
  Refused OutOfMemory,
  is,
  λ s held. let next = leads s held in (next.0, next.1, unshown_run o l handshake set s next.0 whole outcome next.2 rows),
)
