-- Where no other session comes between, a conversation is one over one database.
use Rattle.std.specs.Prelude.{is_some, codes}
use Rattle.std.proofs.Common.{◌≡◌, Bool, true, ℕ, List, Option, Some, None, refl, sym, ap, subst, ◌∙◌}
use mathlib.Core.List.{IsPrefix}
use Rattle.mysql_packet.specs.declared.framer.Fed.{Fed}
use Rattle.mysql_packet.specs.declared.framer.Payload.{Payload}
use Rattle.mysql_packet.specs.Frames.{frame}
use Rattle.mysql_message.specs.Messages.{ok_payload}
use Rattle.vt_value.specs.declared.refusal.Refusal.TheVariants.{SyntaxError}
use Rattle.resultset.specs.declared.Outcome.{Outcome}
use Rattle.resultset.specs.declared.Outcome.TheVariants.{Count, Refused}
use Rattle.resultset.specs.BinaryRows.{binary_encoded}
use Rattle.session.specs.conversation.Prepared.{AnswersStatement}
use Rattle.resultset.specs.Encoding.{encoded, after_rows}
use Rattle.vschema.specs.WellFormed.{is_vschema}
use Rattle.vschema.specs.Database.{Database}
use Rattle.journal.specs.Runs.{IsLegal}
use Rattle.journal.specs.Views.{PassView}
use Rattle.journal.proofs.Fronts.{prefix_self, prefix_trans}
use Rattle.shard_run.specs.Runs.{Run, Opening, database}
use Rattle.shard_run.specs.Openings.{IsOpening}
use Rattle.shard_run.specs.declared.Entry.{Entry}
use Rattle.route_engine.specs.Limits.{Limits}
use Rattle.route_engine.specs.Entries.{MayFollow}
use Rattle.route_engine.specs.Alone.{NoOthers}
use Rattle.route_engine.specs.Transactions.{Transaction}
use Rattle.route_engine.specs.Pendings.{OpenView}
use Rattle.route_engine.proofs.NoOthers.{up_to, trailing}
use Rattle.session.specs.declared.conversation.end.End.{End}
use Rattle.session.specs.declared.conversation.access.Handshake.{Handshake}
use Rattle.session.specs.conversation.Sessions.{AnswersFed}
use Rattle.session.specs.conversation.Sessions as sessions
use Rattle.session.specs.declared.conversation.connection_state.Phase.{Phase}
use Rattle.session.specs.declared.conversation.connection_state.Phase.TheVariants.{Commands}
use Rattle.session.specs.declared.conversation.connection_state.ConnectionState.{ConnectionState}
use Rattle.session.specs.declared.conversation.connection_state.ConnectionState.TheVariants.{At, Ended}
use Rattle.session.specs.conversation.Packets.{reply_number}
use Rattle.session.specs.conversation.Logins.{LogsIn}
use Rattle.session.specs.conversation.Means.{PassAndTransaction, IsKept, Means, none_open, context_of}
use Rattle.session.specs.conversation.Means as means
use Rattle.session.specs.Alone.{Alone, OneState, AnsweredStatement, MeansOver, MeansAlone, IsOverAt, alone_context, without_transaction}
use Rattle.session.specs.Alone as over
use Rattle.client_statements.specs.declared.statement.ClientStatement.{ClientStatement}
use Rattle.session.specs.declared.conversation.connection_state.Settings.{Settings}
use Rattle.session.specs.conversation.SessionContext.{status_flags}
use Rattle.session.specs.conversation.GivesText.{NeedsOne, RunsText, AnswersClient, GivesText}
use Rattle.session.specs.conversation.GivesText as given
use Rattle.session.specs.conversation.Talk.{AnswersPayload, Replies, Conversation, Talk, set_end_of}
use Rattle.session.specs.conversation.Talk as t
use Rattle.session.proofs.Servings.{SoFar}
use Rattle.session.proofs.Steps.{Follows, stays, answer_on, refusal_at_on}
use Rattle.session.proofs.OneDatabase.{Goes, answer_over, refused_over}

-- ---- the same pass

pub same_legal : (o : Opening) (p q : PassView Entry) → p ≡ q → IsLegal (MayFollow o) q.seen → IsLegal (MayFollow o) p.seen
same_legal o p q e legal = subst (λ (x : PassView Entry). IsLegal (MayFollow o) x.seen) (sym e) legal

pub same_others : (p q p' q' : PassView Entry) → p ≡ p' → q ≡ q' → NoOthers p' q' → NoOthers p q
same_others p q p' q' e f others =
    subst (λ (x : PassView Entry). NoOthers x q) (sym e) (subst (λ (x : PassView Entry). NoOthers p' x) (sym f) others)

pub kept_same : (o : Opening) (p : PassView Entry) (kept : Option OpenView) (s x : PassAndTransaction) → x ≡ s → IsKept o p kept s → IsKept o p kept x
kept_same o p kept s x e is = subst (λ (y : PassAndTransaction). IsKept o p kept y) (sym e) is

module _ (o : Opening) (l : Limits) (handshake : Handshake) where
  abbrev May : PassAndTransaction → List ℕ → Outcome → PassAndTransaction → Type 0
  May = Means o l

  -- ---- what a payload leaves of the pass

  means_on : (s : PassAndTransaction) (text : List ℕ) (outcome : Outcome) (now : PassAndTransaction) → May s text outcome now → Follows o s.pass now.pass
  means_on s text _ now (means.answered reply is shows) = answer_on o l text s now reply is
  means_on s text _ now (means.untold reply is rows) = answer_on o l text s now reply is
  means_on s text _ now (means.refused {r} why) = refusal_at_on o l text s now r why

  follow_on : (p mid now : PassView Entry) → Follows o p mid → Follows o mid now → Follows o p now
  follow_on p mid now database two = record {
    later = prefix_trans p.seen mid.seen now.seen database.later two.later;
    legal = λ h. two.legal (database.legal h);
    session = two.session ∙ database.session;
  }

  client_on : (set then : Settings) (s now : PassAndTransaction) (statement : ClientStatement) (outcome : Outcome)
      → AnswersClient (context_of o handshake) May set s statement outcome then now → Follows o s.pass now.pass
  client_on set _ s _ _ _ (given.begun {outcome} {now} may) = means_on s (codes "BEGIN") outcome now may
  client_on set _ s _ _ _ (given.turned_on off none) = stays o l s.pass
  client_on set _ s _ _ _ (given.committed {now} off held may) = means_on s (codes "COMMIT") (Count 0) now may
  client_on set _ s _ _ _ (given.not_committed {why} {now} off held may) = means_on s (codes "COMMIT") (Refused why) now may
  client_on set _ s _ _ _ (given.by_itself tells) = stays o l s.pass

  run_on : (set : Settings) (s now : PassAndTransaction) (text : List ℕ) (outcome : Outcome) → RunsText (context_of o handshake) May set s text outcome now
      → Follows o s.pass now.pass
  run_on set s _ text _ (given.alone {outcome} {now} none may) = means_on s text outcome now may
  run_on set s _ text _ (given.after_begin {outcome} {mid} {now} needs opens begun may) =
      follow_on s.pass mid.pass now.pass (means_on s (codes "BEGIN") (Count 0) mid begun) (means_on mid text outcome now may)
  run_on set s _ text _ (given.not_begun {why} {now} needs opens may) = means_on s (codes "BEGIN") (Refused why) now may
  run_on set s _ text _ (given.not_read needs) = stays o l s.pass

  text_on : (set then : Settings) (s now : PassAndTransaction) (text : List ℕ) (outcome : Outcome) → GivesText (context_of o handshake) May set s text outcome then now
      → Follows o s.pass now.pass
  text_on set _ s _ text _ (given.run {outcome} {now} runs not_run held unsaid) = run_on set s now text outcome runs
  text_on set _ s _ text _ (given.said {outcome} {refused} {mid} {now} whole names runs not_run none is_said again) =
      follow_on s.pass mid.pass now.pass (run_on set s mid text refused runs) (run_on set mid now whole outcome again)
  text_on set _ s _ text _ (given.asked {outcome} {reply} {then} {mid} {now} statement runs not_run is_asked answers) =
      follow_on s.pass mid.pass now.pass (run_on set s mid text outcome runs) (client_on set then mid now statement reply answers)
  text_on set _ s _ text _ (given.not_held sets is_asked) = stays o l s.pass
  text_on set _ s _ text _ given.not_looked = stays o l s.pass
  text_on set _ s _ text _ (given.unread {outcome} {now} runs not_run) = run_on set s now text outcome runs

  answers_on : (at : Phase) (s now : PassAndTransaction) (p : Payload) (out : List ℕ) (b : ConnectionState) → AnswersPayload (context_of o handshake) May at s p out b now
      → Follows o s.pass now.pass
  answers_on _ s _ _ _ _ (t.out_of_order first) = stays o l s.pass
  answers_on _ s _ _ _ _ (t.logs_in is) = stays o l s.pass
  answers_on _ s _ _ _ _ (t.quits first command) = stays o l s.pass
  answers_on _ s _ _ _ _ (t.unknown first command) = stays o l s.pass
  answers_on _ s _ _ _ _ (t.pinged first command) = stays o l s.pass
  answers_on _ s _ _ _ _ (t.selected name place first command is) = stays o l s.pass
  answers_on _ s _ _ _ _ (t.unknown_keyspace name first command is) = stays o l s.pass
  answers_on _ s _ _ _ _ (t.queried {set} {after} {now} text outcome first command gives) = text_on set after s now text outcome gives
  answers_on _ s _ _ _ _ (t.told_statistics first command) = stays o l s.pass
  answers_on _ s _ _ _ _ (t.takes_one_statement first command) = stays o l s.pass
  answers_on _ s _ _ _ _ (t.takes_no_more first command) = stays o l s.pass
  answers_on _ s _ _ _ _ (t.reset_all first command) = stays o l s.pass
  answers_on _ s _ _ _ _ (t.executed {set} {after} {now} bytes text outcome first command runs gives) = text_on set after s now text outcome gives
  answers_on _ s _ _ _ _ (t.of_statement request first command answers) = stays o l s.pass

  replies_later : (at : Phase) (s now : PassAndTransaction) (ps : List Payload) (out : List ℕ) (b : ConnectionState) → Replies (context_of o handshake) May at s ps out b now
      → IsPrefix s.pass.seen now.pass.seen
  replies_later _ s _ _ _ _ t.none = prefix_self s.pass.seen
  replies_later _ s _ _ _ _ (t.goes {at} {next} {mid} {t = now} {p} {more = ps} {out} {rest} {connection_state = b} a r) =
      prefix_trans s.pass.seen mid.pass.seen now.pass.seen (answers_on at s mid p out (At next) a).later (replies_later next mid now ps rest b r)
  replies_later _ s _ _ _ _ (t.ends {at} {t = now} {p} {out} {end} a) = (answers_on at s now p out (Ended end) a).later

  -- ---- over the one database

  status_at : (run : Run) (tx : Option Transaction) (told : Option (List AnsweredStatement)) → IsOverAt o run tx told → is_some tx ≡ is_some told
  status_at run None None h = refl
  status_at run None (Some told) h = absurd h
  status_at run (Some tx) None h = absurd h
  status_at run (Some tx) (Some told) h = refl

  same_status : (x : Alone o) (s : PassAndTransaction) → x.kept ≡ s → is_some s.tx ≡ is_some x.state.open_one
  same_status x s e = ap (λ (y : PassAndTransaction). is_some y.tx) (sym e) ∙ status_at x.kept.pass.seen x.kept.tx x.state.open_one x.tx

  -- it stands for that state
  abbrev Over_it : PassAndTransaction → (Alone o → Type 0) → Type 0
  Over_it now P = (y : Alone o) × (y.kept ≡ now) × P y

  module _ (opens : IsOpening o) (formed : is_vschema o.schema ≡ true) where
    alone_at : (x : Alone o) (text : List ℕ) (outcome : Outcome) (now : PassAndTransaction) → May x.kept text outcome now
        → Goes o x.kept.pass now (λ y. MeansOver o.schema x.state text outcome y) → Over_it now (λ y. MeansAlone o l x text outcome y)
    alone_at x text outcome now may g =
        (record { kept = now; state = g.state; rows = g.rows; tx = g.tx }, refl, record { means = may; over = g.holds })

    -- of the state that it knows
    as_state : (x : Alone o) → record { db = database o x.kept.pass.seen; open_one = x.state.open_one } ≡ x.state
    as_state x = ap (λ (db : Database). record x.state { db = db }) (sym x.rows)

    means_over : (x : Alone o) (text : List ℕ) (outcome : Outcome) (now : PassAndTransaction) → May x.kept text outcome now → IsLegal (MayFollow o) x.kept.pass.seen
        → NoOthers x.kept.pass now.pass → Goes o x.kept.pass now (λ y. MeansOver o.schema x.state text outcome y)
    means_over x text outcome now may legal others = by outcome may
      where
        by : (outcome : Outcome) → May x.kept text outcome now → Goes o x.kept.pass now (λ y. MeansOver o.schema x.state text outcome y)
        by outcome (means.answered reply is shows) =
            let g = answer_over o opens formed l text x.kept now x.state.open_one reply legal others x.tx is in record {
              state = g.state;
              holds = over.answered reply.answer (subst (λ (s : OneState). over.AnswersNext o.schema s text reply.answer g.state) (as_state x) g.holds) shows;
              rows = g.rows;
              tx = g.tx;
            }
        by _ (means.untold reply is rows) =
            let g = answer_over o opens formed l text x.kept now x.state.open_one reply legal others x.tx is in record {
              state = g.state;
              holds = over.untold reply.answer (subst (λ (s : OneState). over.AnswersNext o.schema s text reply.answer g.state) (as_state x) g.holds) rows;
              rows = g.rows;
              tx = g.tx;
            }
        by _ (means.refused {r} why) =
            let g = refused_over o opens formed l text x.kept now x.state.open_one r others x.tx why in record {
              state = g.state;
              holds =
                  subst (λ (s : OneState). MeansOver o.schema s text (Refused r) g.state) (as_state x) g.holds;
              rows = g.rows;
              tx = g.tx;
            }

    means_alone : (x : Alone o) (s : PassAndTransaction) → x.kept ≡ s → (text : List ℕ) (outcome : Outcome) (now : PassAndTransaction) → May s text outcome now
        → IsLegal (MayFollow o) s.pass.seen → NoOthers s.pass now.pass → Over_it now (λ y. MeansAlone o l x text outcome y)
    means_alone x s e text outcome now may legal others =
        let may_x = subst (λ (y : PassAndTransaction). May y text outcome now) (sym e) may in
        alone_at x text outcome now may_x
        (means_over x text outcome now may_x (subst (λ (y : PassAndTransaction). IsLegal (MayFollow o) y.pass.seen) (sym e) legal)
        (subst (λ (y : PassAndTransaction). NoOthers y.pass now.pass) (sym e) others))

    client_alone : (x : Alone o) (s : PassAndTransaction) → x.kept ≡ s → (set then : Settings) (statement : ClientStatement) (outcome : Outcome) (now : PassAndTransaction)
        → AnswersClient (context_of o handshake) May set s statement outcome then now → IsLegal (MayFollow o) s.pass.seen → NoOthers s.pass now.pass
        → Over_it now (λ y. AnswersClient (alone_context o handshake) (MeansAlone o l) set x statement outcome then y)
    client_alone x s e set _ _ _ _ (given.begun {outcome} {now} may) legal others =
        let after = means_alone x s e (codes "BEGIN") outcome now may legal others in
        (after.0, after.1, given.begun after.2)
    client_alone x s e set _ _ _ _ (given.turned_on off none) legal others = (x, e, given.turned_on off (sym (same_status x s e) ∙ none))
    client_alone x s e set _ _ _ _ (given.committed {now} off held may) legal others =
        let after = means_alone x s e (codes "COMMIT") (Count 0) now may legal others in
        (after.0, after.1, given.committed off (sym (same_status x s e) ∙ held) after.2)
    client_alone x s e set _ _ _ _ (given.not_committed {why} {now} off held may) legal others =
        let after = means_alone x s e (codes "COMMIT") (Refused why) now may legal others in
        (after.0, after.1, given.not_committed off (sym (same_status x s e) ∙ held) after.2)
    client_alone x s e set _ _ _ _ (given.by_itself tells) legal others = (x, e, given.by_itself tells)

    -- whether none is open, it tells alike
    needs_over : (x : Alone o) (s : PassAndTransaction) → x.kept ≡ s → (set : Settings) → NeedsOne (context_of o handshake) set s → NeedsOne (alone_context o handshake) set x
    needs_over x s e set needs = (needs.0, sym (same_status x s e) ∙ needs.1)

    needs_under : (x : Alone o) (s : PassAndTransaction) → x.kept ≡ s → (set : Settings) → NeedsOne (alone_context o handshake) set x → NeedsOne (context_of o handshake) set s
    needs_under x s e set needs = (needs.0, same_status x s e ∙ needs.1)

    run_alone : (x : Alone o) (s : PassAndTransaction) → x.kept ≡ s → (set : Settings) (text : List ℕ) (outcome : Outcome) (now : PassAndTransaction)
        → RunsText (context_of o handshake) May set s text outcome now → IsLegal (MayFollow o) s.pass.seen → NoOthers s.pass now.pass
        → Over_it now (λ y. RunsText (alone_context o handshake) (MeansAlone o l) set x text outcome y)
    run_alone x s e set text _ _ (given.alone {outcome} {now} none may) legal others =
        let after = means_alone x s e text outcome now may legal others in
        (after.0, after.1, given.alone (λ needs. none (needs_under x s e set needs)) after.2)
    run_alone x s e set text _ _ (given.after_begin {outcome} {mid} {now} needs opens begun may) legal others =
        let first = means_on s (codes "BEGIN") (Count 0) mid begun in
        let second = means_on mid text outcome now may in
        let database = means_alone x s e (codes "BEGIN") (Count 0) mid begun legal (up_to s.pass now.pass others mid.pass first.later second.later) in
        let two =
        means_alone database.0 mid database.1 text outcome now may (first.legal legal) (trailing s.pass now.pass others mid.pass first.later second.later first.session) in
        (two.0, two.1, given.after_begin (needs_over x s e set needs) opens database.2 two.2)
    run_alone x s e set text _ _ (given.not_begun {why} {now} needs opens may) legal others =
        let after = means_alone x s e (codes "BEGIN") (Refused why) now may legal others in
        (after.0, after.1, given.not_begun (needs_over x s e set needs) opens after.2)
    run_alone x s e set text _ _ (given.not_read needs) legal others = (x, e, given.not_read (needs_over x s e set needs))

    text_alone : (x : Alone o) (s : PassAndTransaction) → x.kept ≡ s → (set then : Settings) (text : List ℕ) (outcome : Outcome) (now : PassAndTransaction)
        → GivesText (context_of o handshake) May set s text outcome then now → IsLegal (MayFollow o) s.pass.seen → NoOthers s.pass now.pass
        → Over_it now (λ y. GivesText (alone_context o handshake) (MeansAlone o l) set x text outcome then y)
    text_alone x s e set _ text _ _ (given.run {outcome} {now} runs not_run held unsaid) legal others =
        let after = run_alone x s e set text outcome now runs legal others in
        (after.0, after.1, given.run after.2 not_run held unsaid)
    text_alone x s e set _ text _ _ (given.said {outcome} {refused} {mid} {now} whole names runs not_run none is_said again) legal others =
        let first = run_on set s mid text refused runs in
        let second = run_on set mid now whole outcome again in
        let database = run_alone x s e set text refused mid runs legal (up_to s.pass now.pass others mid.pass first.later second.later) in
        let two =
        run_alone database.0 mid database.1 set whole outcome now again (first.legal legal)
        (trailing s.pass now.pass others mid.pass first.later second.later first.session) in
        (two.0, two.1, given.said whole names database.2 not_run none is_said two.2)
    text_alone x s e set _ text _ _ (given.asked {outcome} {reply} {then} {mid} {now} statement runs not_run is_asked answers) legal others =
        let first = run_on set s mid text outcome runs in
        let second = client_on set then mid now statement reply answers in
        let database = run_alone x s e set text outcome mid runs legal (up_to s.pass now.pass others mid.pass first.later second.later) in
        let two =
        client_alone database.0 mid database.1 set then statement reply now answers (first.legal legal)
        (trailing s.pass now.pass others mid.pass first.later second.later first.session) in
        (two.0, two.1, given.asked statement database.2 not_run is_asked two.2)
    text_alone x s e set _ text _ _ (given.not_held sets is_asked) legal others = (x, e, given.not_held sets is_asked)
    text_alone x s e set _ text _ _ given.not_looked legal others = (x, e, given.not_looked)
    text_alone x s e set _ text _ _ (given.unread {outcome} {now} runs not_run) legal others =
        let after = run_alone x s e set text outcome now runs legal others in
        (after.0, after.1, given.unread after.2 not_run)

    abbrev Answers_over : Phase → Alone o → Payload → List ℕ → ConnectionState → Alone o → Type 0
    Answers_over = AnswersPayload (alone_context o handshake) (MeansAlone o l)

    -- a reply whose bytes tell whether a transaction is open
    with_status : (x y : Alone o) (s : PassAndTransaction) → y.kept ≡ s → (at : Phase) (p : Payload) (bytes : Bool → List ℕ) (b : ConnectionState)
        → Answers_over at x p (bytes (is_some y.state.open_one)) b y → Over_it s (λ y. Answers_over at x p (bytes (is_some s.tx)) b y)
    with_status x y s e at p bytes b a = (y, e, subst (λ (is_open : Bool). Answers_over at x p (bytes is_open) b y) (sym (same_status y s e)) a)

    answers_alone : (x : Alone o) (at : Phase) (s now : PassAndTransaction) (p : Payload) (out : List ℕ) (b : ConnectionState) → x.kept ≡ s
        → AnswersPayload (context_of o handshake) May at s p out b now → IsLegal (MayFollow o) s.pass.seen → NoOthers s.pass now.pass
        → Over_it now (λ y. Answers_over at x p out b y)
    answers_alone x _ s _ _ _ _ e (t.out_of_order first) legal others = (x, e, t.out_of_order first)
    answers_alone x at s _ p _ _ e (t.logs_in {out} {connection_state} is) legal others = (
      x,
      e,
      t.logs_in (subst (λ (is_open : Bool). LogsIn handshake o.schema.keyspaces (status_flags true is_open) at p out connection_state) (same_status x s e) is),
    )
    answers_alone x _ s _ _ _ _ e (t.quits first command) legal others = (x, e, t.quits first command)
    answers_alone x _ s _ _ _ _ e (t.unknown first command) legal others = (x, e, t.unknown first command)
    answers_alone x _ s _ p _ _ e (t.pinged {set} {held} first command) legal others =
        with_status x x s e (Commands set held) p (λ is_open. frame (reply_number p) (ok_payload 0 (status_flags set.autocommit is_open))) (At (Commands set held)) (t.pinged first command)
    answers_alone x _ s _ p _ _ e (t.selected {set} {held} name place first command is) legal others =
        with_status x x s e (Commands set held) p (λ is_open. frame (reply_number p) (ok_payload 0 (status_flags set.autocommit is_open)))
        (At (Commands (record set { keyspace = Some place }) held)) (t.selected name place first command is)
    answers_alone x _ s _ _ _ _ e (t.unknown_keyspace name first command is) legal others = (x, e, t.unknown_keyspace name first command is)
    answers_alone x _ s _ p _ _ e (t.queried {set} {after} {held} {now} text outcome first command gives) legal others =
        let next = text_alone x s e set after text outcome now gives legal others in
        with_status x next.0 now next.1 (Commands set held) p
        (λ is_open. encoded (set_end_of set.capabilities) outcome (reply_number p) (status_flags after.autocommit is_open)) (At (Commands after held))
        (t.queried text outcome first command next.2)
    answers_alone x _ s _ _ _ _ e (t.told_statistics first command) legal others = (x, e, t.told_statistics first command)
    answers_alone x _ s _ p _ _ e (t.takes_one_statement {set} {held} first command) legal others =
        with_status x x s e (Commands set held) p (λ is_open. frame (reply_number p) (after_rows (set_end_of set.capabilities) (status_flags set.autocommit is_open)))
        (At (Commands set held)) (t.takes_one_statement first command)
    answers_alone x _ s _ _ _ _ e (t.takes_no_more first command) legal others = (x, e, t.takes_no_more first command)
    answers_alone x _ s _ _ _ _ e (t.reset_all first command) legal others =
        (without_transaction x, ap (λ (y : PassAndTransaction). none_open y.pass) e, t.reset_all first command)
    answers_alone x _ s _ p _ _ e (t.executed {set} {after} {held} {held_then} {now} bytes text outcome first command runs gives) legal others =
        let next = text_alone x s e set after text outcome now gives legal others in
        with_status x next.0 now next.1 (Commands set held) p
        (λ is_open. binary_encoded (set_end_of set.capabilities) outcome (reply_number p) (status_flags after.autocommit is_open)) (At (Commands after held_then))
        (t.executed bytes text outcome first command runs next.2)
    answers_alone x _ s _ p _ _ e (t.of_statement {set} {held} {held_then} {out} request first command answers) legal others = (
      x,
      e,
      t.of_statement request first command
          (subst (λ (is_open : Bool). AnswersStatement o.schema (set_end_of set.capabilities) (status_flags set.autocommit is_open) (reply_number p) held request out held_then)
          (same_status x s e) answers),
    )

    abbrev Replies_over : Phase → Alone o → List Payload → List ℕ → ConnectionState → Alone o → Type 0
    Replies_over = Replies (alone_context o handshake) (MeansAlone o l)

    replies_alone : (x : Alone o) (at : Phase) (s now : PassAndTransaction) (ps : List Payload) (out : List ℕ) (b : ConnectionState) → x.kept ≡ s
        → Replies (context_of o handshake) May at s ps out b now → IsLegal (MayFollow o) s.pass.seen → NoOthers s.pass now.pass
        → Over_it now (λ y. Replies_over at x ps out b y)
    replies_alone x _ s _ _ _ _ e t.none legal others = (x, e, t.none)
    replies_alone x _ s _ _ _ _ e (t.goes {at} {next} {mid} {t = now} {p} {more = ps} {out} {rest} {connection_state = b} a r) legal others =
        let follows = answers_on at s mid p out (At next) a in
        let later = replies_later next mid now ps rest b r in
        let first = answers_alone x at s mid p out (At next) e a legal (up_to s.pass now.pass others mid.pass follows.later later) in
        let rest_of = replies_alone first.0 next mid now ps rest b first.1 r (follows.legal legal) (trailing s.pass now.pass others mid.pass follows.later later follows.session) in
        (rest_of.0, rest_of.1, t.goes first.2 rest_of.2)
    replies_alone x _ s _ _ _ _ e (t.ends {at} {t = now} {p} {out} {end} a) legal others =
        let last = answers_alone x at s now p out (Ended end) e a legal others in
        (last.0, last.1, t.ends last.2)

    abbrev Talks_over : ConnectionState → Alone o → List Payload → List ℕ → ConnectionState → Alone o → Type 0
    Talks_over = Conversation (alone_context o handshake) (MeansAlone o l)

    conversation_alone : (x : Alone o) (begin : ConnectionState) (s now : PassAndTransaction) (ps : List Payload) (out : List ℕ) (b : ConnectionState) → x.kept ≡ s
        → Conversation (context_of o handshake) May begin s ps out b now → IsLegal (MayFollow o) s.pass.seen → NoOthers s.pass now.pass
        → Over_it now (λ y. Talks_over begin x ps out b y)
    conversation_alone x _ s _ _ _ _ e t.new legal others = (x, e, t.new)
    conversation_alone x _ s _ _ _ _ e (t.begun {connection_state = b} {at} {t = now} {ps} {out} g r) legal others =
        let then = replies_alone x at s now ps out b e r legal others in
        (then.0, then.1, t.begun g then.2)

    -- a whole conversation
    talk_alone : (x : Alone o) (limit : ℕ) (begin : ConnectionState) (s now : PassAndTransaction) (bytes out : List ℕ) (end : End) → x.kept ≡ s → IsLegal (MayFollow o) s.pass.seen
        → Talk limit (context_of o handshake) May begin s bytes out end now → NoOthers s.pass now.pass
        → Over_it now (λ y. Talk limit (alone_context o handshake) (MeansAlone o l) begin x bytes out end y)
    talk_alone x limit begin s _ bytes _ _ e legal (t.ended {out} {end} {t = now} payloads rest splits r) others =
        let then = conversation_alone x begin s now payloads out (Ended end) e r legal others in
        (then.0, then.1, t.ended payloads rest splits then.2)
    talk_alone x limit begin s _ bytes _ _ e legal (t.ended_before {out} {end} {t = now} payloads fault refused r) others =
        let then = conversation_alone x begin s now payloads out (Ended end) e r legal others in
        (then.0, then.1, t.ended_before payloads fault refused then.2)
    talk_alone x limit begin s _ bytes _ _ e legal (t.refused {out} {at} {t = now} payloads fault refused r) others =
        let then = conversation_alone x begin s now payloads out (At at) e r legal others in
        (then.0, then.1, t.refused payloads fault refused then.2)
    talk_alone x limit begin s _ bytes _ _ e legal (t.closed {out} {at} {t = now} payloads on splits r) others =
        let then = conversation_alone x begin s now payloads out (At at) e r legal others in
        (then.0, then.1, t.closed payloads on splits then.2)
    talk_alone x limit begin s _ bytes _ _ e legal (t.cut_off {out} {at} {t = now} payloads off splits r) others =
        let then = conversation_alone x begin s now payloads out (At at) e r legal others in
        (then.0, then.1, t.cut_off payloads off splits then.2)
    talk_alone x limit begin s _ bytes _ _ e legal (t.truncated {out} {at} {t = now} payloads b rest splits r) others =
        let then = conversation_alone x begin s now payloads out (At at) e r legal others in
        (then.0, then.1, t.truncated payloads b rest splits then.2)

    -- of what was read and written
    pub served_alone : (x : Alone o) (limit : ℕ) (begin : ConnectionState) (pass : PassView Entry) (end : End) (a b c d : Option (List ℕ)) → IsLegal (MayFollow o) x.kept.pass.seen
        → SoFar a b c d (λ read written. (now : PassAndTransaction) × (now.pass ≡ pass) × Talk limit (context_of o handshake) May begin x.kept read written end now)
        → NoOthers x.kept.pass pass
        → SoFar a b c d (λ read written. (now : Alone o) × (now.kept.pass ≡ pass) × Talk limit (alone_context o handshake) (MeansAlone o l) begin x read written end now)
    served_alone x limit begin pass end a b c d legal talk others =
        let now = talk.4.0 in
        let then = talk_alone x limit begin x.kept now talk.0 talk.1 end refl legal talk.4.2 (same_others x.kept.pass now.pass x.kept.pass pass refl talk.4.1 others) in
        (talk.0, talk.1, talk.2, talk.3, (then.0, ap (λ (s : PassAndTransaction). s.pass) then.1 ∙ talk.4.1, then.2))

    -- the answer to a piece
    pub fed_over : (at : ConnectionState) (fed : Fed) (out : List ℕ) (b : ConnectionState) (x : Alone o) (now : PassAndTransaction) → IsLegal (MayFollow o) x.kept.pass.seen
        → AnswersFed (context_of o handshake) May at x.kept fed out b now → NoOthers x.kept.pass now.pass
        → Over_it now (λ y. AnswersFed (alone_context o handshake) (MeansAlone o l) at x fed out b y)
    fed_over at fed _ _ x _ legal (sessions.ended {out} {end} {now} r) others =
        let then = conversation_alone x at x.kept now fed.payloads out (Ended end) refl r legal others in
        (then.0, then.1, sessions.ended then.2)
    fed_over at fed _ _ x _ legal (sessions.goes_on {out} {at = next} {now} no_fault r) others =
        let then = conversation_alone x at x.kept now fed.payloads out (At next) refl r legal others in
        (then.0, then.1, sessions.goes_on no_fault then.2)
    fed_over at fed _ _ x _ legal (sessions.refused {out} {at = next} {now} fault is r) others =
        let then = conversation_alone x at x.kept now fed.payloads out (At next) refl r legal others in
        (then.0, then.1, sessions.refused fault is then.2)
