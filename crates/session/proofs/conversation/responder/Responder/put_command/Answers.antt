use Rattle.std.proofs.Common.{ℕ, Bool, ap, refl, sym, ◌∙◌}
use Rattle.vt_value.specs.declared.refusal.Refusal.{Refusal}
use Rattle.mysql_packet.specs.Frames.{frame}
use Rattle.mysql_message.specs.Messages.{ok_payload, err_payload}
use Rattle.resultset.specs.Encoding.{after_rows}
use Rattle.session.specs.conversation.Packets.{reply_number}
use Rattle.session.specs.conversation.Talk.{set_end_of, status_flags}
use Rattle.session.specs.conversation.inner.Sessions.{command_payload}
use Rattle.session.specs.declared.conversation.reply.RowForm.TheVariants as form
use Rattle.session.specs.conversation.Prepared as a
use Rattle.session.proofs.conversation.RepliesLemmas.{kept_status, none_stands, one_quit, one_unknown, one_ping, one_line, one_option, one_selected, one_query, one_text_or_refusal, one_statement_reply, statement_kept, reset_kept}
use Rattle.session.proofs.conversation.responder.Responder.put_command.Goals as goal

pub returns-in-Ok-Quit-clause-answers : goal.returns-in-Ok-Quit-clause-answers
returns-in-Ok-Quit-clause-answers g c =
    let e = rw c.in-Ok-Quit.field-0-is at c.in-Ok-Quit.ensures.command in
    λ s held. (s, held, one_quit _ _ _ _ s (command_payload c.args.last c.args.bytes.now) _ refl (sym e) c.requires.empty)

pub returns-in-Err-clause-answers : goal.returns-in-Err-clause-answers
returns-in-Err-clause-answers g c = λ s held. (
  s,
  held,
  one_unknown _ _ _ _ s (command_payload c.args.last c.args.bytes.now) _ refl (sym c.in-Err.ensures.command)
      (c.put_refusal.ensures.bytes ∙ ap (λ (r : Refusal). frame (reply_number (command_payload c.args.last c.args.bytes.now)) (err_payload r)) c.in-Err.ensures.err),
)

pub returns-in-Ok-Ping-clause-answers : goal.returns-in-Ok-Ping-clause-answers
returns-in-Ok-Ping-clause-answers g c =
    let e = rw c.in-Ok-Ping.field-0-is at c.in-Ok-Ping.ensures.command in
    λ s held. (
      s,
      held,
      one_ping _ _ _ _ s (command_payload c.args.last c.args.bytes.now) _ refl (sym e)
          (c.put_pong.ensures.bytes ∙ ap (λ (n : ℕ). frame (reply_number (command_payload c.args.last c.args.bytes.now)) (ok_payload 0 n))
          (c.status_of.ensures ∙ ap (λ (b : Bool). status_flags c.args.settings.autocommit b) (kept_status _ _ _ s held))),
    )

pub returns-in-Ok-Statistics-clause-answers : goal.returns-in-Ok-Statistics-clause-answers
returns-in-Ok-Statistics-clause-answers g c =
    let e = rw c.in-Ok-Statistics.field-0-is at c.in-Ok-Statistics.ensures.command in
    λ s held. (s, held, one_line _ _ _ _ s (command_payload c.args.last c.args.bytes.now) _ refl (sym e) c.put_line.ensures.bytes)

pub returns-in-Ok-Query-clause-answers : goal.returns-in-Ok-Query-clause-answers
returns-in-Ok-Query-clause-answers g c =
    let e = rw c.in-Ok-Query.field-0-is at c.in-Ok-Query.ensures.command in
    let told = c.put_text-rows.ensures.gives in
    one_text_or_refusal _ _ c.args.self.now.handshake.now c.args.settings c.put_text-rows.result.0 form.Text _ _ _ _ _ _ _ told.0 _
    (λ s now x gives is. one_query _ _ c.args.settings c.args.held c.put_text-rows.result.0 s now (command_payload c.args.last c.args.bytes.now) _ _ x refl (sym e) gives is)
    told.1 told.2

pub returns-in-Ok-InitDb-clause-answers : goal.returns-in-Ok-InitDb-clause-answers
returns-in-Ok-InitDb-clause-answers g c =
    let e = rw c.in-Ok-InitDb.field-0-is at c.in-Ok-InitDb.ensures.command in
    let known = rw (c.schema.ensures.schema, c.schema.ensures.opening) at c.put_selected-chosen.ensures.known in
    let unknown = rw (c.schema.ensures.schema, c.schema.ensures.opening) at c.put_selected-chosen.ensures.unknown in
    λ s held. (
      s,
      held,
      one_selected _ _ _ _ s (command_payload c.args.last c.args.bytes.now) _ _ _ refl (sym e)
          (λ ordinal is. let said = known ordinal is in (
            said.0 ∙ ap (λ (n : ℕ). frame (reply_number (command_payload c.args.last c.args.bytes.now)) (ok_payload 0 n))
                (c.status_of-status.ensures ∙ ap (λ (b : Bool). status_flags c.args.settings.autocommit b) (kept_status _ _ _ s held)),
            said.1,
          ))
          unknown,
    )

pub returns-in-Ok-MultiStatements-clause-answers : goal.returns-in-Ok-MultiStatements-clause-answers
returns-in-Ok-MultiStatements-clause-answers g c =
    let e = rw c.in-Ok-MultiStatements.field-0-is at c.in-Ok-MultiStatements.ensures.command in
    let one = rw c.set_end_of-end.ensures at c.put_option.ensures.one in
    λ s held. (
      s,
      held,
      one_option _ _ _ _ s (command_payload c.args.last c.args.bytes.now) _ _ refl (sym e) c.put_option.ensures.several
          (λ is. one is ∙ ap (λ (n : ℕ). frame (reply_number (command_payload c.args.last c.args.bytes.now)) (after_rows (set_end_of c.args.settings.capabilities) n))
          (c.status_of-status-in-Ok-MultiStatements.ensures ∙ ap (λ (b : Bool). status_flags c.args.settings.autocommit b) (kept_status _ _ _ s held))),
    )

pub returns-in-Ok-Reset-clause-answers : goal.returns-in-Ok-Reset-clause-answers
returns-in-Ok-Reset-clause-answers g c =
    let e = rw c.in-Ok-Reset.field-0-is at c.in-Ok-Reset.ensures.command in
    reset_kept _ _ c.args.self.now.handshake.now _ _ _ _ _ _ _ (command_payload c.args.last c.args.bytes.now) _ _ refl (sym e) c.new.ensures
    c.status_flags.ensures c.at_first-first.ensures c.new-in-Ok-Reset.ensures c.put_pong-in-Ok-Reset.ensures.bytes

pub returns-in-Ok-Reset-clause-tx : goal.returns-in-Ok-Reset-clause-tx
returns-in-Ok-Reset-clause-tx g c = none_stands _ _ _ c.new.ensures

pub returns-in-Ok-Prepare-clause-answers : goal.returns-in-Ok-Prepare-clause-answers
returns-in-Ok-Prepare-clause-answers g c =
    let e = rw c.in-Ok-Prepare.field-0-is at c.in-Ok-Prepare.ensures.command in
    let answers = rw c.set_end_of-end-in-Ok-Prepare.ensures at c.put_prepare-held.ensures.answers in
    statement_kept _ _ c.args.self.now.handshake.now _ c.args.settings c.args.held c.put_prepare-held.result.0 _ _ (command_payload c.args.last c.args.bytes.now) _ _ _ _ refl (sym e)
    (c.schema-in-Ok-Prepare.ensures.schema ∙ c.schema-in-Ok-Prepare.ensures.opening) c.status_of-status-in-Ok-Prepare.ensures refl answers

pub returns-in-Ok-Execute-clause-answers : goal.returns-in-Ok-Execute-clause-answers
returns-in-Ok-Execute-clause-answers g c =
    let e = rw c.in-Ok-Execute.field-0-is at c.in-Ok-Execute.ensures.command in
    c.put_execute.ensures.answers (command_payload c.args.last c.args.bytes.now) refl refl (sym e)

pub returns-in-Ok-LongData-clause-answers : goal.returns-in-Ok-LongData-clause-answers
returns-in-Ok-LongData-clause-answers g c =
    let e = rw c.in-Ok-LongData.field-0-is at c.in-Ok-LongData.ensures.command in
    λ s held. (
      s,
      held,
      one_statement_reply _ _ c.args.settings c.args.held c.with_long-held.result s (command_payload c.args.last c.args.bytes.now) _ _ refl (sym e)
          (rw c.requires.empty (a.takes_long c.with_long-held.ensures)),
    )

pub returns-in-Ok-Close-clause-answers : goal.returns-in-Ok-Close-clause-answers
returns-in-Ok-Close-clause-answers g c =
    let e = rw c.in-Ok-Close.field-0-is at c.in-Ok-Close.ensures.command in
    λ s held. (
      s,
      held,
      one_statement_reply _ _ c.args.settings c.args.held c.closed-held.result s (command_payload c.args.last c.args.bytes.now) _ _ refl (sym e)
          (rw c.requires.empty (a.closed c.closed-held.ensures)),
    )

pub returns-in-Ok-ResetStatement-clause-answers : goal.returns-in-Ok-ResetStatement-clause-answers
returns-in-Ok-ResetStatement-clause-answers g c =
    let e = rw c.in-Ok-ResetStatement.field-0-is at c.in-Ok-ResetStatement.ensures.command in
    statement_kept _ _ c.args.self.now.handshake.now _ c.args.settings c.args.held c.put_statement_reset-held.result _ _ (command_payload c.args.last c.args.bytes.now) _ _ _ _ refl (sym e)
    refl c.status_of-status-in-Ok-ResetStatement.ensures refl (c.put_statement_reset-held.ensures.answers _ _)

pub returns-in-Ok-Fetch-clause-answers : goal.returns-in-Ok-Fetch-clause-answers
returns-in-Ok-Fetch-clause-answers g c =
    let e = rw c.in-Ok-Fetch.field-0-is at c.in-Ok-Fetch.ensures.command in
    λ s held. (
      s,
      held,
      one_statement_reply _ _ c.args.settings c.args.held c.args.held s (command_payload c.args.last c.args.bytes.now) _ _ refl (sym e)
          (rw c.put_refusal-in-Ok-Fetch.ensures.bytes a.fetched),
    )
