use Rattle.std.proofs.Common.{refl, ◌∙◌}
use Rattle.session.proofs.conversation.Conversations.{nothing_yet, next_reply, cut_reply, all_ended, connection_state_is, on_err}
use Rattle.session.proofs.conversation.RepliesLemmas.{never_new}
use Rattle.session.proofs.conversation.responder.Responder.answer_all.Goals as goal

pub loop-payload-init : goal.loop-payload-init
loop-payload-init g c = record { session = refl; tx = c.requires.tx; room = c.requires.room; count = refl; replies = nothing_yet _ _ _ _ _ }

pub returns-in_err-answer-clause-cut : goal.returns-in_err-answer-clause-cut
returns-in_err-answer-clause-cut g c =
    on_err _ _
    (cut_reply _ _ _ _ _ _ _ _ _ c.loop-payload.payload-index c.args.payloads.now c.payload-item.result c.loop-payload.phase c.loop-payload-test.true c.payload-item.is
    c.loop-payload.invariant.replies c.in_err-answer.ensures.cut)

pub returns-in-Ended-clause-replies : goal.returns-in-Ended-clause-replies
returns-in-Ended-clause-replies g c =
    all_ended _ _ _ _ _ _ _ _ c.args.payloads.now c.in_ok-answer.field-0 c.in-Ended.end c.in-Ended.is
    (next_reply _ _ _ _ _ _ _ _ _ c.loop-payload.payload-index c.args.payloads.now c.payload-item.result c.loop-payload.phase c.in_ok-answer.field-0 c.loop-payload-test.true
    c.payload-item.is c.loop-payload.invariant.replies c.in_ok-answer.ensures.answers)

pub loop-payload-preserved : goal.loop-payload-preserved
loop-payload-preserved g c = record {
  session = c.in_ok-answer.ensures.session ∙ c.loop-payload.invariant.session;
  tx = c.in_ok-answer.ensures.tx;
  room = c.in_ok-answer.ensures.room;
  count = c.in_ok-answer.ensures.count ∙ c.loop-payload.invariant.count;
  replies =
      connection_state_is _ _ _ _ _ _ _ _ c.in_ok-answer.field-0 _ c.in-At.is
      (next_reply _ _ _ _ _ _ _ _ _ c.loop-payload.payload-index c.args.payloads.now c.payload-item.result c.loop-payload.phase c.in_ok-answer.field-0 c.loop-payload-test.true
      c.payload-item.is c.loop-payload.invariant.replies c.in_ok-answer.ensures.answers);
}

pub unreachable-requires : goal.unreachable-requires
unreachable-requires g c =
    let answers = c.in_ok-answer.ensures.answers in
    let then = answers.2 (record { pass = c.loop-payload.pass; tx = c.loop-payload.invariant.tx.0 }) (refl, c.loop-payload.invariant.tx.1) in
    never_new _ _ c.loop-payload.phase _ then.0 c.payload-item.result c.in_ok-answer.field-0 _ _ c.in-New.is (answers.0, answers.1, then.2)
