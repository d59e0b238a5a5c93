use Rattle.std.proofs.Common.{refl}
use Rattle.session.proofs.conversation.Conversations.{begun, fed_ended, fed_goes_on, fed_refused, fed_cut, greeting_cut, refusal_cut, on_err}
use Rattle.session.proofs.conversation.RepliesLemmas.{not_new}
use Rattle.session.proofs.conversation.responder.Responder.answer_fed.Goals as goal

pub returns-in_err-phase-clause-cut : goal.returns-in_err-phase-clause-cut
returns-in_err-phase-clause-cut g c = on_err _ _ (greeting_cut _ _ _ _ _ _ c.args.fed.now c.in_err-phase.ensures.cut)

pub returns-in_err-answer_all-clause-cut : goal.returns-in_err-answer_all-clause-cut
returns-in_err-answer_all-clause-cut g c =
    let cut = rw c.as_slice-payloads.ensures at c.in_err-answer_all.ensures.cut in
    on_err _ _ (fed_cut _ _ _ _ _ _ _ _ c.in_ok-phase.phase c.args.fed.now c.in_ok-phase.ensures.greets cut)

pub returns-in-Ended-clause-answers : goal.returns-in-Ended-clause-answers
returns-in-Ended-clause-answers g c =
    let replies = rw c.as_slice-payloads.ensures at c.in_ok-answer_all.ensures.replies in
    fed_ended _ _ _ _ _ _ _ c.args.fed.now c.in_ok-answer_all.field-0 c.in-Ended.end c.in-Ended.is
    (begun _ _ _ _ _ _ _ _ c.in_ok-phase.phase c.args.fed.now.payloads _ c.in_ok-phase.ensures.greets replies)

pub returns-in-None-clause-answers : goal.returns-in-None-clause-answers
returns-in-None-clause-answers g c =
    let replies = rw c.as_slice-payloads.ensures at c.in_ok-answer_all.ensures.replies in
    fed_goes_on _ _ _ _ _ _ _ c.args.fed.now c.in_ok-answer_all.field-0 c.in-At.next c.in-At.is c.in-None.is
    (begun _ _ _ _ _ _ _ _ c.in_ok-phase.phase c.args.fed.now.payloads _ c.in_ok-phase.ensures.greets replies)

pub returns-in_err-answer_fault-in-Some-clause-cut : goal.returns-in_err-answer_fault-in-Some-clause-cut
returns-in_err-answer_fault-in-Some-clause-cut g c =
    let replies = rw c.as_slice-payloads.ensures at c.in_ok-answer_all.ensures.replies in
    on_err _ _
    (refusal_cut _ _ _ _ _ _ _ _ c.args.fed.now c.in-Some.fault c.in_ok-answer_all.field-0 c.in-At.next c.in-At.is c.in-Some.is
    (begun _ _ _ _ _ _ _ _ c.in_ok-phase.phase c.args.fed.now.payloads _ c.in_ok-phase.ensures.greets replies)
    c.in_err-answer_fault-in-Some.ensures.cut)

pub returns-in_ok-answer_fault-in-Some-clause-answers : goal.returns-in_ok-answer_fault-in-Some-clause-answers
returns-in_ok-answer_fault-in-Some-clause-answers g c =
    let replies = rw c.as_slice-payloads.ensures at c.in_ok-answer_all.ensures.replies in
    fed_refused _ _ _ _ _ _ _ _ c.args.fed.now c.in-Some.fault c.in_ok-answer_all.field-0 c.in-At.next c.in-At.is c.in-Some.is
    (begun _ _ _ _ _ _ _ _ c.in_ok-phase.phase c.args.fed.now.payloads _ c.in_ok-phase.ensures.greets replies)
    c.in_ok-answer_fault-in-Some.ensures.refusal

pub unreachable-requires : goal.unreachable-requires
unreachable-requires g c =
    let replies = c.in_ok-answer_all.ensures.replies in
    let then = replies.2 (record { pass = c.args.pass.now; tx = c.requires.tx.0 }) (refl, c.requires.tx.1) in
    not_new _ _ c.in_ok-phase.phase _ _ _ replies.0 c.in_ok-answer_all.field-0 c.in-New.is then.2
