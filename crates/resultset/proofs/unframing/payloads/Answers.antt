use Rattle.std.proofs.Common.{◌≡◌, ◌<◌, [], length, sym, ◌∙◌}
use Rattle.std.proofs.lemmas.Bool.{eqb-true}
use Rattle.std.proofs.lemmas.List.{nil_from_length}
use Rattle.std.proofs.lemmas.Result.{err_from_is_err_and}
use Rattle.resultset.proofs.FramesAgain.{not_empty, splits_more, splits_all, no_payload}
use Rattle.resultset.proofs.unframing.payloads.Goals as goal

pub returns-in_err-payload : goal.returns-in_err-payload
returns-in_err-payload c =
    let p = err_from_is_err_and c.from_residual.result c.from_residual.ensures.1 in
    let some : 0 < length c.loop-rest.rest.now = not_empty c.loop-rest.rest.now (sym c.is_empty.ensures ∙ c.loop-rest-test.true) in
    rw (p.1, p.2) (no_payload c.args.bytes.now c.loop-rest.payloads c.loop-rest.rest.now c.in_err-payload.field-0.0 c.in_err-payload.ensures.again some c.loop-rest.invariant)

pub loop-rest-preserved : goal.loop-rest-preserved
loop-rest-preserved c =
    let some : 0 < length c.loop-rest.rest.now = not_empty c.loop-rest.rest.now (sym c.is_empty.ensures ∙ c.loop-rest-test.true) in
    rw c.in_ok-push.ensures.ok
    (splits_more c.args.bytes.now c.loop-rest.payloads c.loop-rest.rest.now c.in_ok-payload.payload c.in_ok-payload.after.now c.in_ok-payload.ensures.again some c.loop-rest.invariant)

pub returns : goal.returns
returns c =
    let ended : c.loop-rest.rest.now ≡ [] = nil_from_length c.loop-rest.rest.now (eqb-true _ _ (sym c.is_empty.ensures ∙ c.loop-rest-test.false)) in
    splits_all c.args.bytes.now c.loop-rest.payloads c.loop-rest.rest.now ended c.loop-rest.invariant
