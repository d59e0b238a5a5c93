use Rattle.std.proofs.Common.{refl, sym, ◌∙◌, arith}
use Rattle.operators.proofs.SliceLemmas.{drop_ended, drop_next}
use Rattle.operators.proofs.CallLemmas.{no_calls, one_more, at_most_more}
use Rattle.operators.proofs.slicing.pass_over.Goals as goal

pub loop-init : goal.loop-init
loop-init g c = (refl, no_calls g.O.Operator.one_call c.args.input.now)

pub returns-in_default-clause-ok : goal.returns-in_default-clause-ok
returns-in_default-clause-ok g c =
    let ended = rw c.in_default.is at c.in_ok-_row.ensures.row in
    let after = drop_ended (g.O.Operator.to_come c.args.input.now) c.loop.counter c.args.count (sym c.loop.invariant.0 ∙ ended.0) (omega arith) in
    ended.1 ∙ sym after

pub returns-in_default-clause-calls : goal.returns-in_default-clause-calls
returns-in_default-clause-calls g c =
    let call = g.O.Operator.one_call in
    at_most_more call _ c.args.count _ _ (omega arith) (one_more call c.loop.counter c.args.input.now c.loop.input c.next.new.self c.loop.invariant.1 c.next.ensures.call)

pub returns-in_err-_row-clause-calls : goal.returns-in_err-_row-clause-calls
returns-in_err-_row-clause-calls g c =
    let call = g.O.Operator.one_call in
    at_most_more call _ c.args.count _ _ (omega arith) (one_more call c.loop.counter c.args.input.now c.loop.input c.next.new.self c.loop.invariant.1 c.next.ensures.call)

pub returns-clause-calls : goal.returns-clause-calls
returns-clause-calls g c = at_most_more g.O.Operator.one_call c.loop.counter c.args.count _ _ (omega arith) c.loop.invariant.1

pub loop-preserved : goal.loop-preserved
loop-preserved g c =
    let first = rw c.in-Some.is at c.in_ok-_row.ensures.row in (
      sym (drop_next (g.O.Operator.to_come c.args.input.now) (g.O.Operator.to_come c.next.new.self) c.in-Some._row c.loop.counter (sym c.loop.invariant.0 ∙ first)),
      one_more g.O.Operator.one_call c.loop.counter c.args.input.now c.loop.input c.next.new.self c.loop.invariant.1 c.next.ensures.call,
    )
