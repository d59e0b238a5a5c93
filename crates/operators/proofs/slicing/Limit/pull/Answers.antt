use Rattle.std.proofs.Common.{◌+◌, ◌-◌, arith}
use Rattle.operators.proofs.SliceLemmas.{take_next}
use Rattle.operators.proofs.CallLemmas.{no_calls, one_more, at_error, spends_row, spends_failing}
use Rattle.operators.proofs.slicing.Limit.pull.Goals as goal

pub returns-clause-row : goal.returns-clause-row
returns-clause-row g c =
    let first = rw c.in-Some-2.is at c.in_ok-row.ensures.row in
    rw (c.in-Some.is, ← c.in_ok-pass_over.ensures.ok, first) (take_next _ _ _ (omega arith))

pub returns-in_default-clause-failing : goal.returns-in_default-clause-failing
returns-in_default-clause-failing g c =
    at_error c.next.result (1, one_more g.O.Operator.one_call 0 c.args.self.now.input c.args.self.now.input c.next.new.self (no_calls g.O.Operator.one_call c.args.self.now.input) c.next.ensures.call, rw c.in_default.is (omega arith))

pub returns-in_err-row-clause-failing : goal.returns-in_err-row-clause-failing
returns-in_err-row-clause-failing g c =
    let l = c.in-Some.limit in
    at_error c.from_residual-in_err-row.result (
      l.offset + 1,
      one_more g.O.Operator.one_call l.offset c.args.self.now.input c.pass_over.new.input c.next-2.new.self c.pass_over.ensures.calls c.next-2.ensures.call,
      rw c.in-Some.is (spends_failing c.args.self.now.failed l (l.offset + 1) c.requires (omega arith) (omega arith)),
    )

pub returns-in_default-2-clause-call : goal.returns-in_default-2-clause-call
returns-in_default-2-clause-call g c =
    let l = c.in-Some.limit in (
      l.offset + 1,
      one_more g.O.Operator.one_call l.offset c.args.self.now.input c.pass_over.new.input c.next-2.new.self c.pass_over.ensures.calls c.next-2.ensures.call,
      rw c.in-Some.is (spends_row c.args.self.now.failed l 0 c.requires (omega arith) (omega arith)),
    )

pub returns-clause-call : goal.returns-clause-call
returns-clause-call g c =
    let l = c.in-Some.limit in (
      l.offset + 1,
      one_more g.O.Operator.one_call l.offset c.args.self.now.input c.pass_over.new.input c.next-2.new.self c.pass_over.ensures.calls c.next-2.ensures.call,
      rw c.in-Some.is (spends_row c.args.self.now.failed l (l.count - 1) c.requires (omega arith) (omega arith)),
    )
