use Rattle.std.proofs.Common.{◌∙◌, ap, sym, Err}
use Rattle.std.proofs.lemmas.Result.{err_from_is_err_and}
use Rattle.statement_values.specs.Executions.{has_bit}
use Rattle.statement_values.proofs.Bindings.{bound_step, bound_all, other_here, refused_here, no_other_left, err_is}
use Rattle.statement_values.proofs.execution.read_holes.Goals as goal

pub loop-hole-preserved : goal.loop-hole-preserved
loop-hole-preserved c =
    bound_step c.args.bitmap.now c.args.long.now c.args.types.now c.args.bytes.now c.loop-hole.values c.push.new.self
    c.in-Some.hole.long.now c.loop-hole.left.now c.in-Some.hole.more.now c.in-Some.hole.kind c.loop-hole.kinds.now c.in-Some.hole.kinds.now
    c.loop-hole.rest.now c.in_ok-value.after.now c.in_ok-value.value c.has_bit-is_null.result
    c.loop-hole.invariant c.in-Some.ensures.long c.in-Some.ensures.types (c.has_bit-is_null.ensures ∙ ap (has_bit c.args.bitmap.now) c.len.ensures)
    c.in_ok-value.ensures.found c.in_ok-value.ensures.only (λ f r h is. let e = c.in_ok-value.ensures.refused f r h is in cc) c.in_ok-push.ensures.ok

pub returns-then-is_done-clause-found : goal.returns-then-is_done-clause-found
returns-then-is_done-clause-found c =
    let d = c.is_done.ensures.done c.if-is_done.true in
    bound_all c.args.bitmap.now c.args.long.now c.args.types.now c.args.bytes.now c.loop-hole.values c.loop-hole.left.now c.loop-hole.kinds.now c.loop-hole.rest.now
    c.loop-hole.invariant d.0 d.1 d.2

pub returns-in_err-value-clause-other : goal.returns-in_err-value-clause-other
returns-in_err-value-clause-other c = λ is.
    let e = err_from_is_err_and c.from_residual.result c.from_residual.ensures.1 in
    other_here c.args.bitmap.now c.args.long.now c.args.types.now c.args.bytes.now c.loop-hole.values c.in-Some.hole.long.now c.loop-hole.left.now c.in-Some.hole.more.now
    c.in-Some.hole.kind c.loop-hole.kinds.now c.in-Some.hole.kinds.now c.loop-hole.rest.now c.has_bit-is_null.result
    c.loop-hole.invariant c.in-Some.ensures.long c.in-Some.ensures.types (c.has_bit-is_null.ensures ∙ ap (has_bit c.args.bitmap.now) c.len.ensures)
    (c.in_err-value.ensures.other (err_is _ _ (ap Err (sym e.2) ∙ sym e.1 ∙ is)))

pub returns-in_err-value-clause-refused : goal.returns-in_err-value-clause-refused
returns-in_err-value-clause-refused c = λ o.
    let e = err_from_is_err_and c.from_residual.result c.from_residual.ensures.1 in
    rw (e.1, e.2)
    (refused_here c.args.bitmap.now c.args.long.now c.args.types.now c.args.bytes.now c.loop-hole.values c.in-Some.hole.long.now c.loop-hole.left.now c.in-Some.hole.more.now
    c.in-Some.hole.kind c.loop-hole.kinds.now c.in-Some.hole.kinds.now c.loop-hole.rest.now c.has_bit-is_null.result c.in_err-value.field-0.0
    c.loop-hole.invariant c.in-Some.ensures.long c.in-Some.ensures.types (c.has_bit-is_null.ensures ∙ ap (has_bit c.args.bitmap.now) c.len.ensures)
    c.in_err-value.ensures.only (λ f r h is. err_is _ _ (c.in_err-value.ensures.refused f r h is)) o)
