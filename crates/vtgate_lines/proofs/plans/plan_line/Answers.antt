use Rattle.std.proofs.Common.{refl}
use Rattle.std.proofs.lemmas.Result.{err_from_is_err_and}
use Rattle.vtgate_lines.proofs.PlanRefusals.{from_memory, from_parse, from_resolve}
use Rattle.vtgate_lines.proofs.plans.plan_line.Goals as goal

pub returns-in_err-statement-clause-err : goal.returns-in_err-statement-clause-err
returns-in_err-statement-clause-err c =
    let p = err_from_is_err_and c.from_residual.result c.from_residual.ensures.1 in
    rw (p.1, p.2) (from_parse _ _ c.in_err-statement.field-0.0 c.in_err-statement.ensures.err c.in_err-statement.ensures.only)

pub returns-in_err-typed-clause-err : goal.returns-in_err-typed-clause-err
returns-in_err-typed-clause-err c =
    let p = err_from_is_err_and c.from_residual-in_err-typed.result c.from_residual-in_err-typed.ensures.1 in
    rw (p.1, p.2) (from_resolve _ _ _ c.in_err-typed.field-0.0 c.in_ok-statement.ensures.found c.in_err-typed.ensures.err)

pub returns-in_err-typed_line-clause-err : goal.returns-in_err-typed_line-clause-err
returns-in_err-typed_line-clause-err c =
    let p = err_from_is_err_and c.from_residual-in_err-typed_line.result c.from_residual-in_err-typed_line.ensures.1 in
    rw (p.1, p.2) (from_memory c.args.schema.now c.args.sql.now _ refl)
