use Rattle.std.proofs.Common.{subst}
use Rattle.follow.specs.inner.NextEntries.{IsTakeable, nothing}
use Rattle.follow.proofs.Moves.{err_as, rows_next}
use Rattle.follow.proofs.steps.take.Goals as goal

pub returns-in_err-follow_entry-in-Entry-clause-err : goal.returns-in_err-follow_entry-in-Entry-clause-err
returns-in_err-follow_entry-in-Entry-clause-err g c =
    err_as c.from_residual.result c.in_err-follow_entry-in-Entry.field-0.0 _ c.from_residual.ensures.1 c.in_err-follow_entry-in-Entry.ensures.err

pub copy_rows-requires-clause-next : goal.copy_rows-requires-clause-next
copy_rows-requires-clause-next g c =
    let o = g.W.World.opening in
    rows_next o c.args.pass.now.seen c.args.state.now c.in-Rows.rows (subst (IsTakeable o c.args.pass.now.seen c.args.state.now) c.in-Rows.is c.requires.given)

pub returns-in_err-copy_rows-in-Rows-clause-err : goal.returns-in_err-copy_rows-in-Rows-clause-err
returns-in_err-copy_rows-in-Rows-clause-err g c =
    err_as c.from_residual-in_err-copy_rows-in-Rows.result c.in_err-copy_rows-in-Rows.field-0.0 _ c.from_residual-in_err-copy_rows-in-Rows.ensures.1
    c.in_err-copy_rows-in-Rows.ensures.err

pub returns-in-Nothing-clause-taken : goal.returns-in-Nothing-clause-taken
returns-in-Nothing-clause-taken g c = rw (c.in-Nothing.is) nothing
