use Rattle.std.proofs.Common.{[], length, ◌∙◌, arith}
use Rattle.std.proofs.lemmas.Result.{err_from_is_err_and}
use Rattle.resultset.proofs.SetsAgain.{head_again, columns_short, definitions_stand, rows_stand, rows_fit, same_set}
use Rattle.resultset.proofs.reading.read_set.Goals as goal

pub returns-in_default-clause-again : goal.returns-in_default-clause-again
returns-in_default-clause-again c = λ set status fits typed head e.
    c.in_default.ensures.only (length set.columns) [] (columns_short c.args.end set status c.args.head.now c.args.payloads.now head e (omega arith)) (head_again c.args.end set status c.args.head.now c.args.payloads.now head e)

pub returns-in_err-rows-clause-again : goal.returns-in_err-rows-clause-again
returns-in_err-rows-clause-again c =
    let p = err_from_is_err_and c.from_residual-in_err-rows.result c.from_residual-in_err-rows.ensures.1 in
    rw (p.1, p.2) (λ set status fits typed head e.
    let short = columns_short c.args.end set status c.args.head.now c.args.payloads.now head e (omega arith) in
    let counted = (c.in-Some.ensures.only (length set.columns) [] short (head_again c.args.end set status c.args.head.now c.args.payloads.now head e)).0 in
    let columns = c.in_ok-columns.ensures.again set.columns typed (definitions_stand c.args.end set status c.args.head.now c.args.payloads.now head e c.in-Some.count counted) in
    c.in_err-rows.ensures.again set.rows
    (rows_fit c.args.end set status c.args.head.now c.args.payloads.now head e c.in-Some.count counted c.as_slice.result.now (c.as_slice.ensures ∙ columns) fits.1)
    (rows_stand c.args.end set status c.args.head.now c.args.payloads.now head e c.in-Some.count counted c.packets_after_definitions-trailing.result c.packets_after_definitions-trailing.ensures))

pub returns-clause-again : goal.returns-clause-again
returns-clause-again c = λ set status fits typed head e.
    let short = columns_short c.args.end set status c.args.head.now c.args.payloads.now head e (omega arith) in
    let counted = (c.in-Some.ensures.only (length set.columns) [] short (head_again c.args.end set status c.args.head.now c.args.payloads.now head e)).0 in
    let columns = c.in_ok-columns.ensures.again set.columns typed (definitions_stand c.args.end set status c.args.head.now c.args.payloads.now head e c.in-Some.count counted) in
    let rows =
    c.in_ok-rows.ensures.again set.rows
    (rows_fit c.args.end set status c.args.head.now c.args.payloads.now head e c.in-Some.count counted c.as_slice.result.now (c.as_slice.ensures ∙ columns) fits.1)
    (rows_stand c.args.end set status c.args.head.now c.args.payloads.now head e c.in-Some.count counted c.packets_after_definitions-trailing.result c.packets_after_definitions-trailing.ensures) in
    same_set c.args.end set status c.args.head.now c.args.payloads.now head e c.in-Some.count counted c.in_ok-columns.columns c.in_ok-rows.rows columns rows
