use Rattle.std.proofs.Common.{⊎_elim, inl, inr, sym, ap, ◌∙◌}
use Rattle.vschema.specs.TypedStatement.{as_write}
use Rattle.vschema.specs.TypedWrites.{insert_over, unless_refused, insert_checks}
use Rattle.vschema.proofs.Sourced.{lent, on_found}
use Rattle.vschema.proofs.writes.resolve_insert.Goals as goal

pub returns-clause-ok : goal.returns-clause-ok
returns-clause-ok c =
    let schema = c.args.schema.now in
    let s = c.args.insert in
    let n = c.in-Some.ordinal in
    let table = c.in-Some-get.table in
    let there = lent c.as_slice.result.now schema.tables n c.get.result table c.as_slice.ensures c.in-Some-get.is c.get.ensures.lookup in
    ap as_write
    (on_found schema s.table (λ m t. unless_refused (insert_checks t s) (insert_over m t s)) n table.now (sym c.table_ordinal.ensures ∙ c.in-Some.is) there
    ∙ c.in-Ok.ensures.ok n)

pub returns-in-Err-clause-err : goal.returns-in-Err-clause-err
returns-in-Err-clause-err c =
    let schema = c.args.schema.now in
    let s = c.args.insert in
    let n = c.in-Some.ordinal in
    let table = c.in-Some-get.table in
    let there = lent c.as_slice.result.now schema.tables n c.get.result table c.as_slice.ensures c.in-Some-get.is c.get.ensures.lookup in
    ⊎_elim inl
    (λ told. inr (ap as_write
    (on_found schema s.table (λ m t. unless_refused (insert_checks t s) (insert_over m t s)) n table.now (sym c.table_ordinal.ensures ∙ c.in-Some.is) there
    ∙ told n)))
    c.in-Err.ensures.err
