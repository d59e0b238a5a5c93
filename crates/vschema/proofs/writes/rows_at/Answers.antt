use Rattle.std.proofs.Common.{◌∙◌, sym, ap}
use Rattle.vschema.specs.TypedWrites.{insert_over}
use Rattle.vschema.specs.inner.StoredChecks.{unless}
use Rattle.vschema.proofs.WholeRows.{as_they_are}
use Rattle.vschema.proofs.writes.rows_at.Goals as goal

pub returns-then-are_all_in_order-clause-ok : goal.returns-then-are_all_in_order-clause-ok
returns-then-are_all_in_order-clause-ok c n =
    let t = c.args.table.now in
    let s = c.args.insert in
    let w = insert_over n t s in
    as_they_are t s n (sym c.requires.ordinals ∙ c.are_all_in_order.ensures c.if-are_all_in_order.true)
    (c.insert_refusal.ensures w ∙ ap (λ r. unless r w) c.in_default.is)
