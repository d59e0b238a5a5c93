use Rattle.std.proofs.Common.{sym, ◌∙◌}
use Rattle.sql_eval.proofs.ChangeLemmas.{inserts, deletes}
use Rattle.sql_eval.proofs.writes.change_local.Goals as goal

pub returns-in_ok-added-in-Insert-clause-ok : goal.returns-in_ok-added-in-Insert-clause-ok
returns-in_ok-added-in-Insert-clause-ok c =
    let none = rw c.as_slice.ensures at c.in_ok-has-in-Insert.ensures.ok in
    let added = rw c.as_slice-in-Insert.ensures at c.in_ok-added-in-Insert.ensures.ok in
    inserts c.args.table.now c.args.write.now c.in-Insert.ordinal c.in-Insert.new c.args.rows.now _ c.in-Insert.is (sym none ∙ c.if-has.false) added

pub returns-in_ok-removals_from-in-Delete-clause-ok : goal.returns-in_ok-removals_from-in-Delete-clause-ok
returns-in_ok-removals_from-in-Delete-clause-ok c =
    let removed = rw c.new.ensures at c.in_ok-removals_from-in-Delete.ensures.ok in
    deletes c.args.table.now c.args.write.now c.in-Delete.ordinal c.in-Delete.condition c.args.rows.now _ c.in-Delete.is removed
