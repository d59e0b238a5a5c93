use Rattle.std.proofs.Common.{◌≡◌, ◌⊎◌, ◌∙◌, List, Result, Ok, Err, inr, sym, subst}
use Rattle.std.specs.Prelude.{IfOk, IfErr}
use Rattle.vt_value.specs.declared.refusal.Refusal.{Refusal}
use Rattle.vt_value.specs.declared.refusal.Refusal.TheVariants.{OutOfMemory}
use Rattle.sql_eval.specs.RowChange.{RowChange}
use Rattle.sql_eval.specs.Database.{rows_of}
use Rattle.shard_store.proofs.KeptRows.{insert_refused, insert_of_none}
use Rattle.shard_store.proofs.stored.StoredTables.inserted.Goals as goal

pub returns-in-Ok-true-clause-err : goal.returns-in-Ok-true-clause-err
returns-in-Ok-true-clause-err c =
    inr (insert_refused c.args.table.now c.args.write.now c.args.ordinal c.args.new.now (rows_of c.args.self.now.rows c.args.ordinal) c.requires
    (sym c.in-Ok-true.ensures.ok ∙ c.in-Ok-true.field-0-test))

pub returns-in-Ok-false-clause-ok : goal.returns-in-Ok-false-clause-ok
returns-in-Ok-false-clause-ok c =
    subst (λ (x : Result (List RowChange) Refusal). IfOk c.change_local.result (λ changes. x ≡ Ok changes))
    (insert_of_none c.args.table.now c.args.write.now c.args.ordinal c.args.new.now (rows_of c.args.self.now.rows c.args.ordinal) c.requires
    (sym c.in-Ok-false.ensures.ok ∙ c.in-Ok-false.field-0-test)) c.change_local.ensures.ok

pub returns-in-Ok-false-clause-err : goal.returns-in-Ok-false-clause-err
returns-in-Ok-false-clause-err c =
    subst (λ (x : Result (List RowChange) Refusal). IfErr c.change_local.result (λ e. (e ≡ OutOfMemory) ⊎ (x ≡ Err e)))
    (insert_of_none c.args.table.now c.args.write.now c.args.ordinal c.args.new.now (rows_of c.args.self.now.rows c.args.ordinal) c.requires
    (sym c.in-Ok-false.ensures.ok ∙ c.in-Ok-false.field-0-test)) c.change_local.ensures.err
