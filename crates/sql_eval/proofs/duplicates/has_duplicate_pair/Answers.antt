use Rattle.std.proofs.Common.{◌∙◌, sym, arith}
use Rattle.sql_eval.proofs.RowLemmas.{has_duplicate-step}
use Rattle.sql_eval.proofs.duplicates.has_duplicate_pair.Goals as goal

pub loop-i-preserved : goal.loop-i-preserved
loop-i-preserved c =
    sym (has_duplicate-step c.args.table.now c.args.rows.now c.args.new.now c.loop-i.i c.index-new-i.result (omega arith) c.index-new-i.is
    (sym c.if-has_key.ensures) (sym c.if-has_key-2.ensures))
    ∙ c.loop-i.invariant
