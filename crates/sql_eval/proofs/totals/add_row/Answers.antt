use Rattle.std.proofs.Common.{◌∙◌, ◌++◌, ◌∷◌, [], ap, set, get_or}
use Rattle.std.proofs.lemmas.List.{length-set}
use Rattle.sql_eval.specs.inner.Totals.{total_of}
use Rattle.sql_eval.proofs.TotalLemmas.{next_at, next_set}
use Rattle.sql_eval.proofs.totals.add_row.Goals as goal

pub loop-i-preserved : goal.loop-i-preserved
loop-i-preserved c =
    let aggregates = c.args.aggregates.now in
    let i = c.loop-i.i in
    let within = c.loop-i-test.true in
    record {
      all = λ rows is.
          (let f = total_of (rows ++ c.args.row.now ∷ []) in
          let g = total_of rows in
          let before = c.loop-i.invariant.all rows is in
          let new = c.in_ok-add_to.ensures.ok rows (ap (λ l. get_or l i c.index-totals-i.result) before ∙ next_at f g aggregates i _ c.index-totals-i.result within) in
          (λ k. set (before k) i (new k)) ∙ next_set f g aggregates i _ within);
      each = length-set c.loop-i.totals i c.add_to.new.total ∙ c.loop-i.invariant.each;
      same = length-set c.loop-i.totals i c.add_to.new.total ∙ c.loop-i.invariant.same;
    }
