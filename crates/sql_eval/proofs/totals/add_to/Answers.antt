use Rattle.std.proofs.Common.{◌∙◌, map}
use Rattle.std.proofs.lemmas.Result.{on_ok_weaker}
use Rattle.sql_eval.specs.inner.Parts.{row_part}
use Rattle.sql_eval.proofs.TotalLemmas.{own_held, total_more}
use Rattle.sql_eval.proofs.totals.add_to.Goals as goal

pub add_part-requires : goal.add_part-requires
add_part-requires c =
    let a = c.args.aggregate.now in
    let (rows, is, summed) = c.requires in
    (map (λ row. row_part row a) rows, is, own_held a rows c.args.row.now c.part_at.result.now c.part_at.ensures summed)

pub returns : goal.returns
returns c =
    let a = c.args.aggregate.now in
    record {
      ok = on_ok_weaker c.add_part.result
          (λ more rows is. more (map (λ row. row_part row a) rows) is ∙ total_more a rows c.args.row.now c.part_at.result.now c.part_at.ensures)
          c.add_part.ensures.ok;
    }
