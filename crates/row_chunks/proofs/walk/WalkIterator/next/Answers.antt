use Rattle.std.proofs.Common.{◌∙◌, rules}
use Rattle.row_chunks.proofs.Shelf.{all_between}
use Rattle.row_chunks.proofs.walk.WalkIterator.next.Goals as goal

pub returns-in-Some-next-2-clause-steps : goal.returns-in-Some-next-2-clause-steps
returns-in-Some-next-2-clause-steps g c =
    let all = c.range-first.ensures.between tt ∙ all_between g.met.K.Ord.total c.rows.result.now.entries in
    search rules

pub loop-chunk-preserved : goal.loop-chunk-preserved
loop-chunk-preserved g c =
    let all = c.range-first.ensures.between tt ∙ all_between g.met.K.Ord.total c.rows.result.now.entries in
    search rules
