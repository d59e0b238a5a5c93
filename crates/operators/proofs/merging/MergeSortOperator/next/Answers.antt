use Rattle.std.proofs.lemmas.Result.{IfOk-weaker}
use Rattle.operators.proofs.FirstLemmas.{row_taken, none_taken, whichever}
use Rattle.operators.proofs.merging.MergeSortOperator.next.Goals as goal

pub returns-clause-row : goal.returns-clause-row
returns-clause-row g c =
    let keys = c.args.self.now.keys.now in
    let heads = c.args.self.now.heads.items in
    let first = rw c.deref.ensures.value at c.first-ordinal.ensures in
    let head = c.index_mut.result.now in
    let head' = c.take-taken.new.self in
    IfOk-weaker c.take-taken.result _ _
    (λ taken. whichever taken
    (λ none. none_taken keys g.O.Operator.to_come heads c.first-ordinal.result first head head' c.index_mut.ensures.value none.0 none.1)
    (λ row rows. row_taken keys g.O.Operator.to_come heads c.first-ordinal.result first head head' c.index_mut.ensures.value row rows))
    c.take-taken.ensures.row
