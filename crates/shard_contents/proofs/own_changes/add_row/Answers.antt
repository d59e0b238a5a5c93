use Rattle.shard_contents.proofs.ChangeLists.{row_kept, row_there}
use Rattle.shard_contents.proofs.own_changes.add_row.Goals as goal

pub returns-in_err-add-clause-kept : goal.returns-in_err-add-clause-kept
returns-in_err-add-clause-kept c = λ n table row h.
    row_kept c.table_at.new.by_key.items c.in_ok-ordinal.ordinal c.index_mut.result.now c.add.new.self c.in_ok-ordinal.ensures.ok.0 c.index_mut.ensures.value
    c.add.ensures.columns c.add.ensures.table c.add.ensures.kept n table row (c.in_ok-ordinal.ensures.kept n table row h)

pub returns-clause-kept : goal.returns-clause-kept
returns-clause-kept c = λ n table row h.
    row_kept c.table_at.new.by_key.items c.in_ok-ordinal.ordinal c.index_mut.result.now c.add.new.self c.in_ok-ordinal.ensures.ok.0 c.index_mut.ensures.value
    c.add.ensures.columns c.add.ensures.table c.add.ensures.kept n table row (c.in_ok-ordinal.ensures.kept n table row h)

pub returns-clause-ok : goal.returns-clause-ok
returns-clause-ok c =
    row_there c.table_at.new.by_key.items c.in_ok-ordinal.ordinal c.index_mut.result.now c.add.new.self c.in_ok-ordinal.ensures.ok.0 c.index_mut.ensures.value
    c.add.ensures.columns c.args.position c.args.table c.args.row.now c.add.ensures.table c.in_ok-ordinal.ensures.ok.1 c.in_ok-add.ensures.ok
