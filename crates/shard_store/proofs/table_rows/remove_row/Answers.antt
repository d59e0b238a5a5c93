use Rattle.std.proofs.Common.{◌∙◌}
use Rattle.shard_store.proofs.TwoLists.{without-found, without-unfound}
use Rattle.shard_store.proofs.table_rows.remove_row.Goals as goal

pub returns-in-Some-clause-rows : goal.returns-in-Some-clause-rows
returns-in-Some-clause-rows c =
    let is = rw c.as_slice.ensures.value at c.ordinal_of.ensures in
    c.remove.ensures.items ∙ without-found c.args.row.now c.args.rows.now.items _ c.in-Some.ordinal is c.in-Some.is

pub returns-in_default-clause-rows : goal.returns-in_default-clause-rows
returns-in_default-clause-rows c =
    let is = rw c.as_slice.ensures.value at c.ordinal_of.ensures in
    without-unfound c.args.row.now c.args.rows.now.items _ is c.in_default.not-Some
