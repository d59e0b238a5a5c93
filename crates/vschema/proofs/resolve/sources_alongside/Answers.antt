use Rattle.std.proofs.Common.{slice_get}
use Rattle.vschema.proofs.Sourced.{beside, alone, lent, lacking}
use Rattle.vschema.proofs.resolve.sources_alongside.Goals as goal

pub returns-in-Some-clause-some : goal.returns-in-Some-clause-some
returns-in-Some-clause-some c =
    let tables = c.args.schema.now.tables in
    let second = c.args.second in
    let other = c.in-Some.other in
    beside c.args.select.now c.args.ordinal second c.args.table.now other.now (slice_get tables second) c.of_both.result
    (lent c.as_slice.result.now tables second c.get.result other c.as_slice.ensures c.in-Some.is c.get.ensures.lookup) c.of_both.ensures

pub returns-in-None-clause-none : goal.returns-in-None-clause-none
returns-in-None-clause-none c =
    let tables = c.args.schema.now.tables in
    let second = c.args.second in
    alone c.args.select.now c.args.ordinal second c.args.table.now (slice_get tables second)
    (lacking c.as_slice.result.now tables second c.get.result c.as_slice.ensures c.in-None.is c.get.ensures.lookup)
