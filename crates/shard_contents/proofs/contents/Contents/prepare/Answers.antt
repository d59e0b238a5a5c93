use Rattle.std.proofs.lemmas.Result.{err_from_is_err_and}
use Rattle.shard_contents.specs.inner.Commits.{no_memory}
use Rattle.shard_contents.proofs.contents.Contents.prepare.Goals as goal

pub returns-in_err-entry-clause-err : goal.returns-in_err-entry-clause-err
returns-in_err-entry-clause-err c =
    let p = err_from_is_err_and c.from_residual-in_err-entry.result c.from_residual-in_err-entry.ensures.1 in
    rw (p.1, p.2) no_memory

pub returns-in_err-statements-clause-err : goal.returns-in_err-statements-clause-err
returns-in_err-statements-clause-err c =
    let p = err_from_is_err_and c.from_residual.result c.from_residual.ensures.1 in
    rw (p.1, p.2) no_memory
