use Rattle.resultset.proofs.Cuts.{joined}
use Rattle.resultset.proofs.chunks.Chunks.append.Goals as goal

pub returns-clause-ok : goal.returns-clause-ok
returns-clause-ok c =
    let items = rw (c.self.view_is, c.more.view_is) at c.in_ok-append.ensures.items in
    joined c.args.self.now c.in_ok-more.field-0 _ c.args.filling items c.in_ok-more.ensures.ok
