use Rattle.std.proofs.Common.{◌≡◌, get_or, rules}
use Rattle.row_chunks.proofs.Changes.{shelf_lowered, begun_lowered, all_lowered, open_lowered}
use Rattle.row_chunks.proofs.chunks.Chunks.lower.Goals as goal

pub invariant_of-self : goal.invariant_of-self
invariant_of-self g c =
    let at : get_or c.self.inside.list.items 0 c.index_mut.result.now ≡ c.index_mut.result.now = search rules in
    shelf_lowered g.met.K.Ord.total c.args.from c.self.inside.list.items c.index_mut.result.now c.begin_at.new.self c.self.invariant at c.begin_at.ensures.from c.begin_at.ensures.entries (search rules)

pub returns-clause-all : goal.returns-clause-all
returns-clause-all g c =
    let at : get_or c.self.inside.list.items 0 c.index_mut.result.now ≡ c.index_mut.result.now = search rules in
    let all = all_lowered g.met.K.Ord.total c.self.inside.list.items c.index_mut.result.now c.begin_at.new.self at c.begin_at.ensures.entries in
    search rules

pub returns-clause-open : goal.returns-clause-open
returns-clause-open g c =
    let at : get_or c.self.inside.list.items 0 c.index_mut.result.now ≡ c.index_mut.result.now = search rules in
    let all = open_lowered g.met.K.Ord.total c.self.inside.list.items c.index_mut.result.now c.begin_at.new.self at (search rules) in
    search rules

pub returns-clause-begun : goal.returns-clause-begun
returns-clause-begun g c =
    let all = begun_lowered g.met.K.Ord.total c.args.from c.self.inside.list.items c.begin_at.new.self (search rules) c.begin_at.ensures.from in
    search rules
