use Rattle.std.proofs.Common.{◌≡◌, get_or, set, rules}
use Rattle.row_chunks.specs.Chunks.{span}
use Rattle.row_chunks.proofs.Changes.{all_same, shelf_same, span_set}
use Rattle.row_chunks.proofs.chunks.Chunks.close_at.Goals as goal

pub invariant_of-self : goal.invariant_of-self
invariant_of-self g c =
    let at : get_or c.self.inside.list.items c.args.place c.index_mut.result.now ≡ c.index_mut.result.now = search rules in
    let same : span c.close.new.self ≡ span c.index_mut.result.now = search rules in
    shelf_same g.met.K.Ord.total c.self.inside.list.items (set c.self.inside.list.items c.args.place c.close.new.self) (span_set c.self.inside.list.items c.args.place c.index_mut.result.now c.close.new.self at same) c.self.invariant

pub returns : goal.returns
returns g c =
    let at : get_or c.self.inside.list.items c.args.place c.index_mut.result.now ≡ c.index_mut.result.now = search rules in
    let same : span c.close.new.self ≡ span c.index_mut.result.now = search rules in
    let e = all_same (set c.self.inside.list.items c.args.place c.close.new.self) c.self.inside.list.items (span_set c.self.inside.list.items c.args.place c.index_mut.result.now c.close.new.self at same) in
    search rules
