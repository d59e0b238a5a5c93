use Rattle.std.proofs.Common.{◌≡◌, suc, get_or, rules}
use Rattle.std.specs.Map.{remove_entry}
use Rattle.std.specs.BTreeMap.{is_at}
use Rattle.row_chunks.specs.inner.Splits.{begun}
use Rattle.row_chunks.proofs.Shelf.{done_there, remove_local}
use Rattle.row_chunks.proofs.Changes.{shelf_changed, remove_kind}
use Rattle.row_chunks.proofs.chunks.Chunks.remove_from_chunk.Goals as goal

pub invariant_of-self : goal.invariant_of-self
invariant_of-self g c =
    let o = g.met.K.Ord.total in
    let items = c.self.inside.list.items in
    let n = c.open_place-place.result in
    let at : get_or items n c.index_mut.result.now ≡ c.index_mut.result.now = search rules in
    let is : begun g.K.Ord.cmp c.args.key.now items ≡ suc n = search rules in
    shelf_changed o c.args.key.now (remove_entry (is_at (g.K.Ord.cmp c.args.key.now))) (remove_kind o c.args.key.now) items n c.index_mut.result.now c.remove.new.self c.self.invariant is at c.remove.ensures.from c.remove.ensures.entries

pub returns-clause-all : goal.returns-clause-all
returns-clause-all g c =
    let o = g.met.K.Ord.total in
    let items = c.self.inside.list.items in
    let n = c.open_place-place.result in
    let at : get_or items n c.index_mut.result.now ≡ c.index_mut.result.now = search rules in
    let is : begun g.K.Ord.cmp c.args.key.now items ≡ suc n = search rules in
    let d = done_there o c.args.key.now (remove_entry (is_at (g.K.Ord.cmp c.args.key.now))) (remove_local o c.args.key.now) items n c.index_mut.result.now c.remove.new.self c.self.invariant.parted is at c.remove.ensures.entries in
    search rules
