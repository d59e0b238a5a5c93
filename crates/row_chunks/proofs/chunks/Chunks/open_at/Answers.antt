use Rattle.std.proofs.Common.{◌≡◌, suc, get_or, set, rules, subst, List, IsSome}
use Rattle.std.specs.Map.{lookup}
use Rattle.std.specs.BTreeMap.{is_at}
use Rattle.row_chunks.specs.Chunks.{ChunkView, span, open_of, all_of}
use Rattle.row_chunks.specs.inner.Splits.{begun}
use Rattle.row_chunks.proofs.Copies.{on_ok, ok_or_err}
use Rattle.row_chunks.proofs.Changes.{shelf_same, span_set, still_open, open_more, opened, begun_same, all_same}
use Rattle.row_chunks.proofs.chunks.Chunks.open_at.Goals as goal

pub invariant_of-self : goal.invariant_of-self
invariant_of-self g c =
    let items = c.self.inside.list.items in
    let at : get_or items c.args.place c.index_mut.result.now ≡ c.index_mut.result.now = search rules in
    let same : span c.open.new.self ≡ span c.index_mut.result.now = search rules in
    shelf_same g.met.K.Ord.total items (set items c.args.place c.open.new.self) (span_set items c.args.place c.index_mut.result.now c.open.new.self at same) c.self.invariant

pub returns-clause-all : goal.returns-clause-all
returns-clause-all g c =
    let items = c.self.inside.list.items in
    let at : get_or items c.args.place c.index_mut.result.now ≡ c.index_mut.result.now = search rules in
    let same : span c.open.new.self ≡ span c.index_mut.result.now = search rules in
    let e = all_same (set items c.args.place c.open.new.self) items (span_set items c.args.place c.index_mut.result.now c.open.new.self at same) in
    search rules

pub returns-clause-begun : goal.returns-clause-begun
returns-clause-begun g c = λ k.
    let items = c.self.inside.list.items in
    let at : get_or items c.args.place c.index_mut.result.now ≡ c.index_mut.result.now = search rules in
    let same : span c.open.new.self ≡ span c.index_mut.result.now = search rules in
    let e = begun_same g.met.K.Ord.total k items (set items c.args.place c.open.new.self) (span_set items c.args.place c.index_mut.result.now c.open.new.self at same) in
    search rules

pub returns-clause-found : goal.returns-clause-found
returns-clause-found g c =
    let o = g.met.K.Ord.total in
    let items = c.self.inside.list.items in
    let at : get_or items c.args.place c.index_mut.result.now ≡ c.index_mut.result.now = search rules in
    let is : c.args.self.now ≡ items = search rules in
    on_ok c.open.result (λ t. λ k b h. opened o k items c.args.place c.index_mut.result.now c.open.new.self c.self.invariant.parted (search rules) at c.open.ensures.entries t
    (subst (λ (chunks : List (ChunkView _ _)). begun g.K.Ord.cmp k chunks ≡ suc c.args.place) is (search rules))
    (subst (λ (chunks : List (ChunkView _ _)). IsSome (lookup (is_at (g.K.Ord.cmp k)) (all_of chunks))) is h)) c.open.ensures.open

pub returns-clause-kept : goal.returns-clause-kept
returns-clause-kept g c = λ k h.
    let o = g.met.K.Ord.total in
    let test = is_at (g.K.Ord.cmp k) in
    let items = c.self.inside.list.items in
    let at : get_or items c.args.place c.index_mut.result.now ≡ c.index_mut.result.now = search rules in
    let is : c.args.self.now ≡ items = search rules in
    let before : IsSome (lookup test (open_of items)) = subst (λ (chunks : List (ChunkView _ _)). IsSome (lookup test (open_of chunks))) is h in
    still_open test items c.args.place c.index_mut.result.now c.open.new.self at
    (open_more o test c.index_mut.result.now c.open.new.self c.open.ensures.entries (ok_or_err c.open.result c.open.ensures.open c.open.ensures.unchanged)) before
