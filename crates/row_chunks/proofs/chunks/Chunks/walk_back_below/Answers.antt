use Rattle.std.proofs.Common.{◌≡◌, ◌++◌, take, suc, get_or, rules, sym, ap, ◌∙◌, List}
use Rattle.row_chunks.specs.Chunks.{ChunkView, all_of}
use Rattle.row_chunks.specs.inner.Splits.{begun}
use Rattle.std.specs.BTreeMap.Range.{entries_between}
use Rattle.std.specs.declared.ops.Bound.TheVariants.{Excluded, Unbounded}
use Rattle.row_chunks.proofs.Shelf.{under_there, under_all}
use Rattle.row_chunks.proofs.chunks.Chunks.walk_back_below.Goals as goal

pub returns-in-Some : goal.returns-in-Some
returns-in-Some g c =
    let n = c.in-Some.place in
    let is : begun g.K.Ord.cmp c.args.key.now c.args.self.now ≡ suc n = search rules in
    let at : get_or c.args.self.now n c.index-chunks-place.result ≡ c.index-chunks-place.result = search rules in
    let e = under_there g.met.K.Ord.total c.args.key.now c.args.self.now n c.index-chunks-place.result c.place_of.ensures.parted is at in
    let r = c.range.ensures.between tt in
    let rows = c.rows.ensures in
    let same : c.as_slice-chunks.result.now ≡ c.args.self.now = search rules in
    let first = r ∙ ap (λ (es : List _). entries_between g.K.Ord.cmp Unbounded (Excluded c.args.key.now) es) rows in
    ap (λ (es : List _). all_of (take n c.as_slice-chunks.result.now) ++ es) first
    ∙ (ap (λ (cs : List (ChunkView _ _)). all_of (take n cs) ++ entries_between g.K.Ord.cmp Unbounded (Excluded c.args.key.now) c.index-chunks-place.result.entries) same ∙ sym e)

pub returns-in-None : goal.returns-in-None
returns-in-None g c =
    let e = under_all g.met.K.Ord.total c.args.key.now c.args.self.now c.place_of.ensures.parted (search rules) in
    search rules
