use Rattle.std.proofs.Common.{◌≡◌, ◌+◌, ◌-◌, ◌++◌, take, drop, length, suc, get_or, rules, sym, ap, ◌∙◌, List}
use Rattle.row_chunks.specs.Chunks.{ChunkView, all_of}
use Rattle.row_chunks.specs.inner.Splits.{begun}
use Rattle.std.specs.BTreeMap.Range.{entries_between}
use Rattle.std.specs.declared.ops.Bound.TheVariants.{Included, Unbounded}
use Rattle.row_chunks.proofs.Shelf.{walked_there, walked_all, left_after}
use Rattle.row_chunks.proofs.chunks.Chunks.walk_from.Goals as goal

pub returns-in-Some : goal.returns-in-Some
returns-in-Some g c =
    let n = c.in-Some.place in
    let is : begun g.K.Ord.cmp c.args.key.now c.args.self.now ≡ suc n = search rules in
    let at : get_or c.args.self.now n c.index-chunks-place.result ≡ c.index-chunks-place.result = search rules in
    let e = walked_there g.met.K.Ord.total c.args.key.now c.args.self.now n c.index-chunks-place.result c.place_of.ensures.parted is at in
    let r = c.range.ensures.between tt in
    let rows = c.rows.ensures in
    let same : c.as_slice-chunks.result.now ≡ c.args.self.now = search rules in
    let left : all_of (take (length c.as_slice-chunks.result.now - (n + 1)) (drop (n + 1) c.as_slice-chunks.result.now)) ≡ all_of (drop (suc n) c.args.self.now) =
    ap (λ (cs : List (ChunkView _ _)). all_of (take (length cs - (n + 1)) (drop (n + 1) cs))) same ∙ left_after g.met.K.Ord.total c.args.self.now n in
    let first = r ∙ ap (λ (es : List _). entries_between g.K.Ord.cmp (Included c.args.key.now) Unbounded es) rows in
    ap (λ (es : List _). es ++ all_of (take (length c.as_slice-chunks.result.now - (n + 1)) (drop (n + 1) c.as_slice-chunks.result.now))) first
    ∙ (ap (λ (es : List _). entries_between g.K.Ord.cmp (Included c.args.key.now) Unbounded c.index-chunks-place.result.entries ++ es) left ∙ sym e)

pub returns-in-None : goal.returns-in-None
returns-in-None g c =
    let e = walked_all g.met.K.Ord.total c.args.key.now c.args.self.now c.place_of.ensures.parted (search rules) in
    search rules
