use Rattle.std.proofs.Common.{◌≡◌, ◌∙◌, ◌<◌, List, length, get_or, rules, sym, ap, subst}
use Rattle.std.specs.List.{remove}
use Rattle.row_chunks.specs.Chunks.{ChunkView, all_of}
use Rattle.row_chunks.proofs.Dropped.{all_dropped, nil_if, shelf_dropped}
use Rattle.row_chunks.proofs.chunks.Chunks.give_up_if_empty.Goals as goal

pub invariant_of-self : goal.invariant_of-self
invariant_of-self g c =
    let items = c.self.inside.list.items in
    let within : c.args.place < length items = search rules in
    let at : get_or items c.args.place c.index.result.now ≡ c.index.result.now = search rules in
    let none = nil_if c.index.result.now.entries (subst (λ (es : List _). length es ≡ 0) c.rows.ensures (c.is_empty.ensures.0 c.if-is_empty.true)) in
    let is : c.remove.new.self.items ≡ remove items c.args.place = search rules in
    shelf_dropped g.K.Ord.cmp items c.remove.new.self.items c.args.place c.index.result.now within at none is c.self.invariant

pub returns-then-is_empty : goal.returns-then-is_empty
returns-then-is_empty g c =
    let items = c.self.inside.list.items in
    let within : c.args.place < length items = search rules in
    let at : get_or items c.args.place c.index.result.now ≡ c.index.result.now = search rules in
    let none = nil_if c.index.result.now.entries (subst (λ (es : List _). length es ≡ 0) c.rows.ensures (c.is_empty.ensures.0 c.if-is_empty.true)) in
    let is : c.remove.new.self.items ≡ remove items c.args.place = search rules in
    let same : c.args.self.now ≡ items = search rules in
    ap (λ (chunks : List (ChunkView _ _)). all_of chunks) is
    ∙ (all_dropped items c.args.place c.index.result.now within at none ∙ ap (λ (chunks : List (ChunkView _ _)). all_of chunks) (sym same))
