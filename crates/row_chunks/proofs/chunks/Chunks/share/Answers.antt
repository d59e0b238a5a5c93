use Rattle.std.proofs.Common.{◌≡◌, ◌∙◌, List, rules, sym, ap}
use Rattle.row_chunks.specs.Chunks.{ChunkView, all_of}
use Rattle.row_chunks.proofs.Changes.{shelf_same, all_same}
use Rattle.row_chunks.proofs.chunks.Chunks.share.Goals as goal

pub invariant_of-result : goal.invariant_of-result
invariant_of-result g c = shelf_same g.met.K.Ord.total c.self.inside.list.items _ (search rules) c.self.invariant

pub returns : goal.returns
returns g c =
    let is : c.args.self.now ≡ c.self.inside.list.items = search rules in
    all_same c.in_ok-list.list.items c.self.inside.list.items (search rules) ∙ ap (λ (chunks : List (ChunkView _ _)). all_of chunks) (sym is)
