use Rattle.std.proofs.Common.{◌≡◌, [], List, rules, sym, subst}
use Rattle.row_chunks.specs.Chunks.{ChunkView, IsShelf}
use Rattle.row_chunks.proofs.Shelf.{empty_shelf}
use Rattle.row_chunks.proofs.chunks.Chunks.new.Goals as goal

pub invariant_of-result : goal.invariant_of-result
invariant_of-result g c =
    let none : c.new.result.items ≡ [] = search rules in
    subst (λ (chunks : List (ChunkView _ _)). IsShelf g.K.Ord.cmp chunks) (sym none) (empty_shelf g.met.K.Ord.total)
