use Rattle.std.proofs.Common.{rules}
use Rattle.row_chunks.proofs.Changes.{shelf_pushed}
use Rattle.row_chunks.proofs.chunks.Chunks.begin.Goals as goal

pub invariant_of-self-2 : goal.invariant_of-self-2
invariant_of-self-2 g c = shelf_pushed g.met.K.Ord.total c.self.inside.list.items _ _ _ (search rules) (search rules) c.push.ensures.items
