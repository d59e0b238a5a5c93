use Rattle.std.proofs.Common.{rules}
use Rattle.row_chunks.proofs.Changes.{split_at}
use Rattle.row_chunks.proofs.chunk.Chunk.split.Goals as goal

pub returns-clause-split : goal.returns-clause-split
returns-clause-split g c = split_at g.met.K.Ord.total _ _ _ (search rules) (search rules) (search rules) (search rules) (search rules)
