use Rattle.row_chunks.proofs.Copies.{same_clone}
use Rattle.row_chunks.proofs.chunk.copy_key.Goals as goal

pub returns : goal.returns
returns g c = same_clone g.K.Clone.is_clone g.met.K.Same.same c.args.key.now c.clone.result _ c.clone.ensures.cases
