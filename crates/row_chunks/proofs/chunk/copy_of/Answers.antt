use Rattle.row_chunks.proofs.Copies.{copied}
use Rattle.row_chunks.proofs.chunk.copy_of.Goals as goal

pub returns : goal.returns
returns g c = copied g.K.Clone.is_clone g.V.Clone.is_clone g.met.K.Same.same g.met.V.Same.same c.args.rows.now c.clone.result _ c.clone.ensures.cases
