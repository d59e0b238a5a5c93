use Rattle.std.proofs.Common.{rules}
use Rattle.row_chunks.proofs.Changes.{none_open}
use Rattle.row_chunks.proofs.chunks.Chunks.exchange.Goals as goal

pub returns-in-None-clause-none : goal.returns-in-None-clause-none
returns-in-None-clause-none g c = none_open g.met.K.Ord.total c.args.key.now c.args.self.now c.place_of.ensures.parted (search rules)
