use Rattle.std.proofs.Common.{sym, ◌∙◌, arith}
use Rattle.journal.proofs.Moves.{tells_looks}
use Rattle.journal.proofs.words.Words.absorb.Goals as goal

pub join_seat-requires : goal.join_seat-requires
join_seat-requires g c = (
  c.requires.table.0 ∙ sym c.args.self.now.named,
  c.requires.table.1 ∙ sym c.args.self.now.named,
  c.requires.out,
  omega (arith, c.args.self.now.long),
  tells_looks _ _ _ _ _ _ _,
)
