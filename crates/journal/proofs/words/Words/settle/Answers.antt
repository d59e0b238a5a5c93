use Rattle.std.proofs.Common.{arith, sym, ◌∙◌}
use Rattle.journal.proofs.Keeps.{settles}
use Rattle.journal.proofs.words.Words.settle.Goals as goal

pub load-requires : goal.load-requires
load-requires g c = (
  c.requires.table ∙ sym c.args.self.now.named,
  omega (arith, c.args.self.now.long, c.requires.slot),
  settles _ _ _ _ _ c.args.seat.now.me c.args.slot c.requires.slot,
)
