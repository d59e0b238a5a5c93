use Rattle.std.proofs.Common.{sym, ◌∙◌, arith}
use Rattle.journal.proofs.Moves.{deals}
use Rattle.journal.proofs.words.Words.deal.Goals as goal

pub split_seat-requires : goal.split_seat-requires
split_seat-requires g c = (c.requires.table ∙ sym c.args.self.now.named, omega (arith, c.args.self.now.long), deals _ _ _ _ c.args.from.now.me.0 c.requires.left)
