use Rattle.std.proofs.Common.{sym, ◌∙◌, arith}
use Rattle.journal.proofs.Moves.{notes}
use Rattle.journal.proofs.words.Words.note.Goals as goal

pub split_seat-requires : goal.split_seat-requires
split_seat-requires g c = (c.requires ∙ sym c.args.self.now.named, omega (arith, c.args.self.now.long), notes _ _ _ _ _)
