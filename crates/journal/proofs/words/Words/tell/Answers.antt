use Rattle.std.proofs.Common.{arith, sym, ap, ◌∙◌}
use Rattle.journal.proofs.Moves.{notes, tells}
use Rattle.journal.proofs.words.Words.tell.Goals as goal

pub split_seat-note-requires : goal.split_seat-note-requires
split_seat-note-requires g c = (c.requires.0 ∙ sym c.args.self.now.named, omega (arith, c.args.self.now.long), notes _ _ _ _ _)

pub join_seat-requires : goal.join_seat-requires
join_seat-requires g c =
    let s = c.split_seat-note.ensures in (
      c.requires.1 ∙ sym c.args.self.now.named,
      s.3 ∙ c.requires.0 ∙ sym c.args.self.now.named,
      ap (λ m. m.1) s.4,
      omega (arith, c.args.self.now.long),
      tells _ _ _ _ _ _ _,
    )
