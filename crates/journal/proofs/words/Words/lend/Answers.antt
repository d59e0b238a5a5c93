use Rattle.std.proofs.Common.{arith, sym, ap, subst, ◌∙◌, List}
use mathlib.Core.List.{IsPrefix}
use Rattle.journal.proofs.Moves.{lends, borrowed}
use Rattle.journal.proofs.words.Words.lend.Goals as goal

pub split_seat-right-requires : goal.split_seat-right-requires
split_seat-right-requires g c = (c.requires.table.0 ∙ sym c.args.self.now.named, omega (arith, c.args.self.now.long), lends _ _ _ _ _)

pub join_seat-requires : goal.join_seat-requires
join_seat-requires g c =
    let s = c.split_seat-right.ensures in (
      c.requires.table.1 ∙ sym c.args.self.now.named,
      s.3 ∙ c.requires.table.0 ∙ sym c.args.self.now.named,
      ap (λ m. m.1) s.4,
      omega (arith, c.args.self.now.long),
      borrowed _ _ _ _ c.args.seat.now.me.0 _ _ (subst (λ (x : List _). IsPrefix x c.args.seat.now.me.0.seen) (sym (ap (λ m. m.0.seen) s.4)) c.requires.seen),
    )
