use Rattle.std.proofs.Common.{sym, ap, ◌∙◌, arith}
use Rattle.atomic_table.specs.Table.{Me}
use Rattle.journal.specs.declared.rule.View.{View}
use Rattle.journal.specs.Rules.{hears, noted}
use Rattle.journal.proofs.Moves.{opens}
use Rattle.journal.proofs.Rounds.{opened}
use Rattle.journal.proofs.words.Words.open.Goals as goal

pub split_seat-seat-requires : goal.split_seat-seat-requires
split_seat-seat-requires g c = (c.requires.table.0 ∙ sym c.args.self.now.named, omega (arith, c.args.self.now.long), opens _ _ _ _ c.args.opener.now.me.0 c.requires.left)

pub returns-clause-seat : goal.returns-clause-seat
returns-clause-seat g c =
    let W : Type 0 = Me g.row.L-Entry.Denot (View g.row.L-Entry.Denot) in
    let hear : W → W = λ x. let r : W = (hears x.0 (noted c.args.parent.now.me.0), x.1) in r in
    opened _ _ _ 0 _ c.args.opener.now.me.0 c.args.parent.now.me.0 _ _ c.requires.blank (c.tell.ensures.to.1 ∙ ap hear c.split_seat-seat.ensures.4) c.settle.ensures.seen
