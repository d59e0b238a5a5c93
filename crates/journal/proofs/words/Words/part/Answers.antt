use Rattle.std.proofs.Common.{List, sym, subst, ap, ◌∙◌, arith}
use mathlib.Core.List.{IsPrefix}
use Rattle.atomic_table.specs.Table.{Me}
use Rattle.journal.specs.declared.rule.View.{View}
use Rattle.journal.specs.Rules.{holding}
use Rattle.journal.proofs.Fronts.{prefix_self}
use Rattle.journal.proofs.Moves.{lends, held, lets_go, returned}
use Rattle.journal.proofs.Rounds.{lets_go_after, let_go_seen, parted}
use Rattle.journal.proofs.words.Words.part.Goals as goal

pub split_seat-right-requires : goal.split_seat-right-requires
split_seat-right-requires g c = (c.requires.table.1 ∙ sym c.args.self.now.named, omega (arith, c.args.self.now.long), lends _ _ _ _ _)

pub join_seat-requires : goal.join_seat-requires
join_seat-requires g c =
    let s = c.split_seat-right.ensures in
    let seen = ap (λ m. m.0.seen) s.4 ∙ c.requires.seen in (
      c.requires.table.0 ∙ sym c.args.self.now.named,
      s.3 ∙ c.requires.table.1 ∙ sym c.args.self.now.named,
      ap (λ m. m.1) s.4,
      omega (arith, c.args.self.now.long),
      held _ _ _ _ c.args.one.now.me.0 _ _ (subst (λ (x : List _). IsPrefix x c.args.one.now.me.0.seen) (sym seen) (prefix_self c.args.one.now.me.0.seen)),
    )

pub split_seat-right-requires-2 : goal.split_seat-right-requires-2
split_seat-right-requires-2 g c =
    let W : Type 0 = Me g.row.L-Entry.Denot (View g.row.L-Entry.Denot) in
    let take : W → W = λ x. let r : W = (holding c.args.one.now.me.0 x.0, c.args.one.now.me.1) in r in
    let a1 = c.join_seat.ensures.2 ∙ ap take c.split_seat-right.ensures.4 in (
      c.settle.ensures.seat ∙ c.join_seat.ensures.0 ∙ c.requires.table.0 ∙ sym c.args.self.now.named,
      omega (arith, c.args.self.now.long),
      lets_go _ _ _ _ c.settle.new.seat.me.0 (lets_go_after _ _ _ 0 _ c.args.one.now.me c.args.other.now.me _ c.settle.new.seat.me a1 c.settle.ensures.seen),
    )

pub join_seat-requires-2 : goal.join_seat-requires-2
join_seat-requires-2 g c =
    let W : Type 0 = Me g.row.L-Entry.Denot (View g.row.L-Entry.Denot) in
    let take : W → W = λ x. let r : W = (holding c.args.one.now.me.0 x.0, c.args.one.now.me.1) in r in
    let a1 = c.join_seat.ensures.2 ∙ ap take c.split_seat-right.ensures.4 in
    let b = c.split_seat-right.ensures in
    let r = c.split_seat-right-2.ensures in (
      b.0 ∙ c.requires.table.1 ∙ sym c.args.self.now.named,
      r.3 ∙ c.settle.ensures.seat ∙ c.join_seat.ensures.0 ∙ c.requires.table.0 ∙ sym c.args.self.now.named,
      ap (λ m. m.1) r.4,
      omega (arith, c.args.self.now.long),
      returned _ _ _ _ c.split_seat-right.new.seat.me.0 _ c.split_seat-right-2.result.me.0
          (let_go_seen _ _ _ 0 _ c.args.one.now.me c.args.other.now.me _ c.settle.new.seat.me c.split_seat-right.new.seat.me c.split_seat-right-2.result.me c.requires.seen b.2 a1 c.settle.ensures.seen r.4),
    )

pub returns-clause-told : goal.returns-clause-told
returns-clause-told g c =
    let W : Type 0 = Me g.row.L-Entry.Denot (View g.row.L-Entry.Denot) in
    let take : W → W = λ x. let r : W = (holding c.args.one.now.me.0 x.0, c.args.one.now.me.1) in r in
    let a1 = c.join_seat.ensures.2 ∙ ap take c.split_seat-right.ensures.4 in
    let b = c.split_seat-right.ensures in
    let r = c.split_seat-right-2.ensures in
    parted _ _ _ 0 _ c.args.one.now.me c.args.other.now.me _ c.settle.new.seat.me c.split_seat-right-2.new.seat.me c.split_seat-right.new.seat.me
    c.join_seat-2.new.seat.me c.split_seat-right-2.result.me
    c.requires.plain.0 c.requires.plain.1 c.requires.seen b.2 a1 c.settle.ensures.seen r.4 r.2 c.join_seat-2.ensures.2
