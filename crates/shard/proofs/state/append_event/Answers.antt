use Rattle.std.proofs.Common.{List, [], ◌∷◌, ◌++◌, sym, ap, subst, refl, ◌∙◌}
use Rattle.journal.specs.Views.{SeatView}
use Rattle.shard_run.specs.declared.Entry.{Entry}
use Rattle.shard_run.specs.declared.ShardRecord.{ShardRecord}
use Rattle.shard_run.specs.Runs.{mode}
use Rattle.shard_contents.specs.Legal.{IsOnItsSlot, May}
use Rattle.shard_contents.proofs.Modes as m
use Rattle.shard.proofs.state.append_event.Goals as goal

pub append-requires-clause-lawful : goal.append-requires-clause-lawful
append-requires-clause-lawful g c κs within run later =
    let same = sym c.replace-shard.ensures.value in (
      subst (IsOnItsSlot g.W.World.opening run) same
          (m.stands_there g.W.World.opening g.W.World.limits c.args.seat.now c.args.contents.now c.requires.after run later.alone),
      subst (λ (s : ShardRecord). May g.W.World.opening run s c.args.event) same (c.requires.lawful run later),
    )

pub returns-clause-after : goal.returns-clause-after
returns-clause-after g c =
    let a = c.append.ensures in
    let v = c.replace-shard.ensures.value in
    m.after g.W.World.opening g.W.World.limits c.args.seat.now c.args.contents.now c.requires.after a.seen.0 a.seen.1.alone c.args.event c.requires.plain c.args.next
    c.requires.next c.requires.room c.requires.lives c.append.new.self _ (a.seen.2 ∙ ap (λ (s : ShardRecord). a.seen.0 ++ record { shard = s; event = c.args.event } ∷ []) v) (ap (λ (s : SeatView Entry). s.slot) a.seat) v refl refl refl refl refl c.requires.within

pub returns-clause-now : goal.returns-clause-now
returns-clause-now g c =
    let a = c.append.ensures in
    let v = c.replace-shard.ensures.value in
    ap (λ (s : ShardRecord). mode g.W.World.opening c.append.new.self.seen s.slot) v
    ∙ ap (λ (run : List Entry). mode g.W.World.opening run c.args.contents.now.shard.slot) (a.seen.2 ∙ ap (λ (s : ShardRecord). a.seen.0 ++ record { shard = s; event = c.args.event } ∷ []) v)
    ∙ m.mode_now g.W.World.opening g.W.World.limits c.args.seat.now c.args.contents.now c.requires.after a.seen.0 a.seen.1.alone c.args.event c.requires.plain c.args.next
    c.requires.next c.requires.room c.requires.lives
