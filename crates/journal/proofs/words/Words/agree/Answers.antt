use Rattle.std.proofs.Common.{sym, subst, ap, ◌∙◌}
use Rattle.atomic_table.specs.Table.{Me}
use Rattle.journal.specs.declared.rule.View.{View}
use Rattle.journal.specs.Rules.{hears, noted}
use Rattle.journal.specs.inner.Steps.{Agrees}
use Rattle.journal.proofs.Rounds.{agrees}
use Rattle.journal.proofs.words.Words.agree.Goals as goal

pub returns-clause-seen : goal.returns-clause-seen
returns-clause-seen g c =
    let E : Type 0 = g.row.L-Entry.Denot in
    let W : Type 0 = Me E (View E) in
    let m : W = c.settle-found.new.seat.me in
    let hear : W → W = λ x. let r : W = (hears x.0 (noted m.0), x.1) in r in
    let b1 = c.tell-2.ensures.to.1 ∙ ap hear c.tell.ensures.from.1 in
    let all =
    agrees _ _ _ c.args.slot _ _ c.args.one.now.me c.args.other.now.me _ m _ c.settle.new.seat.me c.tell.ensures.to.1 c.settle-found.ensures.seen
    b1 c.settle.ensures.seen in
    let both : W → Type 0 = λ x. Agrees g.L.Law.slot_of g.L.Law.commit_of g.L.Law.may_follow c.args.one.now.me c.args.other.now.me x c.settle.new.seat.me in
    subst both (sym c.tell-2.ensures.from.1) all
