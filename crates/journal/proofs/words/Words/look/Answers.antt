use Rattle.std.proofs.Common.{sym, subst, ap, ◌∙◌}
use Rattle.atomic_table.specs.Table.{Me}
use Rattle.journal.specs.declared.rule.View.{View}
use Rattle.journal.specs.Rules.{hears_looks, look_noted}
use Rattle.journal.specs.inner.Steps.{LooksBoth}
use Rattle.journal.proofs.Rounds.{looks_both}
use Rattle.journal.proofs.words.Words.look.Goals as goal

pub returns-clause-seen : goal.returns-clause-seen
returns-clause-seen g c =
    let E : Type 0 = g.row.L-Entry.Denot in
    let W : Type 0 = Me E (View E) in
    let m : W = c.see-found.new.seat.me in
    let hear : W → W = λ x. let r : W = (hears_looks x.0 (look_noted m.0), x.1) in r in
    let b1 = c.tell_look.ensures.to.1 ∙ ap hear c.tell.ensures.from.1 in
    let all =
    looks_both _ _ _ c.args.slot c.see-found.result _ c.args.seat.now.me c.args.pass.now.me _ m _ c.settle.new.seat.me c.tell.ensures.to.1
    c.see-found.ensures.seen b1 c.settle.ensures.seen in
    let both : W → Type 0 =
    λ x. LooksBoth g.L.Law.slot_of g.L.Law.commit_of g.L.Law.may_follow c.args.slot c.args.seat.now.me c.args.pass.now.me c.see-found.result x c.settle.new.seat.me in
    subst both (sym c.tell_look.ensures.from.1) all
