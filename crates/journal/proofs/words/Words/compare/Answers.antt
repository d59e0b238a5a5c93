use Rattle.std.proofs.Common.{arith, sym, ap, subst, ◌∙◌, []}
use Rattle.atomic_table.specs.Table.{Me}
use Rattle.journal.specs.declared.rule.View.{View}
use Rattle.journal.specs.Rules.{IsCovered}
use Rattle.journal.proofs.Keeps.{compares}
use Rattle.journal.proofs.words.Words.compare.Goals as goal

pub load-requires : goal.load-requires
load-requires g c = (
  c.tell.ensures.to.0 ∙ c.requires.table.0 ∙ sym c.args.self.now.named,
  omega (arith, c.args.self.now.long),
  compares _ _ _ _ _ c.tell.new.to.me 0 (omega arith),
)

pub returns-clause-one : goal.returns-clause-one
returns-clause-one g c =
    let W : Type 0 = Me g.row.L-Entry.Denot (View g.row.L-Entry.Denot) in
    let silent : W → W = λ x. let r : W = (record x.0 { told = [] }, x.1) in r in
    c.load.ensures.2.0 ∙ ap silent c.tell.ensures.to.1

pub returns-clause-covered : goal.returns-clause-covered
returns-clause-covered g c =
    let W : Type 0 = Me g.row.L-Entry.Denot (View g.row.L-Entry.Denot) in
    subst (λ (x : W). IsCovered g.L.Law.slot_of g.L.Law.commit_of g.L.Law.may_follow x.0) c.tell.ensures.to.1 c.load.ensures.2.1
