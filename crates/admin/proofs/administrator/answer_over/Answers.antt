use Rattle.std.proofs.Common.{refl, sym, subst}
use Rattle.std.specs.List.{AllByRecursion}
use Rattle.keyrange.specs.Names.{IsNamed}
use Rattle.admin.specs.AdminAnswers.{IsAnswered, TellsStatus}
use Rattle.admin.specs.AdminAnswers as told
use Rattle.admin.proofs.Lines.{all_named, line_memory}
use Rattle.admin.proofs.administrator.answer_over.Goals as goal

pub returns-in-Err-clause-answered : goal.returns-in-Err-clause-answered
returns-in-Err-clause-answered g c =
    subst (IsAnswered _ _ c.args.words.now _ _ _ _) (sym c.refused.ensures) (line_memory _ _ _ _ _ _ refl)

pub create-requires-clause-named : goal.create-requires-clause-named
create-requires-clause-named g c =
    let asks = rw c.in-Create.is at c.in-Ok.ensures.ok in
    subst (AllByRecursion IsNamed) (sym c.deref-in-Create.ensures.value) (all_named _ _ asks.replaced_by)

pub returns-in-Status-clause-answered : goal.returns-in-Status-clause-answered
returns-in-Status-clause-answered g c =
    let asks = rw c.in-Status.is at c.in-Ok.ensures.ok in
    told.status asks refl refl c.status.ensures

pub returns-in-Create-clause-answered : goal.returns-in-Create-clause-answered
returns-in-Create-clause-answered g c =
    let asks = rw c.in-Create.is at c.in-Ok.ensures.ok in
    told.create _ _ asks (rw (sym c.deref.ensures.value, sym c.deref-in-Create.ensures.value) c.create.ensures.created)

pub returns-in-Step-clause-answered : goal.returns-in-Step-clause-answered
returns-in-Step-clause-answered g c = let asks = rw c.in-Step.is at c.in-Ok.ensures.ok in told.step asks c.step.ensures.moved

pub returns-in-Switch-clause-answered : goal.returns-in-Switch-clause-answered
returns-in-Switch-clause-answered g c = let asks = rw c.in-Switch.is at c.in-Ok.ensures.ok in told.switch asks c.switch.ensures.cut_over

pub returns-in-Advance-clause-answered : goal.returns-in-Advance-clause-answered
returns-in-Advance-clause-answered g c = let asks = rw c.in-Advance.is at c.in-Ok.ensures.ok in told.advance asks c.advance.ensures.advanced

pub returns-in-Resume-clause-answered : goal.returns-in-Resume-clause-answered
returns-in-Resume-clause-answered g c = let asks = rw c.in-Resume.is at c.in-Ok.ensures.ok in told.resume asks c.resume.ensures.resumed

pub returns-in-Cancel-clause-answered : goal.returns-in-Cancel-clause-answered
returns-in-Cancel-clause-answered g c = let asks = rw c.in-Cancel.is at c.in-Ok.ensures.ok in told.cancel asks c.cancel.ensures.cancelled

pub returns-in-Complete-clause-answered : goal.returns-in-Complete-clause-answered
returns-in-Complete-clause-answered g c = let asks = rw c.in-Complete.is at c.in-Ok.ensures.ok in told.complete asks c.complete.ensures.completed

pub returns-in-Unknown-clause-answered : goal.returns-in-Unknown-clause-answered
returns-in-Unknown-clause-answered g c = let asks = rw c.in-Unknown.is at c.in-Ok.ensures.ok in told.unknown asks refl refl
