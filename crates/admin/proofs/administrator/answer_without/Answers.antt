use Rattle.std.proofs.Common.{lit<, refl, sym, subst}
use Rattle.admin.specs.AdminAnswers.{IsAnsweredWithout}
use Rattle.admin.proofs.Lines.{without_memory, status_without, create_without, other_without, unknown_without}
use Rattle.admin.proofs.administrator.answer_without.Goals as goal
use Rattle.admin.proofs.administrator.answer_without.Goals.{in-Status, in-Create, in-Step, in-Switch, in-Advance, in-Resume, in-Cancel, in-Complete, in-Unknown}

pub returns-in-Err : goal.returns-in-Err
returns-in-Err c = subst (IsAnsweredWithout c.args.words.now) (sym c.refused.ensures) (without_memory _ _ refl)

pub returns : goal.returns
returns c =
    elim c.match-line.branch [
      | in-Status w ↦ let asks = rw w.in-Status.is at c.in-Ok.ensures.ok in status_without _ _ _ w.result-is asks w.empty_status.ensures
      | in-Create w ↦ let asks = rw w.in-Create.is at c.in-Ok.ensures.ok in create_without _ _ _ w.result-is _ _ asks w.refused-in-Create.ensures
      | in-Step w ↦ let asks = rw w.in-Step.is at c.in-Ok.ensures.ok in other_without _ _ _ w.result-is (0, lit< tt, sym asks) w.refused-in-Step.ensures
      | in-Switch w ↦ let asks = rw w.in-Switch.is at c.in-Ok.ensures.ok in other_without _ _ _ w.result-is (1, lit< tt, sym asks) w.refused-in-Switch.ensures
      | in-Advance w ↦ let asks = rw w.in-Advance.is at c.in-Ok.ensures.ok in other_without _ _ _ w.result-is (2, lit< tt, sym asks) w.refused-in-Advance.ensures
      | in-Resume w ↦ let asks = rw w.in-Resume.is at c.in-Ok.ensures.ok in other_without _ _ _ w.result-is (3, lit< tt, sym asks) w.refused-in-Resume.ensures
      | in-Cancel w ↦ let asks = rw w.in-Cancel.is at c.in-Ok.ensures.ok in other_without _ _ _ w.result-is (4, lit< tt, sym asks) w.refused-in-Cancel.ensures
      | in-Complete w ↦ let asks = rw w.in-Complete.is at c.in-Ok.ensures.ok in other_without _ _ _ w.result-is (5, lit< tt, sym asks) w.refused-in-Complete.ensures
      | in-Unknown w ↦ let asks = rw w.in-Unknown.is at c.in-Ok.ensures.ok in unknown_without _ _ w.result-is asks
    ]
