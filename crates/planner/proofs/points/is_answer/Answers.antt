use Rattle.std.proofs.Common.{◌∙◌, sym}
use Rattle.planner.proofs.PlainAnswers.{plain_finishes}
use Rattle.planner.proofs.points.is_answer.Goals as goal

pub returns : goal.returns
returns c is =
    let all = rw c.len.ensures at c.have_width.ensures in
    plain_finishes c.args.query.now c.args.rows.now c.requires.grouped c.requires.ordered c.requires.limited (sym all ∙ is)
