use Rattle.std.proofs.Common.{refl, arith, length, ◌<◌}
use Rattle.std.proofs.lemmas.Bool.Decides.{nat_tests}
use Rattle.vtgate_lines.proofs.LineFronts.{next_ended, next_last}
use Rattle.vtgate_lines.proofs.lines.next_line.Goals as goal

pub returns-in-empty-clause-found : goal.returns-in-empty-clause-found
returns-in-empty-clause-found c =
    let some : 0 < length c.args.input.now = grind (arith, nat_tests) in
    next_last c.args.input.now c.split_at.result.0.now c.split_at.result.1.now c.line_len.result c.split_at.ensures.front c.split_at.ensures.back c.line_len.ensures.front
    (omega (arith, c.in-empty.len_below)) some

pub returns-in-len1-up-clause-found : goal.returns-in-len1-up-clause-found
returns-in-len1-up-clause-found c =
    next_ended c.args.input.now c.split_at.result.0.now c.split_at.result.1.now _ c.line_len.result c.split_at.ensures.front c.split_at.ensures.back refl c.line_len.ensures.front
    c.line_len.ensures.end (omega (arith, c.in-len1-up.len_at_least))
