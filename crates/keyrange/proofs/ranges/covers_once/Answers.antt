-- The ranges that hold each edge and the empty id once are a cover.
use Rattle.std.proofs.Common.{rules, tests}
use Rattle.std.proofs.lemmas.Iterator.{cases_from_all, YieldsList-from_slice}
use Rattle.keyrange.proofs.Covering.{IsGood, IsBad, covers, empty_uncovered}
use Rattle.keyrange.proofs.ranges.covers_once.Goals as goal

pub returns-then-is_in_one : goal.returns-then-is_in_one
returns-then-is_in_one c =
    let ranges = c.args.ranges.now in
    let answer = cases_from_all _ _ _ (IsGood ranges) (IsBad ranges) c.all.ensures.ran (YieldsList-from_slice ranges cc) (λ x q k. search (rules, tests)) (λ x q k. search (rules, tests)) in
    covers ranges c.all.result (search rules) answer

pub returns-else-is_in_one : goal.returns-else-is_in_one
returns-else-is_in_one c = empty_uncovered c.args.ranges.now c.is_in_one.result (search rules) (search rules)
