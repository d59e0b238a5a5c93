use Rattle.std.proofs.Common.{◌∙◌, map, sym, ap}
use Rattle.std.specs.Ordering.{is_lt}
use Rattle.std.specs.Cmp.Lexicographic.{slice_cmp}
use Rattle.vt_value.specs.Values.{value_at, value_cmp}
use Rattle.key_intervals.proofs.DirectionLemmas.{walked_passed, walked_next}
use Rattle.key_intervals.proofs.direction.+follows.Goals as goal

pub returns-then-is_fixed : goal.returns-then-is_fixed
returns-then-is_fixed t c = λ yes a b ka kb less.
    ap is_lt (sym (walked_passed c.args.direction c.args.keys.now c.in-Some.others.now c.in-Some.key.now a b c.in-Some.ensures.cases.0 (c.is_fixed.ensures c.if-is_fixed.true a b ka kb)))
    ∙ c.follows.ensures yes a b ka kb less

pub returns-in-Some-after : goal.returns-in-Some-after
returns-in-Some-after t c = λ yes a b ka kb less.
    walked_next c.args.direction c.args.keys.now c.in-Some.others.now c.in-Some.key.now
    (slice_cmp value_cmp (map (value_at a) c.in-Some-after.later.now) (map (value_at b) c.in-Some-after.later.now)) a b c.in-Some.ensures.cases.0
    (sym c.has.ensures ∙ c.if-has.true) (c.follows-in-Some-after.ensures yes a b ka kb) (sym (c.in-Some-after.ensures a b ka kb) ∙ less)
