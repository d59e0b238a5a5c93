use Rattle.std.proofs.Common.{length, refl, ◌-◌}
use Rattle.reshard_create.proofs.reopening.Courses.{counts_other, counts_other_target, counts_unfrozen, counts_unretired, counts}
use Rattle.reshard_create.proofs.reopening.cutover_progress.progress_of.Goals as goal

pub returns-then-serving-unfrozen : goal.returns-then-serving-unfrozen
returns-then-serving-unfrozen c =
    counts_other c.args.sources.now c.args.targets.now c.leading-retired.result c.leading-held.result c.leading-serving.result c.leading-served.result
    c.leading-following.result c.modes_after-unretired.result.now c.modes_after-unfrozen.result.now c.modes_after-unserved.result.now c.modes_after-unretired.ensures
    c.modes_after-unfrozen.ensures c.modes_after-unserved.ensures c.leading-retired.ensures.led c.leading-held.ensures.led c.leading-serving.ensures.led
    c.leading-served.ensures.led c.leading-following.ensures.led c.if-serving-unfrozen.true

pub returns-then-following-unserved : goal.returns-then-following-unserved
returns-then-following-unserved c =
    counts_other_target c.args.sources.now c.args.targets.now c.leading-retired.result c.leading-held.result c.leading-serving.result c.leading-served.result
    c.leading-following.result c.modes_after-unretired.result.now c.modes_after-unfrozen.result.now c.modes_after-unserved.result.now c.modes_after-unretired.ensures
    c.modes_after-unfrozen.ensures c.modes_after-unserved.ensures c.leading-retired.ensures.led c.leading-held.ensures.led c.leading-serving.ensures.led
    c.leading-served.ensures.led c.leading-following.ensures.led c.if-following-unserved.true

pub returns-then-not-is_one_none : goal.returns-then-not-is_one_none
returns-then-not-is_one_none c =
    counts_unfrozen c.args.sources.now c.args.targets.now c.leading-retired.result c.leading-held.result c.leading-serving.result c.leading-served.result
    c.leading-following.result c.modes_after-unretired.result.now c.modes_after-unfrozen.result.now c.modes_after-unserved.result.now c.modes_after-unretired.ensures
    c.modes_after-unfrozen.ensures c.modes_after-unserved.ensures c.leading-retired.ensures.led c.leading-held.ensures.led c.leading-serving.ensures.led
    c.leading-served.ensures.led c.leading-following.ensures.led (c.is_one_none.ensures.no c.if-not-is_one_none.true)

pub returns-then-not-is_one_none-2 : goal.returns-then-not-is_one_none-2
returns-then-not-is_one_none-2 c =
    counts_unretired c.args.sources.now c.args.targets.now c.leading-retired.result c.leading-held.result c.leading-serving.result c.leading-served.result
    c.leading-following.result c.modes_after-unretired.result.now c.modes_after-unfrozen.result.now c.modes_after-unserved.result.now c.modes_after-unretired.ensures
    c.modes_after-unfrozen.ensures c.modes_after-unserved.ensures c.leading-retired.ensures.led c.leading-held.ensures.led c.leading-serving.ensures.led
    c.leading-served.ensures.led c.leading-following.ensures.led c.if-serving-unfrozen.false (c.is_one_none-2.ensures.no c.if-not-is_one_none-2.true)

pub returns : goal.returns
returns c =
    counts c.args.sources.now c.args.targets.now c.leading-retired.result c.leading-held.result c.leading-serving.result c.leading-served.result
    c.leading-following.result c.modes_after-unretired.result.now c.modes_after-unfrozen.result.now c.modes_after-unserved.result.now c.modes_after-unretired.ensures
    c.modes_after-unfrozen.ensures c.modes_after-unserved.ensures c.leading-retired.ensures.led c.leading-held.ensures.led c.leading-serving.ensures.led
    c.leading-served.ensures.led c.leading-following.ensures.led c.if-serving-unfrozen.false c.if-following-unserved.false
    (c.is_one_none.ensures.yes c.if-not-is_one_none.false) (c.is_one_none-2.ensures.yes c.if-not-is_one_none-2.false)
    (length c.args.sources.now - c.leading-serving.result) refl
