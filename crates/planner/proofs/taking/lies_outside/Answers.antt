use Rattle.std.proofs.Common.{rules, ◌≡◌, IfSome, subst}
use Rattle.planner.specs.inner.Spans.{AllIn}
use Rattle.planner.proofs.Between.{none_in}
use Rattle.planner.proofs.taking.lies_outside.Goals as goal

pub returns-in-Some-Some : goal.returns-in-Some-Some
returns-in-Some-Some c missed values all =
    let alike : c.in-Some-Some.vindex.vindex ≡ c.in-Some-Some.span.vindex = search rules in
    none_in c.args.table.now c.args.range.now c.in-Some-Some.span c.in-Some-Some.vindex c.in-Some-Some.is-0 alike (c.misses.ensures missed) values
    (subst (λ o. IfSome o (AllIn values)) c.in-Some-Some.is-1 all)
