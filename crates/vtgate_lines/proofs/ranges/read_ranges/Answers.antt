use Rattle.std.proofs.Common.{arith, rules, sym, subst, ◌∙◌}
use Rattle.std.proofs.lemmas.Bool.{true≢false}
use Rattle.keyrange.specs.Ranges.{Cover}
use Rattle.vtgate_lines.proofs.Covers.{not_partition, sorted_by_begins}
use Rattle.vtgate_lines.proofs.ranges.read_ranges.Goals as goal
use Rattle.vtgate_lines.proofs.ranges.read_ranges.Goals.{else-len-le-MOST_RANGES-via-then-len-le-MOST_RANGES+else-covers_once, else-len-le-MOST_RANGES-via-else-len-le-MOST_RANGES}

pub returns-then-covers_once-clause-found : goal.returns-then-covers_once-clause-found
returns-then-covers_once-clause-found c = record {
  written = c.in-Some.ranges.items;
  named = rw c.in-Some.is at c.in_ok-ranges.ensures.found;
  same = c.sort_unstable_by.ensures.permutation;
  sorted = sorted_by_begins _ c.sort_unstable_by.ensures.sorted (λ a r q k. search rules);
  few = omega arith;
  cover = subst Cover c.deref.ensures.value (c.covers_once.ensures.0 c.if-covers_once.true);
}

pub returns-else-len-le-MOST_RANGES-clause-none : goal.returns-else-len-le-MOST_RANGES-clause-none
returns-else-len-le-MOST_RANGES-clause-none c =
    not_partition c.args.text.now c.in-Some.ranges.items c.sort_unstable_by.new.self.items c.sort_unstable_by.ensures.permutation
    (λ all named. rw c.in-Some.is at (c.in_ok-ranges.ensures.only all named))
    (λ few cover. elim c.else-len-le-MOST_RANGES.branch [
      | else-len-le-MOST_RANGES-via-then-len-le-MOST_RANGES+else-covers_once w ↦ absurd (true≢false (sym (w.covers_once.ensures.1 (subst Cover (sym w.deref.ensures.value) cover)) ∙ w.if-covers_once.false))
      | else-len-le-MOST_RANGES-via-else-len-le-MOST_RANGES w ↦ absurd (omega (arith, w.if-len-le-MOST_RANGES.false))
    ])
