use Rattle.std.proofs.Common.{◌≡◌, ℕ, ◌++◌, drop, sym, ap, ◌∙◌, subst, arith, IsPermutation}
use Rattle.shard_contents.proofs.RowsLeft.{taken, moved}
use Rattle.shard_contents.proofs.rows_left.add_first.Goals as goal

pub returns-in_default-clause-ok : goal.returns-in_default-clause-ok
returns-in_default-clause-ok c =
    subst (λ l. IsPermutation (c.loop-at.rows.rows ++ l) (c.args.rows.now.rows ++ c.args.first)) c.loop-at.invariant.next c.loop-at.invariant.rows

pub returns-in_default-clause-all : goal.returns-in_default-clause-all
returns-in_default-clause-all c =
    let none = rw c.in_default.is at c.next_row.ensures in
    λ _. sym c.loop-at.invariant.next ∙ none.0

pub loop-at-preserved : goal.loop-at-preserved
loop-at-preserved c =
    let first = rw c.in-Some.is at c.next_row.ensures in
    record {
      next = sym (taken c.args.first c.next_row.new.self c.in-Some.row.now c.loop-at.at (sym c.loop-at.invariant.next ∙ first));
      rows =
          moved c.loop-at.rows.rows c.add_copy.new.rows.rows c.next_row.new.self (c.args.rows.now.rows ++ c.args.first) c.in-Some.row.now
          c.in_ok-add_copy.ensures.ok (subst (λ l. IsPermutation (c.loop-at.rows.rows ++ l) (c.args.rows.now.rows ++ c.args.first)) first c.loop-at.invariant.rows);
    }

pub returns-clause-ok : goal.returns-clause-ok
returns-clause-ok c =
    let end = c.loop-at-test.false in
    let same : c.loop-at.at ≡ c.args.most = omega (arith, end) in
    subst (λ l. IsPermutation (c.loop-at.rows.rows ++ l) (c.args.rows.now.rows ++ c.args.first))
    (c.loop-at.invariant.next ∙ ap (λ (n : ℕ). drop n c.args.first) same) c.loop-at.invariant.rows

pub returns-clause-all : goal.returns-clause-all
returns-clause-all c = λ l. absurd (omega (arith, l))
