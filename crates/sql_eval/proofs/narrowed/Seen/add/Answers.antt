use Rattle.std.proofs.Common.{rules, refl, ◌∙◌}
use Rattle.sql_eval.proofs.NarrowLemmas.{seen_again, seen_first}
use Rattle.sql_eval.proofs.narrowed.Seen.add.Goals as goal

pub returns-in_ok-push-in-Some : goal.returns-in_ok-push-in-Some
returns-in_ok-push-in-Some c = record { ok = (λ before is. rw c.in_ok-push-in-Some.ensures.ok (seen_again before c.args.self.now c.args.item.now c.in-Some.ordinal is (search rules))) }

pub returns-in_ok-push-in-None-2 : goal.returns-in_ok-push-in-None-2
returns-in_ok-push-in-None-2 c = record {
  ok = (λ before is.
      rw (c.in_ok-push-in-None.ensures.ok, c.in_ok-push-in-None-2.ensures.ok, c.copy_item.ensures, c.len-ordinal.ensures)
      (seen_first before c.args.self.now c.args.item.now c.insert.new.self is (search rules)
      (λ n. c.in_ok-insert-in-None.ensures.updates.0 n ∙ rw (c.item_code-code.ensures, c.len-ordinal.ensures) refl)));
}
