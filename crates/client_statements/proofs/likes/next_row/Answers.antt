use Rattle.std.proofs.Common.{◌≡◌, ◌∷◌, ◌∙◌, ◌+◌, ◌-◌, ◌<◌, Bool, false, length, drop, get_or, ap, arith}
use Rattle.std.proofs.Math.ListN.{length-set}
use Rattle.std.proofs.lemmas.List.{drop-set, get_or-set_other}
use Rattle.client_statements.specs.Likes.{fits_step}
use Rattle.client_statements.specs.inner.Rows.{next_row}
use Rattle.client_statements.proofs.Rows.{row_step}
use Rattle.client_statements.proofs.likes.next_row.Goals as goal

pub loop-at-preserved : goal.loop-at-preserved
loop-at-preserved c =
    let a = c.loop-at.at - 1 in
    let p = c.args.piece in
    let old = c.args.row.now in
    let row = c.loop-at.row in
    let text = c.args.text.now in
    let v = c.step.result in
    let next : a + 1 ≡ c.loop-at.at = omega arith in
    let less : a < c.loop-at.at = omega arith in
    let here : a < length text = omega arith in
    let in_row : a < length row = omega arith in
    let made : drop (a + 1) row ≡ next_row p (drop (a + 1) text) (drop (a + 1) old) = rw next c.loop-at.invariant.after in
    let x_is : get_or row a false ≡ get_or old a false = c.loop-at.invariant.before a less in
    let y_is : c.loop-at.passed ≡ get_or old (a + 1) false = rw next c.loop-at.invariant.passed in
    let v_is : v ≡ fits_step p (get_or text a 0) (get_or old a false) (get_or row (a + 1) false) (get_or old (a + 1) false) =
    rw (← x_is, ← y_is) c.step.ensures in
    record {
      within = omega arith;
      size = length-set row a v ∙ c.loop-at.invariant.size;
      before = λ k below. get_or-set_other row a k v false (λ e. omega arith) ∙ c.loop-at.invariant.before k (omega arith);
      passed = x_is;
      after = drop-set row a v in_row ∙ ap (λ (b : Bool). b ∷ drop (a + 1) row) v_is
          ∙ row_step p text old row a here c.requires c.loop-at.invariant.size made;
    }
