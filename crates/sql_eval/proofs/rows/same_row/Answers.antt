use Rattle.std.proofs.Common.{◌≡◌, ◌∙◌, false, sym, nat_eq, rules, arith, tests}
use Rattle.sql_eval.proofs.RowLemmas.{same_row-zip, same_row-length}
use Rattle.sql_eval.proofs.rows.same_row.Goals as goal

pub returns-then-len : goal.returns-then-len
returns-then-len c =
    let every = rw (c.as_slice.ensures, c.as_slice-then-len.ensures) at c.are_equal.ensures in
    every ∙ same_row-zip c.args.a.now c.args.b.now (omega arith)

pub returns-else-len : goal.returns-else-len
returns-else-len c =
    let a = c.args.a.now in
    let b = c.args.b.now in
    let differ : nat_eq c.len.result c.len-2.result ≡ false = search (tests, rules) in
    differ ∙ sym (same_row-length a b (λ e. c.if-len.false (omega (arith, e))))
