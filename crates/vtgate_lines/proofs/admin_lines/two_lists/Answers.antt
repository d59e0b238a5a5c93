use Rattle.std.proofs.Common.{ℕ, List, sym, subst}
use Rattle.vtgate_lines.specs.Partitions.{IsListOf}
use Rattle.vtgate_lines.proofs.Blanks.{two_apart}
use Rattle.vtgate_lines.proofs.admin_lines.two_lists.Goals as goal

pub returns-in_default-clause-none : goal.returns-in_default-clause-none
returns-in_default-clause-none c = λ from into a b is f g.
    let h = two_apart c.args.text.now from into a b c.split_once.result c.split_once.ensures.cases is f g in
    rw c.in_default.is at h

pub returns-in_default-2-clause-none : goal.returns-in_default-2-clause-none
returns-in_default-2-clause-none c = λ from into a b is f g.
    let h = two_apart c.args.text.now from into a b c.split_once.result c.split_once.ensures.cases is f g in
    let at = rw c.in-Some.is at h in
    let some = c.in_ok-sources.ensures.only a (subst (λ (t : List ℕ). IsListOf t a) (sym at.0) f) in
    rw c.in_default-2.is at some

pub returns-in-None-clause-none : goal.returns-in-None-clause-none
returns-in-None-clause-none c = λ from into a b is f g.
    let h = two_apart c.args.text.now from into a b c.split_once.result c.split_once.ensures.cases is f g in
    let at = rw c.in-Some.is at h in
    let some = c.in_ok-targets.ensures.only b (subst (λ (t : List ℕ). IsListOf t b) (sym at.1) g) in
    rw c.in-None.is at some
