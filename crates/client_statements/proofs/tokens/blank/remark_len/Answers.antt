use Rattle.std.proofs.Common.{◌≡◌, ◌+◌, ◌∷◌, ◌∙◌, ◌&&◌, eqb, false, drop, get_or, sym, ap, arith, add-one, drop-cons}
use Rattle.std.specs.Prelude.{option_map}
use Rattle.sql_lexer.specs.inner.Scanning.{first_passes}
use Rattle.client_statements.specs.tokens.inner.Scanning.{remark_len}
use Rattle.client_statements.proofs.tokens.Remarks.{past}
use Rattle.client_statements.proofs.tokens.blank.remark_len.Goals as goal

pub loop-count-preserved : goal.loop-count-preserved
loop-count-preserved c =
    let i = c.loop-count.count in
    let bs = c.args.bytes.now in
    let cut : drop i bs ≡ get_or bs i 0 ∷ drop (i + 1) bs = rw add-one (drop-cons bs i 0 (omega arith)) in
    let open_here : (eqb (get_or bs i 0) 0x2A && first_passes (λ b. eqb b 0x2F) (drop (i + 1) bs)) ≡ false = rw (← c.rest_from.ensures) (sym c.if-closes.ensures) in
    sym (past i (get_or bs i 0) (drop (i + 1) bs) open_here) ∙ ap (λ cs. option_map (λ m. i + m) (remark_len cs)) (sym cut) ∙ c.loop-count.invariant
