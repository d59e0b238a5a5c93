use Rattle.std.proofs.Common.{sym, ap, ◌∙◌}
use Rattle.journal.proofs.Public.{numbers_later}
use Rattle.test_low.proofs.threads.runs.append_next.Goals as goal

pub append-requires-clause-lawful : goal.append-requires-clause-lawful
append-requires-clause-lawful g c κs within =
    let counted = c.in_ok-number.ensures.counted in
    let session = ap (λ p. p.session) c.look-count.ensures.pass ∙ sym c.session.ensures.number ∙ c.in-Some.is in
    let above = c.in_ok-number.ensures.above c.in-Some.session session in
    λ run later. numbers_later _ _ _ _ c.look-count.new.pass c.next_statement.new.self run c.in-Some.session c.in_ok-number.number
    (ap (λ p. p.session) counted ∙ session) (ap (λ p. p.seen) counted) above later
