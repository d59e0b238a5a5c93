use Rattle.std.proofs.Common.{◌∷◌, inl, inr, subst, sym, ap, Err, ◌∙◌}
use Rattle.std.proofs.lemmas.Result.{err_from_is_err_and}
use Rattle.statement_values.proofs.Bindings.{err_again, err_is}
use Rattle.statement_values.proofs.execution.read_parts.Goals as goal

pub returns-in_err-types-clause-refused : goal.returns-in_err-types-clause-refused
returns-in_err-types-clause-refused c = λ p.
    let b = c.in-Some.ensures.only p.bitmap (0x01 ∷ p.told) p.size p.parts in
    let e = err_from_is_err_and c.from_residual.result c.from_residual.ensures.1 in
    rw (e.1, e.2) (c.in_err-types.ensures.refused p.told b.1 p.tells)

pub returns-in_err-values-clause-refused : goal.returns-in_err-values-clause-refused
returns-in_err-values-clause-refused c = λ p.
    let b = c.in-Some.ensures.only p.bitmap (0x01 ∷ p.told) p.size p.parts in
    absurd (c.in_ok-types.ensures.refused p.told b.1 p.tells)

pub returns-clause-refused : goal.returns-clause-refused
returns-clause-refused c = λ p.
    let b = c.in-Some.ensures.only p.bitmap (0x01 ∷ p.told) p.size p.parts in
    c.in_ok-types.ensures.refused p.told b.1 p.tells
