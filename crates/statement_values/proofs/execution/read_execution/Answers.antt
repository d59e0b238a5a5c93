use Rattle.std.proofs.lemmas.Bool.{iff_false}
use Rattle.std.proofs.Common.{◌∙◌, sym, ap, Err, inl, inr}
use Rattle.std.proofs.lemmas.Result.{IfOk-weaker, err_from_is_err_and}
use Rattle.statement_values.specs.Executions as e
use Rattle.statement_values.proofs.Bindings.{bare, parts_only, unsupported_parts, err_again}
use Rattle.statement_values.proofs.execution.read_execution.Goals as goal

pub returns-then-is_bare-clause-found : goal.returns-then-is_bare-clause-found
returns-then-is_bare-clause-found c =
    let b = c.is_bare.ensures.0 c.if-is_bare.true in
    bare c.args.kept.now c.in_ok-types.types c.args.long.now c.args.bytes.now c.in_ok-parts.parts.now c.new.result b.0 c.in_ok-parts.ensures.found b.1
    c.in_ok-types.ensures c.new.ensures

pub returns-clause-found : goal.returns-clause-found
returns-clause-found c =
    IfOk-weaker c.read_parts.result _ _ (λ x p. rw c.in_ok-parts.ensures.found (e.with_values p)) c.read_parts.ensures.found

pub returns-clause-only : goal.returns-clause-only
returns-clause-only c = λ types values ex.
    c.read_parts.ensures.only types values
    (parts_only c.args.kept.now types c.args.long.now c.args.bytes.now c.in_ok-parts.parts.now values c.in_ok-parts.ensures.found
    (λ l p. iff_false c.is_bare.ensures c.if-is_bare.false (l, p)) ex)

pub returns-in_err-parts-clause-not_supported : goal.returns-in_err-parts-clause-not_supported
returns-in_err-parts-clause-not_supported c = λ is.
    let f = err_from_is_err_and c.from_residual.result c.from_residual.ensures.1 in
    let k = c.in_err-parts.ensures.cursor.0 (err_again _ _ (ap Err (sym f.2) ∙ sym f.1 ∙ is)) in
    rw k.2 (e.cursor k.3)

pub returns-clause-not_supported : goal.returns-clause-not_supported
returns-clause-not_supported c = λ is.
    elim (c.read_parts.ensures.foreign is) [
      | inl p ↦ rw c.in_ok-parts.ensures.found (e.foreign p)
      | inr p ↦ rw c.in_ok-parts.ensures.found (e.other p)
    ]

pub returns-clause-refused : goal.returns-clause-refused
returns-clause-refused c = λ n.
    elim (unsupported_parts _ _ c.args.bytes.now c.in_ok-parts.parts.now c.in_ok-parts.ensures.found n) [
      | inl p ↦ c.read_parts.ensures.refused p
      | inr p ↦ c.read_parts.ensures.other p
    ]
