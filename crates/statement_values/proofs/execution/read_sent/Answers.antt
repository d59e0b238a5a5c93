use Rattle.std.proofs.Common.{[], refl}
use Rattle.std.proofs.lemmas.Result.{IfOk-weaker, IfErr-weaker, MatchResult-weaker}
use Rattle.statement_values.specs.Executions as e
use Rattle.statement_values.proofs.Bindings.{sent_hole}
use Rattle.statement_values.proofs.execution.read_sent.Goals as goal

pub returns-then-is_null-clause-found : goal.returns-then-is_null-clause-found
returns-then-is_null-clause-found c = ([], refl, rw c.if-is_null.true e.null)

pub returns-clause-found : goal.returns-clause-found
returns-clause-found c = rw c.if-is_null.false (IfOk-weaker c.read_value.result _ _ (λ x h. (h.0, h.1, e.sent h.2)) c.read_value.ensures.found)

pub returns-clause-only : goal.returns-clause-only
returns-clause-only c = λ front rest v h is.
    MatchResult-weaker c.read_value.result
    (c.read_value.ensures.only front rest v (sent_hole c.args.is_null c.args.kind front v c.if-is_null.false h) is) (λ x p. p) (λ y q. q)

pub returns-clause-other : goal.returns-clause-other
returns-clause-other c =
    rw c.if-is_null.false (IfErr-weaker c.read_value.result _ _ (λ x o is. let f = o is in (f.0, f.1, f.2, e.hole_is_other f.3)) c.read_value.ensures.other)
