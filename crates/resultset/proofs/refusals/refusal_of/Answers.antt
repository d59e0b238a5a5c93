use Rattle.std.proofs.Common.{get_or, sym, ◌∙◌, arith}
use Rattle.std.specs.Cmp.Lexicographic.{same_text}
use Rattle.vt_value.specs.declared.refusal.Refusal.TheVariants.{OutOfMemory}
use Rattle.resultset.proofs.RefusalsAgain.{all_refusals, one_message, no_refusal}
use Rattle.resultset.proofs.refusals.refusal_of.Goals as goal

pub returns-then-eq : goal.returns-then-eq
returns-then-eq c = λ r e.
    one_message c.args.message.now (get_or all_refusals c.loop-refusal.refusal-index OutOfMemory) r
    (sym (same_text c.as_bytes.result.now c.args.message.now c.if-eq.ensures) ∙ c.as_bytes.ensures.value ∙ c.message.ensures) e

pub returns : goal.returns
returns c = λ r e. absurd (no_refusal c.args.message.now (λ k lt. c.loop-refusal.invariant k (omega arith)) r e)
