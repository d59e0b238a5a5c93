use Rattle.std.proofs.Common.{◌∙◌, ◌≤◌, ℕ, List, length, refl, subst, sym}
use Rattle.vtgate_serve.proofs.Conversing.{begins, goes_on_anew, stops, stops_unread, stops_untold, on_err}
use Rattle.vtgate_serve.proofs.admin_client.answer_piece.Goals as goal

pub loop-more-init : goal.loop-more-init
loop-more-init g c = record {
  run = begins g.W.World.opening g.W.World.limits _ c.args.front.now.items c.args.piece.now _ c.requires.unended;
  keyspace = refl;
}

pub returns-in_err-put-clause-broke : goal.returns-in_err-put-clause-broke
returns-in_err-put-clause-broke g c =
    on_err c.from_residual.result _ (stops g.W.World.opening g.W.World.limits _ _ _ _ _ _ _ c.loop-more.invariant.run)

pub returns-in_err-answer-clause-broke : goal.returns-in_err-answer-clause-broke
returns-in_err-answer-clause-broke g c =
    on_err c.from_residual-in_err-answer.result _
    (stops_untold g.W.World.opening g.W.World.limits _ (record { pass = c.loop-more.pass; workflow = c.loop-more.administrator }) _ _ _ _ c.in-Some.more.now c.in-Some.trailing.now c.as_slice-words.result.now _ _ _
    c.loop-more.invariant.run c.in-Some.ensures.inner c.in-Some.ensures.found (c.as_slice-words.ensures.value ∙ c.in_ok-put.ensures.put) (subst (λ (w : List ℕ). length w ≤ 8192) (sym c.as_slice-words.ensures.value) c.in_ok-put.ensures.few)
    (sym c.is_printable.ensures ∙ c.if-not-is_printable.false) c.in_err-answer.ensures.untold)

pub returns-then-not-is_printable-clause-broke : goal.returns-then-not-is_printable-clause-broke
returns-then-not-is_printable-clause-broke g c =
    stops_unread g.W.World.opening g.W.World.limits _ _ _ _ _ c.in-Some.more.now c.in-Some.trailing.now c.as_slice-words.result.now _ _ _
    c.loop-more.invariant.run c.in-Some.ensures.inner c.in-Some.ensures.found (c.as_slice-words.ensures.value ∙ c.in_ok-put.ensures.put)
    (sym c.is_printable.ensures ∙ c.if-not-is_printable.true) c.reject.ensures

pub loop-more-preserved : goal.loop-more-preserved
loop-more-preserved g c = record {
  run =
      goes_on_anew g.W.World.opening g.W.World.limits _ (record { pass = c.loop-more.pass; workflow = c.loop-more.administrator }) _ _ _ _ c.in-Some.more.now c.in-Some.trailing.now c.as_slice-words.result.now _ _ _ _
      c.loop-more.invariant.run c.in-Some.ensures.inner c.in-Some.ensures.found (c.as_slice-words.ensures.value ∙ c.in_ok-put.ensures.put) (subst (λ (w : List ℕ). length w ≤ 8192) (sym c.as_slice-words.ensures.value) c.in_ok-put.ensures.few)
      (sym c.is_printable.ensures ∙ c.if-not-is_printable.false) c.in_ok-answer.ensures.told c.clear.ensures.items;
  keyspace = c.answer.ensures.keyspace ∙ c.loop-more.invariant.keyspace;
}

pub returns-clause-broke : goal.returns-clause-broke
returns-clause-broke g c =
    on_err c.put-2.result _ (stops g.W.World.opening g.W.World.limits _ _ _ _ _ _ _ c.loop-more.invariant.run)
