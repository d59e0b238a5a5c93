use Rattle.std.proofs.Common.{ap, sym, length, arith, ◌∙◌, ◌++◌, ◌∷◌, [], Ok}
use Rattle.std.proofs.lemmas.List.{append_assoc}
use Rattle.shard_calls.proofs.Gathers.{has_joined, stalled_there}
use Rattle.shard_calls.proofs.scatter.hold_up.Goals as goal

pub returns-in-Ok-NotServing-clause-gone : goal.returns-in-Ok-NotServing-clause-gone
returns-in-Ok-NotServing-clause-gone g c = has_joined _ _ _ _ _ c.loop-one.invariant.gone c.join.ensures.seen c.join.ensures.mine

pub returns-in-Ok-NotServing-clause-stalled : goal.returns-in-Ok-NotServing-clause-stalled
returns-in-Ok-NotServing-clause-stalled g c =
    stalled_there _ _ _ _ c.loop-one.invariant.to_come.0 _ _ _ _ c.loop-one.invariant.to_come.1 c.in-Some.ensures.steps.0 c.join.ensures.seen
    (c.in-Ok-NotServing.is ∙ ap Ok c.in-Ok-NotServing.field-0-is)

pub loop-one-preserved-in-Ok-Rows : goal.loop-one-preserved-in-Ok-Rows
loop-one-preserved-in-Ok-Rows g c = record {
  gone = has_joined _ _ _ _ _ c.loop-one.invariant.gone c.join.ensures.seen c.join.ensures.mine;
  to_come = (
    c.loop-one.invariant.to_come.0 ++ c.in-Some.one ∷ [],
    append_assoc c.loop-one.invariant.to_come.0 (c.in-Some.one ∷ []) _ ∙ ap (λ l. c.loop-one.invariant.to_come.0 ++ l) (sym c.in-Some.ensures.steps.0)
        ∙ c.loop-one.invariant.to_come.1,
  );
  long =
      let was = c.loop-one.invariant.long in
      let gone = c.in-Some.ensures.steps.1 in
      let short = ap length c.in-Some.ensures.steps.0 in
      omega (arith, was, gone, short);
}

pub loop-one-preserved : goal.loop-one-preserved
loop-one-preserved g c = record {
  gone = has_joined _ _ _ _ _ c.loop-one.invariant.gone c.join.ensures.seen c.join.ensures.mine;
  to_come = (
    c.loop-one.invariant.to_come.0 ++ c.in-Some.one ∷ [],
    append_assoc c.loop-one.invariant.to_come.0 (c.in-Some.one ∷ []) _ ∙ ap (λ l. c.loop-one.invariant.to_come.0 ++ l) (sym c.in-Some.ensures.steps.0)
        ∙ c.loop-one.invariant.to_come.1,
  );
  long =
      let was = c.loop-one.invariant.long in
      let gone = c.in-Some.ensures.steps.1 in
      let short = ap length c.in-Some.ensures.steps.0 in
      omega (arith, was, gone, short);
}
