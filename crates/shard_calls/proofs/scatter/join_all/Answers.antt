use Rattle.std.proofs.Common.{refl, ap, sym, map, reverse, length, arith, ◌∙◌, ◌≡◌, Ok}
use Rattle.std.specs.Vec.Iter.{into_iter_items}
use Rattle.std.proofs.lemmas.List.{nil_from_length}
use Rattle.shard_calls.specs.inner.Scatter.{given_rows, given_read}
use Rattle.shard_calls.proofs.Gathers.{begins_at, gone_at, joined_at, stalled_at, ends_at, map_twice}
use Rattle.shard_calls.proofs.scatter.join_all.Goals as goal

gives : (g : _) (c : goal.After-into_iter-one-iterator g) → into_iter_items c.into_iter-one-iterator.result ≡ c.args.done.items
gives g c = c.into_iter-one-iterator.ensures.into_iter_gives.0

pub loop-one-init : goal.loop-one-init
loop-one-init g c = record {
  gathers =
      begins_at _ _ _ (into_iter_items c.into_iter-one-iterator.result) c.args.done.items _ _ (gives g c)
      (ap (map (λ r. reverse r.reversed)) c.new.ensures.items) c.new-2.ensures c.requires.legal;
  long = c.into_iter-one-iterator.ensures.into_iter_gives.1 ∙ c.args.done.ok.0 ∙ ap length (sym (gives g c));
}

pub returns-in-Err-clause-gone : goal.returns-in-Err-clause-gone
returns-in-Err-clause-gone g c =
    gone_at _ _ _ _ _ _ _ _ _ _ _ c.in-Some.ensures.steps.0 c.loop-one.invariant.gathers c.join.ensures.seen c.join.ensures.mine

pub returns-in_err-push-in-Ok-Rows-clause-gone : goal.returns-in_err-push-in-Ok-Rows-clause-gone
returns-in_err-push-in-Ok-Rows-clause-gone g c =
    gone_at _ _ _ _ _ _ _ _ _ _ _ c.in-Some.ensures.steps.0 c.loop-one.invariant.gathers c.join.ensures.seen c.join.ensures.mine

pub loop-one-preserved : goal.loop-one-preserved
loop-one-preserved g c = record {
  gathers =
      joined_at _ _ _ _ _ _ _ _ _ _ _ c.in-Some.ensures.steps.0 c.loop-one.invariant.gathers c.join.ensures.seen c.join.ensures.mine
      c.in-Ok-Rows.reading (c.in-Ok-Rows.is ∙ ap Ok c.in-Ok-Rows.field-0-is) _ refl _ c.in_ok-push-in-Ok-Rows.ensures.pieces _
      c.in_ok-push-in-Ok-Rows.ensures.reads;
  long =
      let was = c.loop-one.invariant.long in
      let gone = c.in-Some.ensures.steps.1 in
      let short = ap length c.in-Some.ensures.steps.0 in
      omega (arith, was, gone, short);
}

pub returns-clause-gone : goal.returns-clause-gone
returns-clause-gone g c =
    let is = ends_at _ _ _ _ _ _ _ _ (nil_from_length _ (sym c.loop-one.invariant.long ∙ c.in-None.ensures.steps.0)) c.loop-one.invariant.gathers in
    (_, is.0.gone)

pub returns-clause-all : goal.returns-clause-all
returns-clause-all g c = (ends_at _ _ _ _ _ _ _ _ (nil_from_length _ (sym c.loop-one.invariant.long ∙ c.in-None.ensures.steps.0)) c.loop-one.invariant.gathers).0

pub returns-clause-pieces : goal.returns-clause-pieces
returns-clause-pieces g c =
    (ends_at _ _ _ _ _ _ _ _ (nil_from_length _ (sym c.loop-one.invariant.long ∙ c.in-None.ensures.steps.0)) c.loop-one.invariant.gathers).1
    ∙ map_twice given_rows (λ d. record { slot = d.slot; pass = d.pass; outcome = d.outcome }) c.args.done.items

pub returns-clause-reads : goal.returns-clause-reads
returns-clause-reads g c =
    (ends_at _ _ _ _ _ _ _ _ (nil_from_length _ (sym c.loop-one.invariant.long ∙ c.in-None.ensures.steps.0)) c.loop-one.invariant.gathers).2
    ∙ map_twice given_read (λ d. record { slot = d.slot; pass = d.pass; outcome = d.outcome }) c.args.done.items

pub returns-in-Ok-NotServing-clause-gone : goal.returns-in-Ok-NotServing-clause-gone
returns-in-Ok-NotServing-clause-gone g c =
    gone_at _ _ _ _ _ _ _ _ _ _ _ c.in-Some.ensures.steps.0 c.loop-one.invariant.gathers c.join.ensures.seen c.join.ensures.mine

pub returns-in-Ok-NotServing-clause-stalled : goal.returns-in-Ok-NotServing-clause-stalled
returns-in-Ok-NotServing-clause-stalled g c =
    stalled_at _ _ _ _ _ _ _ _ _ _ _ c.in-Some.ensures.steps.0 c.loop-one.invariant.gathers c.join.ensures.seen
    (c.in-Ok-NotServing.is ∙ ap Ok c.in-Ok-NotServing.field-0-is)
