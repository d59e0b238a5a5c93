use Rattle.std.proofs.Common.{◌≡◌, ◌++◌, ◌∷◌, [], ap, sym, length, arith, ◌∙◌}
use Rattle.std.specs.Vec.Iter.{into_iter_items}
use Rattle.std.proofs.lemmas.Slice.Zip.{all_zipped_more}
use Rattle.std.proofs.lemmas.List.{nil_from_length, append_assoc, append-nil}
use Rattle.shard_calls.proofs.scatter.read_in_turn.Goals as goal

gives : (g : _) (c : goal.After-into_iter-job-iterator g) → into_iter_items c.into_iter-job-iterator.result ≡ c.args.looked.items
gives g c = c.into_iter-job-iterator.ensures.into_iter_gives.0

pub loop-job-init : goal.loop-job-init
loop-job-init g c = record {
  read = ([], gives g c, rw c.in_ok-done.ensures.items tt);
  long = c.into_iter-job-iterator.ensures.into_iter_gives.1 ∙ c.args.looked.ok.0 ∙ ap length (sym (gives g c));
}

pub loop-job-preserved : goal.loop-job-preserved
loop-job-preserved g c = record {
  read = (
    c.loop-job.invariant.read.0 ++ c.in-Some.job ∷ [],
    append_assoc c.loop-job.invariant.read.0 (c.in-Some.job ∷ []) _ ∙ ap (λ l. c.loop-job.invariant.read.0 ++ l) (sym c.in-Some.ensures.steps.0)
        ∙ c.loop-job.invariant.read.1,
    rw c.in_ok-push.ensures.items (all_zipped_more _ c.loop-job.invariant.read.0 c.loop-job.done.items c.in-Some.job c.read_one.result
        c.loop-job.invariant.read.2 c.read_one.ensures),
  );
  long =
      let was = c.loop-job.invariant.long in
      let gone = c.in-Some.ensures.steps.1 in
      let short = ap length c.in-Some.ensures.steps.0 in
      omega (arith, was, gone, short);
}

pub returns : goal.returns
returns g c =
    record {
      ok = (let none = nil_from_length (into_iter_items c.loop-job.job-iterator) (sym c.loop-job.invariant.long ∙ c.in-None.ensures.steps.0) in
          let all = sym (append-nil c.loop-job.invariant.read.0) ∙ ap (λ l. c.loop-job.invariant.read.0 ++ l) (sym none) ∙ c.loop-job.invariant.read.1 in
          rw (sym all) c.loop-job.invariant.read.2);
    }
