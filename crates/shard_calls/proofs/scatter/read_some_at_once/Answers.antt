use Rattle.std.proofs.Common.{◌++◌, ◌∷◌, [], ap, sym, length, arith, ◌∙◌}
use Rattle.std.specs.Vec.Iter.{into_iter_items}
use Rattle.std.proofs.lemmas.List.{nil_from_length}
use Rattle.shard_calls.proofs.Workers.{pairs_joined, next_read, all_read}
use Rattle.shard_calls.proofs.scatter.read_some_at_once.Goals as goal

pub loop-job-preserved-then-len-most : goal.loop-job-preserved-then-len-most
loop-job-preserved-then-len-most g c = record {
  read = (
    c.loop-job.invariant.read.0 ++ (c.loop-job.next.items ++ c.in-Some.job ∷ []),
    next_read c.loop-job.invariant.read.0 c.loop-job.next.items _ (into_iter_items c.loop-job.job-iterator) _ _ c.in-Some.job
        c.loop-job.invariant.read.1 c.in-Some.ensures.steps.0 c.new-next-then-len-most.ensures.items,
    rw c.in_ok-append.ensures.items (pairs_joined _ c.loop-job.invariant.read.0 (c.loop-job.next.items ++ c.in-Some.job ∷ []) c.loop-job.done.items
        c.in_ok-read_at_once.field-0.items c.loop-job.invariant.read.2 (rw (sym c.in_ok-push.ensures.items) c.in_ok-read_at_once.ensures.ok)),
  );
  long =
      let was = c.loop-job.invariant.long in
      let gone = c.in-Some.ensures.steps.1 in
      let short = ap length c.in-Some.ensures.steps.0 in
      omega (arith, was, gone, short);
}

pub returns : goal.returns
returns g c =
    let none = nil_from_length (into_iter_items c.loop-job.job-iterator) (sym c.loop-job.invariant.long ∙ c.in-None.ensures.steps.0) in
    let all = all_read c.loop-job.invariant.read.0 c.loop-job.next.items (into_iter_items c.loop-job.job-iterator) _ c.loop-job.invariant.read.1 none in
    record {
      ok = rw (sym all) (rw c.in_ok-append-2.ensures.items (pairs_joined _ c.loop-job.invariant.read.0 c.loop-job.next.items c.loop-job.done.items
          c.in_ok-read_at_once-2.field-0.items c.loop-job.invariant.read.2 c.in_ok-read_at_once-2.ensures.ok));
    }
