use Rattle.std.proofs.Common.{◌++◌, map, ◌∙◌}
use Rattle.std.specs.Prelude.{IsPermutation}
use Rattle.std.specs.Vec.Iter.{into_iter_items}
use Rattle.serving.specs.Partitions.{AreOf}
use Rattle.reshard.proofs.Reopens.{prepared_rest, some_same}
use Rattle.reshard.proofs.workflow.Workflow.reopen.Goals as goal

pub invariant_of-self : goal.invariant_of-self
invariant_of-self g c =
    let was = c.self.invariant.0 in
    let fit = c.in_ok-taken.ensures.fit in (
      record {
        opens = was.opens;
        config = was.config;
        seats_free = was.seats_free;
        split = fit.split;
        seated = fit.seated;
        next = λ begun. fit.next;
        home = fit.home;
      },
      prepared_rest (λ s. s.member.which) (λ t. (t.member.which, map (λ s. s.which) t.sources.items)) c.in_ok-taken.taken.again.sources.items
          c.in_ok-taken.taken.again.targets.items c.in_ok-taken.taken.again.progress.retired (into_iter_items c.into_iter.result)
          (c.into_iter.ensures.rest ∙ c.in_ok-taken.ensures.named),
      some_same (λ b. b.value) c.in_ok-taken.taken.memory.next.value (AreOf c.self.inside.config.keyspace) c.unless_published.result c.unless_published.ensures.same
          c.in_ok-taken.ensures.next,
      λ _ e. c.unless_published.ensures.there e,
      some_same (λ b. b.value) c.in_ok-taken.taken.memory.next.value
          (IsPermutation (c.in_ok-taken.taken.again.rest.items ++ map (λ t. t.member.shard.value) c.in_ok-taken.taken.again.targets.items))
          c.unless_published.result c.unless_published.ensures.same c.in_ok-taken.ensures.parts,
    )
