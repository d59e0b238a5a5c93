use Rattle.std.proofs.Common.{map, ◌∙◌}
use Rattle.reshard_create.proofs.reopening.Courses.{same_progress}
use Rattle.reshard_create.proofs.reopening.rebuild.progress_of_found.Goals as goal

pub returns : goal.returns
returns g c =
    record {
      progress = same_progress (λ x. x.frozen) (λ x. x.retired) (λ x. x.served) c.progress_of.result c.as_slice.result.now (map (λ f. f.mode) c.args.sources.now)
          c.as_slice-2.result.now (map (λ f. f.mode) c.args.targets.now) (c.as_slice.ensures.value ∙ c.in_ok-of_sources.ensures.ok)
          (c.as_slice-2.ensures.value ∙ c.in_ok-of_targets.ensures.ok) c.progress_of.ensures;
    }
