use Rattle.std.proofs.Common.{◌≡◌, List, map, sym, subst}
use Rattle.std.specs.Prelude.{IfSome}
use Rattle.std.specs.List.{AllByRecursion}
use Rattle.reshard_cutover.proofs.Moves.{at_not_some, at_some}
use Rattle.shard_run.specs.declared.ShardRecord.{ShardRecord}
use Rattle.reshard_create.specs.reopening.Rebuilt.{FoundView, NamedThose}
use Rattle.reshard_create.specs.reopening.inner.Snapshots.{IsRebuiltTarget}
use Rattle.reshard_create.proofs.split.Lists.{map_twice}
use Rattle.reshard_create.proofs.reopening.Courses.{progress_of_modes}
use Rattle.reshard_create.proofs.reopening.Taken.{takes_seen, takes_again}
use Rattle.reshard_create.proofs.reopening.Refits.{refitted_again}
use Rattle.reshard_create.proofs.reopening.rebuild.rebuild_workflow.Goals as goal

pub returns-in_default-clause-stopped : goal.returns-in_default-clause-stopped
returns-in_default-clause-stopped g c frozen retired served is =
    at_not_some _ _ c.in_ok-progress.field-0 c.in_default.not-Some c.in_ok-progress.ensures.progress frozen retired served
    (progress_of_modes _ (map (λ f. f.mode) c.args.sources.now) _ (map (λ f. f.mode) c.args.targets.now) frozen retired served
    (map_twice (λ (f : FoundView). f.1) (λ f. (f.member.which, f.mode, f.named)) c.args.sources.now)
    (map_twice (λ (f : FoundView). f.1) (λ f. (f.member.which, f.mode, f.named)) c.args.targets.now) is.progress)

pub returns-in_default-3-clause-stopped : goal.returns-in_default-3-clause-stopped
returns-in_default-3-clause-stopped g c frozen retired served is =
    at_not_some _ _ c.in_ok-sides.field-0 c.in_default-3.not-Some c.in_ok-sides.ensures.targets
    (takes_seen (λ f. (f.member.which, f.mode, f.named)) c.args.sources.now c.args.targets.now is.takes)

pub returns-then-not-all_named-clause-stopped : goal.returns-then-not-all_named-clause-stopped
returns-then-not-all_named-clause-stopped g c frozen retired served is =
    c.all_named.ensures.no c.if-not-all_named.true
    (subst (λ (l : List ShardRecord). AllByRecursion (NamedThose l) (map (λ f. (f.member.which, f.mode, f.named)) c.args.sources.now))
    (map_twice (λ (f : FoundView). f.0) (λ f. (f.member.which, f.mode, f.named)) c.args.targets.now) is.named)

pub returns-clause-stopped : goal.returns-clause-stopped
returns-clause-stopped g c = record {
  replace = (at_some _ _ c.in_ok-rest.field-0 c.in-Some-2.rest c.in-Some-2.is c.in_ok-rest.ensures.rest).1;
  takes =
      takes_again (λ f. (f.member.which, f.mode, f.named)) c.args.sources.now c.args.targets.now (λ t. (t.member.which, map (λ s. s.which) t.sources.items))
      c.in-Some-3.sides.targets.items
      (subst (λ r. IfSome r (λ s. AllByRecursion (IsRebuiltTarget (map (λ f. f.member.which) c.args.sources.now))
      (map (λ t. (t.member.which, map (λ s. s.which) t.sources.items)) s.targets.items))) c.in-Some-3.is c.in_ok-sides.ensures.taken)
      (at_some _ _ c.in_ok-sides.field-0 c.in-Some-3.sides c.in-Some-3.is c.in_ok-sides.ensures.targets);
  named =
      subst (λ (l : List ShardRecord). AllByRecursion (NamedThose l) (map (λ f. (f.member.which, f.mode, f.named)) c.args.sources.now))
      (sym (map_twice (λ (f : FoundView). f.0) (λ f. (f.member.which, f.mode, f.named)) c.args.targets.now)) (c.all_named.ensures.yes c.if-not-all_named.false);
  progress =
      progress_of_modes (map (λ f. f.mode) c.args.sources.now) _ (map (λ f. f.mode) c.args.targets.now) _ c.in-Some.progress.frozen c.in-Some.progress.retired
      c.in-Some.progress.served
      (sym (map_twice (λ (f : FoundView). f.1) (λ f. (f.member.which, f.mode, f.named)) c.args.sources.now))
      (sym (map_twice (λ (f : FoundView). f.1) (λ f. (f.member.which, f.mode, f.named)) c.args.targets.now))
      (at_some _ _ c.in_ok-progress.field-0 c.in-Some.progress c.in-Some.is c.in_ok-progress.ensures.progress);
}

pub returns-clause-fit : goal.returns-clause-fit
returns-clause-fit g c =
    let sides = c.in-Some-3.sides in
    let rest = at_some _ _ c.in_ok-rest.field-0 c.in-Some-2.rest c.in-Some-2.is c.in_ok-rest.ensures.rest in
    refitted_again (λ f. f.member.which) (λ f. f.member.shard.value) (λ s. s.member.which) (λ t. (t.member.which, map (λ s. s.which) t.sources.items))
    (λ t. t.member.shard.value) c.args.keyspace c.args.parts.now c.args.from.now c.args.into.now c.args.sources.now c.args.targets.now sides.sources.items
    sides.targets.items c.in-Some-2.rest.items c.requires.partition c.requires.home rest.0 rest.1 c.requires.sources c.requires.targets c.requires.shards
    c.requires.named
    (subst (λ r. IfSome r (λ s. map (λ s. s.member.which) s.sources.items ≡ map (λ f. f.member.which) c.args.sources.now)) c.in-Some-3.is
    c.in_ok-sides.ensures.sources)
    (at_some _ _ c.in_ok-sides.field-0 sides c.in-Some-3.is c.in_ok-sides.ensures.targets)
    (subst (λ r. IfSome r (λ s. map (λ t. t.member.shard.value) s.targets.items ≡ map (λ f. f.member.shard.value) c.args.targets.now)) c.in-Some-3.is
    c.in_ok-sides.ensures.shards)
    (subst (λ r. IfSome r (λ s. AllByRecursion (IsRebuiltTarget (map (λ f. f.member.which) c.args.sources.now))
    (map (λ t. (t.member.which, map (λ s. s.which) t.sources.items)) s.targets.items))) c.in-Some-3.is c.in_ok-sides.ensures.taken)
