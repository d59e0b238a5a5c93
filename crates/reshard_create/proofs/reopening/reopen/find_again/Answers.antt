use Rattle.std.proofs.Common.{◌≡◌, ℕ, length, map, sym, ap, subst, ◌∙◌, refl}
use Rattle.std.specs.Prelude.{IfSome}
use Rattle.std.specs.List.{AllByRecursion}
use Rattle.std.proofs.lemmas.List.{length-map}
use Rattle.keyrange.specs.Names.{IsNamed}
use Rattle.reshard_cutover.proofs.Moves.{at_not_some, at_some}
use Rattle.shard_run.specs.declared.ShardRecord.{ShardRecord}
use Rattle.shard.specs.Seats.{seat_of}
use Rattle.reshard_cutover.specs.TargetSources.{TargetWithSources}
use Rattle.vt_value.specs.declared.refusal.Refusal.TheVariants.{OutOfMemory}
use Rattle.reshard_create.specs.reopening.Rebuilt.{FoundView, AreFound, unlike}
use Rattle.reshard_cutover.specs.Overlapping.{AreThose}
use Rattle.reshard_create.specs.reopening.inner.Snapshots.{IsRebuiltTarget}
use Rattle.reshard_create.proofs.split.Lists.{map_twice}
use Rattle.reshard_cutover.proofs.Residual.{residual}
use Rattle.reshard_create.proofs.reopening.Founds.{all_named, reopen_memory, over}
use Rattle.reshard_create.proofs.reopening.Taken.{all_same}
use Rattle.reshard_create.proofs.reopening.reopen.find_again.Goals as goal

pub returns-in_err-both-clause-refused : goal.returns-in_err-both-clause-refused
returns-in_err-both-clause-refused g c =
    residual c.from_residual.result OutOfMemory _ c.from_residual.ensures.1
    (reopen_memory g.W.World.opening c.args.pass.now c.find_both.new.pass c.args.keyspace c.args.from.now c.args.into.now OutOfMemory refl)

pub rebuild_workflow-requires-clause-sources : goal.rebuild_workflow-requires-clause-sources
rebuild_workflow-requires-clause-sources g c =
    ap (map (λ f. seat_of f.member.which)) c.as_slice.ensures.value
    ∙ sym (map_twice (λ (f : FoundView). seat_of f.0) (λ f. (f.member.which, f.mode, f.named)) c.in_ok-both.both.sources.items) ∙ c.in_ok-both.ensures.found.of_sources.seats

pub rebuild_workflow-requires-clause-targets : goal.rebuild_workflow-requires-clause-targets
rebuild_workflow-requires-clause-targets g c =
    ap (map (λ f. seat_of f.member.which)) c.as_slice-2.ensures.value
    ∙ sym (map_twice (λ (f : FoundView). seat_of f.0) (λ f. (f.member.which, f.mode, f.named)) c.in_ok-both.both.targets.items) ∙ c.in_ok-both.ensures.found.of_targets.seats

pub rebuild_workflow-requires-clause-named : goal.rebuild_workflow-requires-clause-named
rebuild_workflow-requires-clause-named g c =
    subst (AllByRecursion (λ f. IsNamed f.member.which.place.range)) (sym c.as_slice-2.ensures.value)
    (all_named g.W.World.opening (λ f. (f.member.which, f.mode, f.named)) c.args.pass.now c.find_both.new.pass c.in_ok-both.both.targets.items
    c.in_ok-both.ensures.found.of_targets.each)

pub returns-in_err-again-clause-refused : goal.returns-in_err-again-clause-refused
returns-in_err-again-clause-refused g c =
    residual c.from_residual-in_err-again.result OutOfMemory _ c.from_residual-in_err-again.ensures.1
    (reopen_memory g.W.World.opening c.args.pass.now c.find_both.new.pass c.args.keyspace c.args.from.now c.args.into.now OutOfMemory refl)

pub returns-in_default-clause-refused : goal.returns-in_default-clause-refused
returns-in_default-clause-refused g c =
    let o = g.W.World.opening in
    unlike c.args.parts.now (map (λ f. (f.member.which, f.mode, f.named)) c.as_slice.result.now) (map (λ f. (f.member.which, f.mode, f.named)) c.as_slice-2.result.now)
    c.requires.partition
    (subst (λ l. AreFound o c.args.pass.now c.find_both.new.pass c.args.from.now (map (λ f. (f.member.which, f.mode, f.named)) l)) (sym c.as_slice.ensures.value)
    c.in_ok-both.ensures.found.of_sources)
    (subst (λ l. AreFound o c.args.pass.now c.find_both.new.pass c.args.into.now (map (λ f. (f.member.which, f.mode, f.named)) l)) (sym c.as_slice-2.ensures.value)
    c.in_ok-both.ensures.found.of_targets)
    (at_not_some _ _ c.in_ok-again.field-0 c.in_default.not-Some c.in_ok-again.ensures.stopped)

pub returns-then-is_over-clause-refused : goal.returns-then-is_over-clause-refused
returns-then-is_over-clause-refused g c =
    let o = g.W.World.opening in
    let sources = map {B = FoundView} (λ f. (f.member.which, f.mode, f.named)) c.as_slice.result.now in
    let targets = map {B = FoundView} (λ f. (f.member.which, f.mode, f.named)) c.as_slice-2.result.now in
    let again = c.in-Some.again in
    let of_sources = subst (λ l. AreFound o c.args.pass.now c.find_both.new.pass c.args.from.now (map (λ f. (f.member.which, f.mode, f.named)) l))
    (sym c.as_slice.ensures.value) c.in_ok-both.ensures.found.of_sources in
    let of_targets = subst (λ l. AreFound o c.args.pass.now c.find_both.new.pass c.args.into.now (map (λ f. (f.member.which, f.mode, f.named)) l))
    (sym c.as_slice-2.ensures.value) c.in_ok-both.ensures.found.of_targets in
    let stopped = at_some _ _ c.in_ok-again.field-0 again c.in-Some.is c.in_ok-again.ensures.stopped in
    let count : length c.in_ok-both.both.targets.items ≡ length targets =
    ap length (sym c.as_slice-2.ensures.value) ∙ sym (length-map c.as_slice-2.result.now (λ f. (f.member.which, f.mode, f.named))) in
    over o c.args.pass.now c.find_both.new.pass c.args.keyspace c.args.parts.now c.args.from.now c.args.into.now sources targets again.progress.frozen
    again.progress.retired again.progress.served (length c.in_ok-both.both.targets.items) c.requires.partition of_sources of_targets count stopped
    (c.is_over.ensures c.if-is_over.true)

pub returns-clause-made : goal.returns-clause-made
returns-clause-made g c =
    let o = g.W.World.opening in
    let again = c.in-Some.again in
    let same =
    subst (λ r. IfSome r (λ f. map (λ s. s.member.which) f.sources.items ≡ map (λ f. f.member.which) c.as_slice.result.now)) c.in-Some.is
    c.in_ok-again.ensures.sources in
    record {
      partition = c.requires.partition;
      found_sources = map (λ f. (f.member.which, f.mode, f.named)) c.as_slice.result.now;
      found_targets = map (λ f. (f.member.which, f.mode, f.named)) c.as_slice-2.result.now;
      of_sources =
          subst (λ l. AreFound o c.args.pass.now c.find_both.new.pass c.args.from.now (map (λ f. (f.member.which, f.mode, f.named)) l)) (sym c.as_slice.ensures.value)
          c.in_ok-both.ensures.found.of_sources;
      of_targets =
          subst (λ l. AreFound o c.args.pass.now c.find_both.new.pass c.args.into.now (map (λ f. (f.member.which, f.mode, f.named)) l)) (sym c.as_slice-2.ensures.value)
          c.in_ok-both.ensures.found.of_targets;
      stopped = at_some _ _ c.in_ok-again.field-0 again c.in-Some.is c.in_ok-again.ensures.stopped;
      same_sources = same ∙ sym (map_twice (λ (f : FoundView). f.0) (λ f. (f.member.which, f.mode, f.named)) c.as_slice.result.now);
      same_targets =
          map_twice (λ (t : TargetWithSources). t.0) (λ t. (t.member.which, map (λ s. s.which) t.sources.items)) again.targets.items
          ∙ subst (λ r. IfSome r (λ f. map (λ t. t.member.which) f.targets.items ≡ map (λ f. f.member.which) c.as_slice-2.result.now)) c.in-Some.is
          c.in_ok-again.ensures.targets ∙ sym (map_twice (λ (f : FoundView). f.0) (λ f. (f.member.which, f.mode, f.named)) c.as_slice-2.result.now);
      own =
          all_same (IsRebuiltTarget (map (λ s. s.member.which) again.sources.items)) (λ t. AreThose t.0.place.range (map (λ s. s.member.which) again.sources.items) t.1)
          (map (λ t. (t.member.which, map (λ s. s.which) t.sources.items)) again.targets.items) (λ t h. h.those)
          (subst (λ (l : Rattle.std.proofs.Common.List ShardRecord). AllByRecursion (IsRebuiltTarget l)
          (map (λ t. (t.member.which, map (λ s. s.which) t.sources.items)) again.targets.items)) (sym same)
          (subst (λ r. IfSome r (λ f. AllByRecursion (IsRebuiltTarget (map (λ f. f.member.which) c.as_slice.result.now))
          (map (λ t. (t.member.which, map (λ s. s.which) t.sources.items)) f.targets.items))) c.in-Some.is c.in_ok-again.ensures.taken));
    }
