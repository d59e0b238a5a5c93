use Rattle.std.proofs.Common.{◌≡◌, length, map, sym, ap, subst, List, [], arith, IsSorted, refl}
use Rattle.std.specs.List.{AllByRecursion}
use Rattle.std.proofs.lemmas.List.Sorted.{length_permutation}
use Rattle.keyrange.specs.declared.KeyRange.{KeyRange}
use Rattle.keyrange.specs.Names.{IsNamed}
use Rattle.shard_run.specs.declared.ShardRecord.{ShardRecord}
use Rattle.vt_value.specs.declared.refusal.Refusal.TheVariants.{OutOfMemory}
use Rattle.reshard_create.specs.split.Choices.{begin_cmp}
use Rattle.reshard_create.specs.split.Splits.{AreOverlapped}
use Rattle.reshard_create.specs.inner.Created.{IsMadeOf}
use Rattle.reshard_create.proofs.Begins.{map_twice, all_permuted, homes_here, ranges_in_order, covered_here, split_here, begun_here, next_here}
use Rattle.reshard_create.proofs.Unfit.{residual, create_memory}
use Rattle.reshard_create.proofs.new_workflow.begin.Goals as goal

pub returns-in_err-ranges-clause-err : goal.returns-in_err-ranges-clause-err
returns-in_err-ranges-clause-err g c =
    residual c.from_residual-in_err-ranges.result OutOfMemory _ c.from_residual-in_err-ranges.ensures.1
    (create_memory g.W.World.opening c.args.pass.now c.survey.new.pass c.args.config.keyspace (length c.args.free.now.items) c.args.sources.now
    c.args.targets.now OutOfMemory refl)

pub make_targets-requires-clause-enough : goal.make_targets-requires-clause-enough
make_targets-requires-clause-enough g c =
    let a = c.in_ok-found.ensures.enough in
    let b = length_permutation c.args.targets.now c.in_ok-ranges.ranges.items c.in_ok-ranges.ensures.ok in
    let d = ap length c.as_slice-2.ensures.value in
    let e = c.len.ensures in
    omega (arith, a, b, d, e)

pub make_targets-requires-clause-ranges : goal.make_targets-requires-clause-ranges
make_targets-requires-clause-ranges g c =
    subst (AllByRecursion IsNamed) (sym c.as_slice-2.ensures.value)
    (all_permuted IsNamed c.args.targets.now c.in_ok-ranges.ranges.items c.in_ok-ranges.ensures.ok c.requires.named)

pub make_targets-requires-clause-covered : goal.make_targets-requires-clause-covered
make_targets-requires-clause-covered g c =
    let sources = map (λ s. s.member.which) c.in_ok-found.found.sources.items in
    let sv = c.in_ok-found.ensures.found in
    let st = ranges_in_order c.args.current.now c.in_ok-found.found.rest.items c.args.sources.now c.args.targets.now c.in_ok-ranges.ranges.items c.args.config.keyspace sources
    c.in_ok-found.ensures.partition sv c.in_ok-ranges.ensures.ok in
    subst (λ l. AllByRecursion (λ r. (own : List ShardRecord) → AreOverlapped (map (λ s. s.member.which) l) r own → own ≡ [] → ⊥) c.as_slice-2.result.now)
    (sym c.as_slice.ensures.value)
    (subst (λ (l : List KeyRange). AllByRecursion (λ r. (own : List ShardRecord) → AreOverlapped sources r own → own ≡ [] → ⊥) l) (sym c.as_slice-2.ensures.value)
    (covered_here c.args.current.now sv.taken c.in_ok-found.found.rest.items c.args.sources.now c.args.targets.now
    c.in_ok-ranges.ranges.items c.args.config.keyspace sources st c.requires.named))

pub returns-in_err-made-clause-err : goal.returns-in_err-made-clause-err
returns-in_err-made-clause-err g c =
    residual c.from_residual-in_err-made.result OutOfMemory _ c.from_residual-in_err-made.ensures.1
    (create_memory g.W.World.opening c.args.pass.now c.survey.new.pass c.args.config.keyspace (length c.args.free.now.items) c.args.sources.now
    c.args.targets.now OutOfMemory refl)

pub returns-clause-begun : goal.returns-clause-begun
returns-clause-begun g c =
    let sources = map (λ s. s.member.which) c.in_ok-found.found.sources.items in
    let sv = c.in_ok-found.ensures.found in
    let st = ranges_in_order c.args.current.now c.in_ok-found.found.rest.items c.args.sources.now c.args.targets.now c.in_ok-ranges.ranges.items c.args.config.keyspace sources
    c.in_ok-found.ensures.partition sv c.in_ok-ranges.ensures.ok in
    let made =
    subst (λ l. AllByRecursion (IsMadeOf (map (λ s. s.member.which) l) c.args.config.keyspace)
    (map (λ t. (t.member.which, map (λ s. s.which) t.sources.items)) c.in_ok-made.made.items)) c.as_slice.ensures.value c.in_ok-made.ensures.targets.1 in
    begun_here c.args.current.now sv.taken c.in_ok-found.found.rest.items c.args.sources.now c.args.targets.now
    c.in_ok-ranges.ranges.items c.args.config.keyspace sources st
    (λ t. (t.member.which, map (λ s. s.which) t.sources.items)) c.in_ok-made.made.items c.as_slice-2.result.now c.as_slice-2.ensures.value
    c.in_ok-made.ensures.targets.0 made g.W.World.opening c.args.pass.now c.survey.new.pass c.in_ok-found.ensures.are c.in_ok-found.ensures.apart sv.ranged
    (subst (IsSorted begin_cmp) (sym (map_twice (λ (s : ShardRecord). s.place.range) (λ s. s.member.which) c.in_ok-found.found.sources.items)) c.in_ok-found.ensures.rise)
    c.in_ok-ranges.ensures.rise

pub returns-clause-split : goal.returns-clause-split
returns-clause-split g c =
    let sources = map (λ s. s.member.which) c.in_ok-found.found.sources.items in
    let sv = c.in_ok-found.ensures.found in
    let st = ranges_in_order c.args.current.now c.in_ok-found.found.rest.items c.args.sources.now c.args.targets.now c.in_ok-ranges.ranges.items c.args.config.keyspace sources
    c.in_ok-found.ensures.partition sv c.in_ok-ranges.ensures.ok in
    let made =
    subst (λ l. AllByRecursion (IsMadeOf (map (λ s. s.member.which) l) c.args.config.keyspace)
    (map (λ t. (t.member.which, map (λ s. s.which) t.sources.items)) c.in_ok-made.made.items)) c.as_slice.ensures.value c.in_ok-made.ensures.targets.1 in
    split_here c.args.current.now sv.taken c.in_ok-found.found.rest.items c.args.sources.now c.args.targets.now
    c.in_ok-ranges.ranges.items c.args.config.keyspace sources st
    (λ t. (t.member.which, map (λ s. s.which) t.sources.items)) c.in_ok-made.made.items c.as_slice-2.result.now c.as_slice-2.ensures.value
    c.in_ok-made.ensures.targets.0 made

pub returns-clause-next : goal.returns-clause-next
returns-clause-next g c =
    let sources = map (λ s. s.member.which) c.in_ok-found.found.sources.items in
    let sv = c.in_ok-found.ensures.found in
    let st = ranges_in_order c.args.current.now c.in_ok-found.found.rest.items c.args.sources.now c.args.targets.now c.in_ok-ranges.ranges.items c.args.config.keyspace sources
    c.in_ok-found.ensures.partition sv c.in_ok-ranges.ensures.ok in
    let made =
    subst (λ l. AllByRecursion (IsMadeOf (map (λ s. s.member.which) l) c.args.config.keyspace)
    (map (λ t. (t.member.which, map (λ s. s.which) t.sources.items)) c.in_ok-made.made.items)) c.as_slice.ensures.value c.in_ok-made.ensures.targets.1 in
    next_here c.args.current.now sv.taken c.in_ok-found.found.rest.items c.args.sources.now c.args.targets.now
    c.in_ok-ranges.ranges.items c.args.config.keyspace sources st
    (λ t. (t.member.which, map (λ s. s.which) t.sources.items)) c.in_ok-made.made.items c.as_slice-2.result.now c.as_slice-2.ensures.value
    c.in_ok-made.ensures.targets.0 made
    (map (λ t. t.member.shard.value) c.in_ok-made.made.items) c.in_ok-made.ensures.seats c.requires.named sv.few

pub returns-clause-at_home : goal.returns-clause-at_home
returns-clause-at_home g c =
    homes_here c.args.config.keyspace c.args.current.now c.in_ok-found.found.rest.items (map (λ t. t.member.shard.value) c.in_ok-made.made.items)
    (map (λ t. (t.member.which, map (λ s. s.which) t.sources.items)) c.in_ok-made.made.items) c.in_ok-found.ensures.found.among
    c.requires.home c.in_ok-made.ensures.seats (returns-clause-begun g c).home
