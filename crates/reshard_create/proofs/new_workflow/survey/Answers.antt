use Rattle.std.proofs.Common.{◌++◌, map, refl, ◌∙◌, subst, arith}
use Rattle.std.proofs.lemmas.List.Sorted.{IsPermutation-map}
use Rattle.vt_value.specs.declared.refusal.Refusal.TheVariants.{OutOfMemory}
use Rattle.reshard_create.specs.inner.Created.{HasLookedAtAll}
use Rattle.reshard_create.proofs.Looking.{no_parts, all_parts_looked, both_parts, at_parts, at_told, at_each}
use Rattle.reshard_create.proofs.Begins.{told_apart, surveyed, surveyed_again}
use Rattle.reshard_cutover.proofs.Residual.{residual_same}
use Rattle.reshard_create.proofs.Unfit.{residual, create_memory, sources_again, too_few, too_many}
use Rattle.reshard_create.proofs.new_workflow.survey.Goals as goal

pub returns-in_err-chosen-clause-err : goal.returns-in_err-chosen-clause-err
returns-in_err-chosen-clause-err g c =
    residual c.from_residual.result OutOfMemory _ c.from_residual.ensures.1
    (create_memory g.W.World.opening c.args.pass.now c.args.pass.now c.args.keyspace c.args.free c.args.sources.now c.args.targets.now
    OutOfMemory refl)

pub find_sources-requires-clause-parts : goal.find_sources-requires-clause-parts
find_sources-requires-clause-parts g c = (
  c.parts.result.now,
  told_apart c.args.keyspace c.args.sources.now c.args.current.now c.parts.result.now c.in_ok-chosen.chosen.taken.items c.in_ok-chosen.chosen.rest.items
      c.parts.ensures.seats c.parts.ensures.partition c.requires.home c.in_ok-chosen.ensures.ok c.in_ok-chosen.ensures.taken c.in_ok-chosen.ensures.rest,
)

pub returns-in_err-found-clause-err : goal.returns-in_err-found-clause-err
returns-in_err-found-clause-err g c =
    residual_same c.from_residual-in_err-found.result c.in_err-found.field-0.0 _ c.from_residual-in_err-found.ensures.1 (c.in_err-found.ensures.err c.args.free)

pub returns-then-free-targets-clause-err : goal.returns-then-free-targets-clause-err
returns-then-free-targets-clause-err g c =
    let told =
    told_apart c.args.keyspace c.args.sources.now c.args.current.now c.parts.result.now c.in_ok-chosen.chosen.taken.items c.in_ok-chosen.chosen.rest.items
    c.parts.ensures.seats c.parts.ensures.partition c.requires.home c.in_ok-chosen.ensures.ok c.in_ok-chosen.ensures.taken c.in_ok-chosen.ensures.rest in
    too_few g.W.World.opening c.args.keyspace c.args.sources.now c.args.targets.now c.parts.result.now c.in_ok-chosen.chosen.taken.items
    c.in_ok-chosen.chosen.rest.items told c.in_ok-found.ensures.count c.in_ok-found.ensures.cover c.args.pass.now
    c.find_sources.new.pass c.args.free c.args.free (map (λ s. s.member.which) c.in_ok-found.found.items) c.in_ok-found.ensures.are c.in_ok-found.ensures.apart refl
    c.if-free-targets.true

pub returns-then-are_too_many-clause-err : goal.returns-then-are_too_many-clause-err
returns-then-are_too_many-clause-err g c =
    let told =
    told_apart c.args.keyspace c.args.sources.now c.args.current.now c.parts.result.now c.in_ok-chosen.chosen.taken.items c.in_ok-chosen.chosen.rest.items
    c.parts.ensures.seats c.parts.ensures.partition c.requires.home c.in_ok-chosen.ensures.ok c.in_ok-chosen.ensures.taken c.in_ok-chosen.ensures.rest in
    too_many g.W.World.opening c.args.keyspace c.args.sources.now c.args.targets.now c.parts.result.now c.in_ok-chosen.chosen.taken.items
    c.in_ok-chosen.chosen.rest.items told c.in_ok-found.ensures.count c.in_ok-found.ensures.cover (λ s. s.member.which)
    c.args.pass.now c.find_sources.new.pass c.look_at_each.new.pass c.args.free c.in_ok-found.found.items c.in_ok-found.ensures.are c.in_ok-found.ensures.found.0
    c.in_ok-found.ensures.apart c.as_slice.result.now c.as_slice.ensures.value c.len.result (c.len.ensures ∙ c.in_ok-chosen.chosen.rest.ok.0)
    c.find_sources.ensures.onward.later c.look_at_each.ensures.onward.later c.look_at_each.ensures.seen (c.are_too_many.ensures.yes c.if-are_too_many.true)

pub returns-clause-found : goal.returns-clause-found
returns-clause-found g c =
    let w = c.are_too_many.ensures.no c.if-are_too_many.false in
    let b = c.len.ensures ∙ c.in_ok-chosen.chosen.rest.ok.0 in
    surveyed_again (λ s. s.member.which) c.args.current.now c.in_ok-chosen.chosen.rest.items c.args.sources.now c.args.targets.now c.args.keyspace
    c.in_ok-found.found.items c.by_begin.result.items c.by_begin.ensures.same
    (surveyed (λ s. s.member.which) c.parts.result.now c.args.current.now c.in_ok-chosen.chosen.taken.items c.in_ok-chosen.chosen.rest.items c.args.sources.now
    c.args.targets.now c.args.keyspace c.in_ok-found.found.items c.parts.ensures.partition c.parts.ensures.seats c.in_ok-chosen.ensures.ok c.in_ok-chosen.ensures.taken
    c.in_ok-chosen.ensures.rest c.in_ok-found.ensures.found c.in_ok-found.ensures.count c.in_ok-found.ensures.cover (omega (arith, w, b)))

pub returns-clause-are : goal.returns-clause-are
returns-clause-are g c =
    sources_again g.W.World.opening c.args.pass.now c.find_sources.new.pass c.args.keyspace c.args.sources.now (map (λ s. s.member.which) c.in_ok-found.found.items)
    (map (λ s. s.member.which) c.by_begin.result.items) c.in_ok-found.ensures.are
    (IsPermutation-map (λ s. s.member.which) c.in_ok-found.found.items c.by_begin.result.items c.by_begin.ensures.same)

pub returns-in_err-chosen-clause-looked : goal.returns-in_err-chosen-clause-looked
returns-in_err-chosen-clause-looked g c =
    at_parts g.W.World.opening c.args.pass.now c.args.pass.now c.args.keyspace c.args.current.now c.parts.ensures.partition c.requires.home
    (no_parts g.W.World.opening c.args.pass.now c.args.keyspace c.args.current.now c.args.pass.now refl)

pub returns-in_err-found-clause-looked : goal.returns-in_err-found-clause-looked
returns-in_err-found-clause-looked g c =
    at_told g.W.World.opening c.args.pass.now c.find_sources.new.pass c.args.keyspace c.args.sources.now c.parts.result.now c.in_ok-chosen.chosen.taken.items
    c.in_ok-chosen.chosen.rest.items
    (told_apart c.args.keyspace c.args.sources.now c.args.current.now c.parts.result.now c.in_ok-chosen.chosen.taken.items c.in_ok-chosen.chosen.rest.items
    c.parts.ensures.seats c.parts.ensures.partition c.requires.home c.in_ok-chosen.ensures.ok c.in_ok-chosen.ensures.taken c.in_ok-chosen.ensures.rest)
    c.find_sources.ensures.looked

pub returns-then-free-targets-clause-looked : goal.returns-then-free-targets-clause-looked
returns-then-free-targets-clause-looked g c =
    at_told g.W.World.opening c.args.pass.now c.find_sources.new.pass c.args.keyspace c.args.sources.now c.parts.result.now c.in_ok-chosen.chosen.taken.items
    c.in_ok-chosen.chosen.rest.items
    (told_apart c.args.keyspace c.args.sources.now c.args.current.now c.parts.result.now c.in_ok-chosen.chosen.taken.items c.in_ok-chosen.chosen.rest.items
    c.parts.ensures.seats c.parts.ensures.partition c.requires.home c.in_ok-chosen.ensures.ok c.in_ok-chosen.ensures.taken c.in_ok-chosen.ensures.rest)
    c.find_sources.ensures.looked

pub returns-clause-looked : goal.returns-clause-looked
returns-clause-looked g c =
    at_told g.W.World.opening c.args.pass.now c.find_sources.new.pass c.args.keyspace c.args.sources.now c.parts.result.now c.in_ok-chosen.chosen.taken.items
    c.in_ok-chosen.chosen.rest.items
    (told_apart c.args.keyspace c.args.sources.now c.args.current.now c.parts.result.now c.in_ok-chosen.chosen.taken.items c.in_ok-chosen.chosen.rest.items
    c.parts.ensures.seats c.parts.ensures.partition c.requires.home c.in_ok-chosen.ensures.ok c.in_ok-chosen.ensures.taken c.in_ok-chosen.ensures.rest)
    c.find_sources.ensures.looked

pub returns-then-are_too_many-clause-looked : goal.returns-then-are_too_many-clause-looked
returns-then-are_too_many-clause-looked g c =
    let o = g.W.World.opening in
    let p = c.args.pass.now in
    let q = c.find_sources.new.pass in
    let now = c.look_at_each.new.pass in
    let k = c.args.keyspace in
    let taken = c.in_ok-chosen.chosen.taken.items in
    let rest = c.in_ok-chosen.chosen.rest.items in
    let second : HasLookedAtAll o q now k rest =
    subst (HasLookedAtAll o q now k) c.as_slice.ensures.value (record { seen = c.look_at_each.ensures.seen; looked = c.look_at_each.ensures.looked }) in
    at_told o p now k c.args.sources.now c.parts.result.now taken rest
    (told_apart c.args.keyspace c.args.sources.now c.args.current.now c.parts.result.now c.in_ok-chosen.chosen.taken.items c.in_ok-chosen.chosen.rest.items
    c.parts.ensures.seats c.parts.ensures.partition c.requires.home c.in_ok-chosen.ensures.ok c.in_ok-chosen.ensures.taken c.in_ok-chosen.ensures.rest)
    (all_parts_looked o p k (taken ++ rest) now
    (both_parts o p k taken rest q now c.find_sources.ensures.onward.later c.look_at_each.ensures.onward.later c.in_ok-found.ensures.all second))

pub returns-clause-each : goal.returns-clause-each
returns-clause-each g c =
    at_each (λ s. s.member.which) c.args.pass.now c.find_sources.new.pass c.in_ok-found.found.items c.by_begin.result.items c.in_ok-chosen.chosen.taken.items
    c.by_begin.ensures.same c.in_ok-found.ensures.found.0 c.in_ok-found.ensures.all.looked
