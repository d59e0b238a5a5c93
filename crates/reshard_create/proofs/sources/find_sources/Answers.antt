use Rattle.std.proofs.Common.{◌==◌, ◌++◌, List, length, map, sym, ap, subst, ◌∙◌, refl}
use Rattle.std.specs.Prelude.{IsSome}
use Rattle.std.proofs.lemmas.Bool.{eqb-true, false≢true}
use Rattle.keyrange.specs.declared.KeyRange.{KeyRange}
use Rattle.serving.specs.Partitions.{AreOf}
use Rattle.reshard_cutover.proofs.Moves.{at_some, at_not_some, if_some}
use Rattle.vt_value.specs.declared.refusal.Refusal.TheVariants.{OutOfMemory}
use Rattle.reshard_create.specs.Begun.{none_named}
use Rattle.reshard_create.specs.inner.Created.{HasLookedAtAll, HasLookedAlongParts}
use Rattle.reshard_create.proofs.Looking.{no_parts, all_parts_looked, more_parts, both_parts}
use Rattle.reshard_create.proofs.Unfit.{no_items, residual, create_memory, sources_are, not_all_there, one_away, taken_home, tested}
use Rattle.reshard_create.proofs.sources.find_sources.Goals as goal

pub returns-then-is_empty-clause-looked : goal.returns-then-is_empty-clause-looked
returns-then-is_empty-clause-looked g c =
    no_parts g.W.World.opening c.args.pass.now c.args.keyspace (c.args.chosen.now.taken.items ++ c.args.chosen.now.rest.items) c.args.pass.now refl

pub returns-then-len-sources-clause-looked : goal.returns-then-len-sources-clause-looked
returns-then-len-sources-clause-looked g c =
    let o = g.W.World.opening in
    let p = c.args.pass.now in
    let q = c.look_at_each.new.pass in
    let now = c.look_at_each-then-len-sources.new.pass in
    let k = c.args.keyspace in
    let taken = c.args.chosen.now.taken.items in
    let rest = c.args.chosen.now.rest.items in
    let first : HasLookedAtAll o p q k taken =
    subst (HasLookedAtAll o p q k) c.as_slice.ensures.value (record { seen = c.look_at_each.ensures.seen; looked = c.look_at_each.ensures.looked }) in
    let second : HasLookedAtAll o q now k rest =
    subst (HasLookedAtAll o q now k) c.as_slice-then-len-sources.ensures.value
    (record { seen = c.look_at_each-then-len-sources.ensures.seen; looked = c.look_at_each-then-len-sources.ensures.looked }) in
    all_parts_looked o p k (taken ++ rest) now
    (both_parts o p k taken rest q now c.look_at_each.ensures.onward.later c.look_at_each-then-len-sources.ensures.onward.later first second)

pub returns-in_err-found-clause-looked : goal.returns-in_err-found-clause-looked
returns-in_err-found-clause-looked g c =
    more_parts g.W.World.opening c.args.pass.now c.args.keyspace c.args.chosen.now.taken.items c.args.chosen.now.rest.items c.sources_of.new.pass
    (subst (HasLookedAlongParts g.W.World.opening c.args.pass.now c.sources_of.new.pass c.args.keyspace) c.as_slice-2.ensures.value c.sources_of.ensures.looked)

pub returns-in_default-clause-looked : goal.returns-in_default-clause-looked
returns-in_default-clause-looked g c =
    more_parts g.W.World.opening c.args.pass.now c.args.keyspace c.args.chosen.now.taken.items c.args.chosen.now.rest.items c.sources_of.new.pass
    (subst (HasLookedAlongParts g.W.World.opening c.args.pass.now c.sources_of.new.pass c.args.keyspace) c.as_slice-2.ensures.value c.sources_of.ensures.looked)

pub returns-in-Ok-clause-looked : goal.returns-in-Ok-clause-looked
returns-in-Ok-clause-looked g c =
    more_parts g.W.World.opening c.args.pass.now c.args.keyspace c.args.chosen.now.taken.items c.args.chosen.now.rest.items c.sources_of.new.pass
    (subst (HasLookedAlongParts g.W.World.opening c.args.pass.now c.sources_of.new.pass c.args.keyspace) c.as_slice-2.ensures.value c.sources_of.ensures.looked)

pub returns-in-Err-clause-looked : goal.returns-in-Err-clause-looked
returns-in-Err-clause-looked g c =
    more_parts g.W.World.opening c.args.pass.now c.args.keyspace c.args.chosen.now.taken.items c.args.chosen.now.rest.items c.sources_of.new.pass
    (subst (HasLookedAlongParts g.W.World.opening c.args.pass.now c.sources_of.new.pass c.args.keyspace) c.as_slice-2.ensures.value c.sources_of.ensures.looked)

pub returns-in-Ok-clause-all : goal.returns-in-Ok-clause-all
returns-in-Ok-clause-all g c =
    subst (HasLookedAtAll g.W.World.opening c.args.pass.now c.sources_of.new.pass c.args.keyspace) c.as_slice-2.ensures.value
    (c.in_ok-found.ensures.all (subst IsSome (sym c.in-Some.is) refl))

pub returns-then-is_empty-clause-err : goal.returns-then-is_empty-clause-err
returns-then-is_empty-clause-err g c free =
    none_named (no_items c.args.sources.now (eqb-true (length c.args.sources.now) 0 (sym c.is_empty.ensures ∙ c.if-is_empty.true)))

pub returns-then-len-sources-clause-err : goal.returns-then-len-sources-clause-err
returns-then-len-sources-clause-err g c free =
    not_all_there g.W.World.opening c.args.keyspace c.args.sources.now c.args.targets.now c.requires.parts.0 c.args.chosen.now.taken.items
    c.args.chosen.now.rest.items c.requires.parts.1 c.args.pass.now c.look_at_each.new.pass c.look_at_each-then-len-sources.new.pass free c.as_slice.result.now
    c.as_slice-then-len-sources.result.now c.as_slice.ensures.value c.as_slice-then-len-sources.ensures.value c.look_at_each.ensures.onward.later c.look_at_each-then-len-sources.ensures.onward.later
    c.look_at_each.ensures.seen c.look_at_each-then-len-sources.ensures.seen (λ e. c.if-len-sources.true (c.len.ensures ∙ c.args.chosen.now.taken.ok.0 ∙ e))

pub sources_of-requires-clause-home : goal.sources_of-requires-clause-home
sources_of-requires-clause-home g c =
    subst (AreOf c.args.keyspace) (sym c.as_slice-2.ensures.value)
    (taken_home g.W.World.opening c.args.keyspace c.args.sources.now c.args.targets.now c.requires.parts.0 c.args.chosen.now.taken.items c.args.chosen.now.rest.items
    c.requires.parts.1)

pub returns-in_err-found-clause-err : goal.returns-in_err-found-clause-err
returns-in_err-found-clause-err g c =
    residual c.from_residual.result OutOfMemory _ c.from_residual.ensures.1
    (λ free. create_memory g.W.World.opening c.args.pass.now c.sources_of.new.pass c.args.keyspace free c.args.sources.now c.args.targets.now
    OutOfMemory refl)

pub returns-in_default-clause-err : goal.returns-in_default-clause-err
returns-in_default-clause-err g c free =
    let w = at_not_some _ _ c.in_ok-found.field-0 c.in_default.not-Some c.in_ok-found.ensures.found in
    one_away g.W.World.opening c.args.keyspace c.args.sources.now c.args.targets.now c.requires.parts.0 c.args.chosen.now.taken.items c.args.chosen.now.rest.items
    c.requires.parts.1 c.args.pass.now c.sources_of.new.pass free c.as_slice-2.result.now c.as_slice-2.ensures.value w.0 w.1 w.2 w.3

pub returns-in-Ok-clause-are : goal.returns-in-Ok-clause-are
returns-in-Ok-clause-are g c =
    let w = at_some _ _ c.in_ok-found.field-0 c.in-Some.found c.in-Some.is c.in_ok-found.ensures.found in
    sources_are g.W.World.opening c.args.keyspace c.args.sources.now c.args.targets.now c.requires.parts.0 c.args.chosen.now.taken.items c.args.chosen.now.rest.items
    c.requires.parts.1 (λ s. s.member.which) c.args.pass.now c.sources_of.new.pass c.in-Some.found.items
    (λ e. absurd (false≢true (sym c.if-is_empty.false ∙ c.is_empty.ensures ∙ ap (λ (l : List KeyRange). length l == 0) e)))
    (sym (c.len.ensures ∙ c.args.chosen.now.taken.ok.0) ∙ c.if-len-sources.false) (w.0 ∙ c.as_slice-2.ensures.value, w.1)
    (if_some _ c.in_ok-found.field-0 c.in-Some.found c.in-Some.is c.in_ok-found.ensures.served)

pub returns-in-Err-clause-err : goal.returns-in-Err-clause-err
returns-in-Err-clause-err g c free =
    let w = at_some _ _ c.in_ok-found.field-0 c.in-Some.found c.in-Some.is c.in_ok-found.ensures.found in
    let are =
    sources_are g.W.World.opening c.args.keyspace c.args.sources.now c.args.targets.now c.requires.parts.0 c.args.chosen.now.taken.items c.args.chosen.now.rest.items
    c.requires.parts.1 (λ s. s.member.which) c.args.pass.now c.sources_of.new.pass c.in-Some.found.items
    (λ e. absurd (false≢true (sym c.if-is_empty.false ∙ c.is_empty.ensures ∙ ap (λ (l : List KeyRange). length l == 0) e)))
    (sym (c.len.ensures ∙ c.args.chosen.now.taken.ok.0) ∙ c.if-len-sources.false) (w.0 ∙ c.as_slice-2.ensures.value, w.1)
    (if_some _ c.in_ok-found.field-0 c.in-Some.found c.in-Some.is c.in_ok-found.ensures.served) in
    tested g.W.World.opening c.args.keyspace c.args.sources.now c.args.targets.now c.requires.parts.0 c.args.chosen.now.taken.items c.args.chosen.now.rest.items
    c.requires.parts.1 c.args.pass.now c.sources_of.new.pass free (map (λ s. s.member.which) c.in-Some.found.items)
    (sym (c.len.ensures ∙ c.args.chosen.now.taken.ok.0) ∙ c.if-len-sources.false) are c.in-Err.fault c.as_slice-3.result.now c.as_slice-3.ensures.value
    c.in-Err.ensures.err
