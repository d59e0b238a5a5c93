use Rattle.std.proofs.Common.{◌≡◌, ◌<◌, true, length, refl, sym, ap, subst, arith}
use Rattle.vschema.specs.declared.schema.VSchema.{VSchema}
use Rattle.vschema.specs.Database.{Database}
use Rattle.shard_run.specs.Runs.{mode, answers_queries}
use Rattle.shard_contents.specs.Entries.{ShardView}
use Rattle.shard_contents.specs.inner.StoredLogs.{StoredLog}
use Rattle.shard_contents.specs.inner.Earlier.{AllHadRows}
use Rattle.shard_contents.proofs.Earlier.{all_had_followed}
use Rattle.shard_contents.proofs.States.{holds_of, lives_if, followed_contents}
use Rattle.shard.proofs.Views.{followed_view, is_followed_now, kept_followed_as}
use Rattle.shard.proofs.state.ShardState.sort_some.Goals as goal

pub sort_some-requires-clause-there : goal.sort_some-requires-clause-there
sort_some-requires-clause-there g c =
    let o = g.W.World.opening in
    let seat = c.self.inside.seat in
    let had = c.self.inside.contents in
    let serves = subst (λ (x : ShardView). answers_queries (mode o x.seen x.shard.slot) ≡ true) (sym c.self.view_is) c.requires.serves in
    let has = holds_of o g.W.World.limits seat.seen had c.self.invariant.0.keeps (lives_if (mode o seat.seen had.shard.slot) serves) in
    let tables = has.tables in
    let there = c.requires.there in
    let schemas = ap (λ (s : VSchema). length s.tables) c.requires.schema in
    omega (arith, tables, there, schemas)

pub sort_some-requires-clause-followed : goal.sort_some-requires-clause-followed
sort_some-requires-clause-followed g c = ap (λ (l : StoredLog). l.is_followed) c.follow.ensures

pub sort_some-requires-clause-had : goal.sort_some-requires-clause-had
sort_some-requires-clause-had g c = all_had_followed _ _ _ _ c.follow.ensures c.self.invariant.2

pub invariant_of-self : goal.invariant_of-self
invariant_of-self g c = (
  followed_contents _ _ _ c.self.inside.contents _ c.self.invariant.0 refl c.sort_some.ensures.rows refl c.follow.ensures refl refl,
  c.self.invariant.1,
  subst (λ (db : Database). AllHadRows c.follow.new.self.log db c.sort_some.new.self) (sym c.sort_some.ensures.rows) c.sort_some.ensures.had,
)

pub returns-clause-unchanged : goal.returns-clause-unchanged
returns-clause-unchanged g c = followed_view _ c.self.inside.contents (record c.self.inside.contents { store = c.sort_some.new.store; stored = c.follow.new.self }) _ c.self.view_is refl c.sort_some.ensures.rows

pub returns-clause-followed : goal.returns-clause-followed
returns-clause-followed g c = is_followed_now c.self.inside.contents.stored.log _ c.follow.ensures

pub returns-clause-kept : goal.returns-clause-kept
returns-clause-kept g c n from = kept_followed_as _ c.self.inside.contents (record c.self.inside.contents { stored = c.follow.new.self }) _ c.self.view_is c.follow.ensures n from
