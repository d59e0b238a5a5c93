use Rattle.std.proofs.Common.{◌≡◌, ◌<◌, true, length, refl, sym, ap, subst, ◌∙◌, arith}
use Rattle.vschema.specs.declared.schema.VSchema.{VSchema}
use Rattle.vschema.specs.Database.{rows_of}
use Rattle.journal.specs.Runs.{IsLegal}
use Rattle.shard_run.specs.Copies.{table_at}
use Rattle.shard_run.specs.Runs.{mode, answers_queries, stored_on}
use Rattle.shard_contents.specs.Entries.{ShardView, MayFollow}
use Rattle.shard_contents.specs.Copying.{IsCopyFor}
use Rattle.shard_contents.proofs.Legality.{legal_is}
use Rattle.shard_contents.specs.inner.StoredLogs.{StoredLog}
use Rattle.shard_contents.proofs.Earlier.{all_had_followed}
use Rattle.shard_contents.proofs.States.{holds_of, lives_if, followed_contents}
use Rattle.shard_contents.proofs.CopySteps.{copy_for, first_as, table_is}
use Rattle.shard.proofs.Views.{followed_view, is_followed_now, kept_followed_as}
use Rattle.shard.proofs.state.ShardState.rows_to_copy.Goals as goal

pub first_wanted-requires-clause-there : goal.first_wanted-requires-clause-there
first_wanted-requires-clause-there g c =
    let o = g.W.World.opening in
    let seat = c.self.inside.seat in
    let had = c.self.inside.contents in
    let serves = subst (λ (x : ShardView). answers_queries (mode o x.seen x.shard.slot) ≡ true) (sym c.self.view_is) c.requires.serves in
    let has = holds_of o g.W.World.limits seat.seen had c.self.invariant.0.keeps (lives_if (mode o seat.seen had.shard.slot) serves) in
    let tables = has.tables in
    let there = c.requires.there in
    let schemas = ap (λ (s : VSchema). length s.tables) c.requires.schema in
    omega (arith, tables, there, schemas)

pub first_wanted-requires-clause-followed : goal.first_wanted-requires-clause-followed
first_wanted-requires-clause-followed g c = ap (λ (l : StoredLog). l.is_followed) c.follow.ensures

pub first_wanted-requires-clause-had : goal.first_wanted-requires-clause-had
first_wanted-requires-clause-had g c = all_had_followed _ _ _ _ c.follow.ensures c.self.invariant.2

pub invariant_of-self : goal.invariant_of-self
invariant_of-self g c = (
  followed_contents _ _ _ c.self.inside.contents _ c.self.invariant.0 refl refl refl c.follow.ensures refl refl,
  c.self.invariant.1,
  c.first_wanted.ensures.had,
)

pub invariant_of-self-2 : goal.invariant_of-self-2
invariant_of-self-2 g c = (
  followed_contents _ _ _ c.self.inside.contents _ c.self.invariant.0 refl refl refl c.follow.ensures refl refl,
  c.self.invariant.1,
  c.first_wanted.ensures.had,
)

pub returns-clause-copy : goal.returns-clause-copy
returns-clause-copy g c =
    let o = g.W.World.opening in
    let n = c.args.next.now.table in
    let seat = c.self.inside.seat in
    let had = c.self.inside.contents in
    let view = c.self.view_is in
    let there : n < length c.as_slice.result.now = subst (λ l. n < length l) (sym c.as_slice.ensures) c.requires.there in
    let table = table_is c.args.schema.now c.as_slice.result.now c.as_slice.ensures n c.index-as_slice-next.result there c.index-as_slice-next.is
    ∙ ap (λ (s : VSchema). table_at s n) c.requires.schema in
    let first = first_as c.args.place.now c.index-as_slice-next.result (table_at o.schema n) c.args.next.now.after c.args.next.now.after (rows_of had.store.rows n)
    (rows_of had.store.rows n) c.in_ok-rows.rows.items table refl refl c.in_ok-rows.ensures.ok in
    let legal = legal_is o seat.seen (subst (λ (x : ShardView). IsLegal (MayFollow o) x.seen) (sym view) c.requires.legal) in
    let serves = subst (λ (x : ShardView). answers_queries (mode o x.seen x.shard.slot) ≡ true) (sym view) c.requires.serves in (
      refl,
      subst (λ (x : ShardView). IsCopyFor o x.seen x.shard c.args.place.now c.args.next.now.after
          (record { source = c.slot-source.result; table = n; log_position = c.stored-stored.result; rows = c.from_vec.result })) view
          (copy_for o g.W.World.limits seat had c.self.invariant.0 c.requires.formed legal serves n c.args.place.now c.args.next.now.after c.in_ok-rows.rows.items
          (record { source = c.slot-source.result; table = n; log_position = c.stored-stored.result; rows = c.from_vec.result }) first
          (c.slot-source.ensures.slot ∙ ap (λ (x : ShardView). x.shard.slot) (sym view)) refl
          (c.stored-stored.ensures ∙ ap (λ (x : ShardView). length (stored_on x.shard.slot x.seen)) (sym view)) c.from_vec.ensures),
    )

pub returns-clause-unchanged : goal.returns-clause-unchanged
returns-clause-unchanged g c = followed_view _ c.self.inside.contents (record c.self.inside.contents { stored = c.follow.new.self }) _ c.self.view_is refl refl

pub returns-clause-followed : goal.returns-clause-followed
returns-clause-followed g c = is_followed_now c.self.inside.contents.stored.log _ c.follow.ensures

pub returns-clause-kept : goal.returns-clause-kept
returns-clause-kept g c n from = kept_followed_as _ c.self.inside.contents (record c.self.inside.contents { stored = c.follow.new.self }) _ c.self.view_is c.follow.ensures n from
