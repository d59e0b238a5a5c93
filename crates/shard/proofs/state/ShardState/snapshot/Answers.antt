use Rattle.std.proofs.Common.{◌∙◌, refl, sym, subst}
use Rattle.vschema.specs.Database.{Database, SameRows}
use Rattle.shard_run.specs.Runs.{shard_rows}
use Rattle.shard_contents.specs.inner.Earlier.{AllHadRows}
use Rattle.shard.proofs.HeldRows.{entries_in, legal_in, rows_summed, few_held, served_in}
use Rattle.shard_contents.proofs.States.{same_contents}
use Rattle.shard.proofs.state.ShardState.snapshot.Goals as goal

pub invariant_of-self : goal.invariant_of-self
invariant_of-self g c =
    let rows = c.snapshot.ensures.rows in (
      same_contents _ _ c.self.inside.seat c.self.inside.contents _ c.self.invariant.0 refl rows refl refl refl refl,
      c.self.invariant.1,
      subst (λ (db : Database). AllHadRows c.self.inside.contents.stored.log db c.self.inside.sorted) (sym rows) c.self.invariant.2,
    )

pub invariant_of-self-2 : goal.invariant_of-self-2
invariant_of-self-2 g c =
    let rows = c.snapshot.ensures.rows in (
      same_contents _ _ c.self.inside.seat c.self.inside.contents _ c.self.invariant.0 refl rows refl refl refl refl,
      c.self.invariant.1,
      subst (λ (db : Database). AllHadRows c.self.inside.contents.stored.log db c.self.inside.sorted) (sym rows) c.self.invariant.2,
    )

pub returns-clause-snapshot : goal.returns-clause-snapshot
returns-clause-snapshot g c =
    let o = g.W.World.opening in
    let seat = c.self.inside.seat in
    let had = c.self.inside.contents in
    let s = served_in o g.W.World.limits seat had c.args.self.now c.self.invariant.0 (c.self.view_is ∙ c.reader.ensures.unchanged) c.requires.serves in
    rw (← (c.self.view_is ∙ c.reader.ensures.unchanged))
    record {
      serves = s.serves;
      few = few_held o _ seat had c.self.invariant.0 s;
      rows = subst (λ (db : Database). SameRows db (shard_rows o seat.seen had.shard)) (sym c.in_ok-store.ensures.snapshot) s.holds.rows;
      count = c.requires.entries ∙ entries_in seat had c.args.self.now (c.self.view_is ∙ c.reader.ensures.unchanged);
    }

pub invariant_of-result : goal.invariant_of-result
invariant_of-result g c q =
    let seat = c.self.inside.seat in
    let had = c.self.inside.contents in
    let s = served_in g.W.World.opening g.W.World.limits seat had c.args.self.now c.self.invariant.0 (c.self.view_is ∙ c.reader.ensures.unchanged) c.requires.serves in
    rw (c.in_ok-store.ensures.snapshot)
    (rows_summed _ _ seat had c.self.invariant.0 (legal_in g.W.World.opening seat had c.args.self.now (c.self.view_is ∙ c.reader.ensures.unchanged) c.requires.legal) s.serves q)
