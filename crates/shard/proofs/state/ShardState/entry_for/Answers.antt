use Rattle.std.proofs.Common.{◌≡◌, ◌<◌, Some, List, length, refl, sym, ap, subst, ◌∙◌}
use Rattle.std.specs.Prelude.{slice_get}
use Rattle.std.specs.List.{AllByRecursion}
use Rattle.vschema.specs.declared.schema.VSchema.{VSchema}
use Rattle.vschema.specs.declared.changes.RowChange.{RowChange}
use Rattle.vschema.specs.Database.{changed_table, restricted_changes}
use Rattle.shard_run.specs.declared.Entry.{Entry}
use Rattle.shard_run.specs.Runs.{stored_on}
use Rattle.shard_contents.specs.KeptEntries.{kept_of}
use Rattle.shard_contents.proofs.Legality.{legal_is}
use Rattle.shard_contents.proofs.CopySteps.{entry_told, stored_there_now}
use Rattle.shard.proofs.state.ShardState.entry_for.Goals as goal

-- the entry of which this is kept
stored : (g : _) (c : goal.After-changes g)
    → (e : Entry) × (slice_get (stored_on c.args.self.now.shard.slot c.args.self.now.seen) c.args.at ≡ Some e) × (kept_of e ≡ c.changes.result.now)
stored g c =
    let told = entry_told g.W.World.opening g.W.World.limits c.self.inside.seat.seen c.self.inside.contents c.args.self.now c.self.invariant.0.keeps c.self.view_is
    c.requires.lives c.args.at c.in-Some.entry.now c.in-Some.ensures in
    (told.0, told.1, told.2 ∙ sym c.changes.ensures)

pub restricted_changes-requires : goal.restricted_changes-requires
restricted_changes-requires g c =
    let o = g.W.World.opening in
    let v = c.args.self.now in
    let s = stored g c in
    subst (AllByRecursion (λ (x : RowChange). changed_table x < length c.args.schema.now.tables)) s.2
    (subst (λ (v' : VSchema). AllByRecursion (λ (x : RowChange). changed_table x < length v'.tables) (kept_of s.0)) (sym c.requires.schema)
    (stored_there_now o v.seen (legal_is o v.seen c.requires.legal) v.shard.slot c.args.at s.0 s.1))

pub returns : goal.returns
returns g c = record {
  entry = (let told = entry_told g.W.World.opening g.W.World.limits c.self.inside.seat.seen c.self.inside.contents c.args.self.now c.self.invariant.0.keeps c.self.view_is
      c.requires.lives c.args.at c.in-Some.entry.now c.in-Some.ensures in (
        refl,
        record {
          of_source = c.slot.ensures.slot;
          entry = told.0;
          stored = told.1;
          changes =
              c.in_ok-changes.ensures.ok
              ∙ ap (λ (l : List RowChange). restricted_changes c.args.schema.now c.args.place.now l) (c.changes.ensures ∙ sym told.2)
              ∙ ap (λ (s : VSchema). restricted_changes s c.args.place.now (kept_of told.0)) c.requires.schema;
        },
      ));
}
