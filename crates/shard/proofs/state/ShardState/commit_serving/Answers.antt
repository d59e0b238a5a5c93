use denote.Param.Send.{sendable}
use Rattle.std.proofs.Common.{Some, Ok, Option, ◌≡◌, ℕ, List, length, sym, ap, subst, ◌∙◌, refl, arith}
use Rattle.std.proofs.lemmas.Result.{err_from_is_err_and}
use Rattle.vschema.specs.declared.schema.VSchema.{VSchema}
use Rattle.journal.specs.Views.{SeatView, PassView}
use Rattle.shard_run.specs.declared.Entry.{Entry}
use Rattle.shard_run.specs.declared.Mode.TheVariants.{Serving}
use Rattle.shard_contents.proofs.Typed.{table_there}
use Rattle.shard_contents.proofs.States.{after_look, names_after_look, same_contents, holds_of, lives_if, names_none}
use Rattle.shard_contents.specs.Commits.{IsPlaced}
use Rattle.shard_contents.specs.KeptEntries.{kept_of}
use Rattle.shard_contents.specs.Entries.{ShardView, commit_of}
use Rattle.shard_contents.specs.Shards.{Holds, IsAfter, RetiredFor, state_view}
use Rattle.shard_contents.specs.declared.contents.Contents.{Contents}
use Rattle.shard_contents.specs.Limits.{Limits}
use Rattle.shard_run.specs.declared.ShardRecord.{ShardRecord}
use Rattle.shard_contents.specs.Legal.{IsOnItsSlot}
use Rattle.shard_run.specs.Runs.{Opening, Run, mode, answers_queries, held_changes, stored_changes}
use Rattle.vschema.specs.declared.changes.Write.{Write}
use Rattle.vschema.specs.declared.changes.RowChange.{RowChange}
use Rattle.journal.specs.Runs.{NumbersBelow}
use Rattle.vschema.specs.Database.{Database, SameRows, all_applied}
use Rattle.shard_contents.specs.Writes.{changes_of}
use Rattle.shard_contents.specs.inner.StoredLogs.{StoredLog, HasStoredNext}
use Rattle.shard_contents.proofs.Earlier.{all_had_next, all_had_same}
use Rattle.shard_contents.proofs.Views.{viewed_next}
use Rattle.shard.proofs.Steps as steps
use Rattle.shard_run.proofs.Sent.{entry_send}
use Rattle.shard.proofs.state.ShardState.commit_serving.Goals as goal

pub append-requires-send-L-Entry : goal.append-requires-send-L-Entry
append-requires-send-L-Entry g c κs within = search (entry_send, sendable)

-- what the state's view says of its fields
inside : (o : Opening) (seen : Run) (c : Contents) (v : ShardView) → state_view seen c ≡ v → mode o v.seen v.shard.slot ≡ Serving
    → mode o seen c.shard.slot ≡ Serving
inside o seen c v view serving = subst (λ (x : ShardView). mode o x.seen x.shard.slot ≡ Serving) (sym view) serving

holding : (o : Opening) (most : Limits) (seat : SeatView Entry) (c : Contents) → IsAfter o most seat c → mode o seat.seen c.shard.slot ≡ Serving
    → Holds o most seat.seen c
holding o most seat c is serving = holds_of o most seat.seen c is.keeps (lives_if (mode o seat.seen c.shard.slot) (ap answers_queries serving))

pub prepare-requires-clause-there : goal.prepare-requires-clause-there
prepare-requires-clause-there g c =
    let h = table_there g.W.World.opening.schema c.args.write c.requires.typed in
    let k = ap (λ (v : VSchema). length v.tables) c.requires.schema in
    omega (arith, h, k)

pub prepare-requires-clause-tables : goal.prepare-requires-clause-tables
prepare-requires-clause-tables g c =
    (holding g.W.World.opening g.W.World.limits c.self.inside.seat c.self.inside.contents c.self.invariant.0
    (inside g.W.World.opening _ c.self.inside.contents _ c.self.view_is c.requires.serving)).tables
    ∙ ap (λ (v : VSchema). length v.tables) (sym c.requires.schema)

pub prepare-requires-clause-within : goal.prepare-requires-clause-within
prepare-requires-clause-within g c =
    let h = (holding g.W.World.opening g.W.World.limits c.self.inside.seat c.self.inside.contents c.self.invariant.0
    (inside g.W.World.opening _ c.self.inside.contents _ c.self.view_is c.requires.serving)).within
    (ap answers_queries (inside g.W.World.opening _ c.self.inside.contents _ c.self.view_is c.requires.serving)) in
    let k = ap (λ (l : Limits). l.rows) c.self.invariant.0.limits in
    omega (arith, h, k)

pub invariant_of-self : goal.invariant_of-self
invariant_of-self g c =
    let p = c.prepare.ensures in
    let l = c.look-entries.ensures in
    let is = c.self.invariant.0 in (
      same_contents _ _ c.look-entries.new.self c.self.inside.contents c.prepare.new.self
          (after_look _ _ c.self.inside.seat c.look-entries.new.self c.args.pass.now c.self.inside.contents c.self.inside.targets l.seen
          (ap (λ (s : SeatView Entry). s.slot) l.seat) is)
          p.shard p.rows p.mode p.stored p.steps p.same_limits,
      subst (λ (s : ShardRecord). RetiredFor g.W.World.opening c.look-entries.new.self.seen s c.self.inside.targets) (sym p.shard)
          (names_after_look _ _ c.self.inside.seat c.look-entries.new.self c.args.pass.now c.self.inside.contents c.self.inside.targets l.seen
          (ap (λ (s : SeatView Entry). s.slot) l.seat) is c.self.invariant.1),
      all_had_same _ _ _ _ c.self.inside.sorted p.stored p.rows c.self.invariant.2,
    )

pub returns-in_err-prepared-clause-refused : goal.returns-in_err-prepared-clause-refused
returns-in_err-prepared-clause-refused g c =
    let p = err_from_is_err_and c.from_residual.result c.from_residual.ensures.1 in
    let l = c.look-entries.ensures in
    rw (p.1, p.2, ← c.self.view_is)
    (steps.refused g.W.World.opening g.W.World.limits c.self.inside.seat c.look-entries.new.self c.self.inside.contents c.args.pass.now
    c.look-entries.new.pass c.self.invariant.0 (inside g.W.World.opening _ c.self.inside.contents _ c.self.view_is c.requires.serving) l.seen l.seat l.pass c.args.schema.now c.look-entries.result c.args.write c.in_err-prepared.field-0.0
    c.requires.schema l.count c.requires.typed c.in_err-prepared.ensures.err)

-- the write as it is in the opening's VSchema, its place and its session
record Given (o : Opening) (c : Contents) (p : PassView Entry) (w : Write) (changes : List RowChange) (session : ℕ) : Type 0 where
  changed : changes_of o.schema w c.store.rows ≡ Ok changes
  placed : IsPlaced o.schema c.shard.place w
  mine : p.session ≡ Some session

given : (o : Opening) (c : Contents) (p : PassView Entry) (w : Write) (changes : List RowChange) (session : ℕ) (schema : VSchema) (of : Option ℕ)
    (now seen_as : ShardView) → schema ≡ o.schema → changes_of schema w c.store.rows ≡ Ok changes → seen_as ≡ now → seen_as.shard ≡ c.shard
    → IsPlaced o.schema now.shard.place w → of ≡ p.session → of ≡ Some session
    → Given o c p w changes session
given o c p w changes session schema of now seen_as schemas changed view shards placed sessions mine =
    let same : now.shard ≡ c.shard = ap (λ (x : ShardView). x.shard) (sym view) ∙ shards in
    record {
      changed = ap (λ (v : VSchema). changes_of v w c.store.rows) (sym schemas) ∙ changed;
      placed = subst (λ (s : ShardRecord). IsPlaced o.schema s.place w) same placed;
      mine = sym sessions ∙ mine;
    }

pub append-requires-clause-lawful : goal.append-requires-clause-lawful
append-requires-clause-lawful g c κs within run next =
    let l = c.look-entries.ensures in
    let ok = c.in_ok-prepared.ensures in
    let o = g.W.World.opening in
    let is = given o c.self.inside.contents c.args.pass.now c.args.write (held_changes c.in_ok-prepared.prepared.entry.event) c.unwrap.result c.args.schema.now
    c.session.result c.args.self.now _ c.requires.schema ok.changes c.self.view_is refl c.requires.placed
    c.session.ensures.number c.unwrap.ensures in
    let low = subst (λ (n : ℕ). NumbersBelow commit_of c.unwrap.result n c.args.pass.now.seen) (sym c.statements.ensures) (c.requires.above c.unwrap.result is.mine) in
    steps.lawful o g.W.World.limits c.self.inside.seat c.look-entries.new.self c.self.inside.contents c.args.pass.now
    c.look-entries.new.pass c.self.invariant.0 (inside g.W.World.opening _ c.self.inside.contents _ c.self.view_is c.requires.serving) l.seen l.seat l.pass c.args.write (held_changes c.in_ok-prepared.prepared.entry.event) c.unwrap.result c.statements.result
    c.in_ok-prepared.prepared.entry ok.entry is.changed c.requires.typed is.placed is.mine run next low

grown : (g : _) (c : goal.After-take g) → HasStoredNext c.self.inside.contents.stored.log (kept_of c.in_ok-prepared.prepared.entry) c.take.new.self.stored.log
grown g c =
    subst (λ (l : StoredLog). HasStoredNext l (kept_of c.in_ok-prepared.prepared.entry) c.take.new.self.stored.log) c.in_ok-prepared.ensures.stored c.take.ensures.stored

left : (g : _) (c : goal.After-take g)
    → steps.Left g.W.World.opening g.W.World.limits c.self.inside.seat c.append.new.self c.self.inside.contents c.take.new.self c.args.pass.now
    c.append.new.pass c.args.write c.take.result
left g c =
    let l = c.look-entries.ensures in
    let ok = c.in_ok-prepared.ensures in
    let a = c.append.ensures in
    let t = c.take.ensures in
    let o = g.W.World.opening in
    let is = given o c.self.inside.contents c.args.pass.now c.args.write (held_changes c.in_ok-prepared.prepared.entry.event) c.unwrap.result c.args.schema.now
    c.session.result c.args.self.now _ c.requires.schema ok.changes c.self.view_is refl c.requires.placed
    c.session.ensures.number c.unwrap.ensures in
    steps.left o g.W.World.limits c.self.inside.seat c.look-entries.new.self c.self.inside.contents c.args.pass.now
    c.look-entries.new.pass c.self.invariant.0 (inside g.W.World.opening _ c.self.inside.contents _ c.self.view_is c.requires.serving) l.seen l.seat l.pass c.args.write (held_changes c.in_ok-prepared.prepared.entry.event) c.unwrap.result c.statements.result
    c.in_ok-prepared.prepared.entry ok.entry is.changed c.requires.typed is.placed is.mine a.seen.0 a.seen.1 c.append.new.self c.append.new.pass
    c.take.new.self c.take.result a.seen.2 a.seat a.pass c.statements.ensures a.legal c.look-entries.result l.count ok.limits (t.count ∙ ok.count)
    (t.shard ∙ ok.shard)
    (subst (λ (db : Database). SameRows c.take.new.self.store.rows (all_applied (held_changes c.in_ok-prepared.prepared.entry.event) db)) ok.rows t.rows)
    (grown g c) (ap (λ v. v.items) t.steps ∙ ok.steps) (t.mode ∙ ok.mode) (t.limits ∙ ok.same_limits)

pub invariant_of-self-2 : goal.invariant_of-self-2
invariant_of-self-2 g c =
    let is = left g c in
    let ok = c.in_ok-prepared.ensures in
    let t = c.take.ensures in
    let e = c.in_ok-prepared.prepared.entry in (
      is.is_now,
      names_none g.W.World.opening c.append.new.self.seen c.take.new.self.shard c.self.inside.targets (lives_if (mode g.W.World.opening c.append.new.self.seen c.take.new.self.shard.slot) (ap answers_queries is.serves_now)),
      all_had_next c.self.inside.contents.stored.log c.take.new.self.stored.log (kept_of e) c.self.inside.contents.store.rows c.take.new.self.store.rows c.self.inside.sorted
          (subst (λ (l : List RowChange). SameRows c.take.new.self.store.rows (all_applied l c.self.inside.contents.store.rows))
          (sym (ap (λ (x : Entry). stored_changes x.event) ok.entry))
          (subst (λ (db : Database). SameRows c.take.new.self.store.rows (all_applied (held_changes e.event) db)) ok.rows t.rows)) (grown g c) c.self.invariant.2,
    )

pub returns-clause-committed : goal.returns-clause-committed
returns-clause-committed g c = rw (← c.self.view_is) ((left g c).committed)

pub returns-clause-later : goal.returns-clause-later
returns-clause-later g c = rw (← c.self.view_is) ((left g c).begins)

pub returns-clause-entry : goal.returns-clause-entry
returns-clause-entry g c = rw (← c.self.view_is) ((left g c).one_more)

pub returns-in_err-prepared-clause-stands : goal.returns-in_err-prepared-clause-stands
returns-in_err-prepared-clause-stands g c =
    let l = c.look-entries.ensures in
    rw (← c.self.view_is)
    ((after_look _ _ c.self.inside.seat c.look-entries.new.self c.args.pass.now c.self.inside.contents c.self.inside.targets l.seen
    (ap (λ (s : SeatView Entry). s.slot) l.seat) c.self.invariant.0).stands)

pub returns-clause-stands : goal.returns-clause-stands
returns-clause-stands g c =
    rw (← c.self.view_is)
    (subst (IsOnItsSlot g.W.World.opening c.append.new.self.seen) (c.take.ensures.shard ∙ c.in_ok-prepared.ensures.shard) ((left g c).is_now.stands))

pub returns-clause-same : goal.returns-clause-same
returns-clause-same g c =
    let ok = c.in_ok-prepared.ensures in
    let t = c.take.ensures in
    viewed_next _ _ c.self.inside.contents c.take.new.self _ (kept_of c.in_ok-prepared.prepared.entry) (held_changes c.in_ok-prepared.prepared.entry.event)
    c.self.view_is (t.shard ∙ ok.shard) (grown g c)
    (subst (λ (db : Database). SameRows c.take.new.self.store.rows (all_applied (held_changes c.in_ok-prepared.prepared.entry.event) db)) ok.rows t.rows)
