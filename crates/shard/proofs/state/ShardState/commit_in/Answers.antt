use denote.Param.Send.{sendable}
use Rattle.std.proofs.Common.{Some, ◌≡◌, ℕ, List, sym, ap, subst, ◌∙◌, arith}
use Rattle.std.proofs.lemmas.Result.{err_from_is_err_and}
use Rattle.journal.specs.Runs.{NumbersBelow}
use Rattle.vschema.specs.declared.changes.RowChange.{RowChange}
use Rattle.vschema.specs.Database.{Database, SameRows, all_applied}
use Rattle.shard_run.specs.declared.Entry.{Entry}
use Rattle.shard_run.specs.Runs.{mode, answers_queries, held_changes, stored_changes}
use Rattle.shard_contents.specs.Limits.{Limits}
use Rattle.shard_contents.specs.Entries.{ShardView, commit_of, seat_view}
use Rattle.shard_contents.specs.Transactions as t
use Rattle.shard_contents.specs.KeptEntries.{kept_of}
use Rattle.shard_contents.proofs.States.{same_contents, names_none, lives_if}
use Rattle.shard_contents.specs.inner.StoredLogs.{StoredLog, HasStoredNext}
use Rattle.shard_contents.proofs.Earlier.{all_had_next, all_had_same}
use Rattle.shard_contents.proofs.Views.{viewed_next}
use Rattle.shard.proofs.StepsIn as steps
use Rattle.shard_run.proofs.Sent.{entry_send}
use Rattle.shard.proofs.state.ShardState.commit_in.Goals as goal

pub append-requires-send-L-Entry : goal.append-requires-send-L-Entry
append-requires-send-L-Entry g c κs within = search (entry_send, sendable)

pub returns-in_err-entries-clause-refused : goal.returns-in_err-entries-clause-refused
returns-in_err-entries-clause-refused g c =
    let p = err_from_is_err_and c.from_residual.result c.from_residual.ensures.1 in
    rw (p.1, p.2, c.check.ensures.pass) (t.stopped c.in_err-entries.ensures.err)

pub prepare_in-requires-clause-there : goal.prepare_in-requires-clause-there
prepare_in-requires-clause-there g c =
    let l = c.in_ok-entries.ensures in
    steps.there g.W.World.opening g.W.World.limits c.self.inside.seat c.self.inside.contents c.self.invariant.0 _ c.self.view_is c.args.self.now.shard l.shard
    (seat_view c.args.self.now) c.args.pass.now c.check.new.pass c.args.tx.now l.seen l.pass c.requires.tied l.clear

pub prepare_in-requires-clause-within : goal.prepare_in-requires-clause-within
prepare_in-requires-clause-within g c =
    let l = c.in_ok-entries.ensures in
    let h = steps.within g.W.World.opening g.W.World.limits c.self.inside.seat c.self.inside.contents c.self.invariant.0 _ c.self.view_is c.args.self.now.shard l.shard
    (seat_view c.args.self.now) c.args.pass.now c.check.new.pass c.args.tx.now l.seen l.pass c.requires.tied l.clear in
    let k = ap (λ (x : Limits). x.rows) c.self.invariant.0.limits in
    omega (arith, h, k)

pub returns-in_err-prepared-clause-refused : goal.returns-in_err-prepared-clause-refused
returns-in_err-prepared-clause-refused g c =
    let p = err_from_is_err_and c.from_residual-in_err-prepared.result c.from_residual-in_err-prepared.ensures.1 in
    let l = c.in_ok-entries.ensures in
    rw (p.1, p.2)
    (steps.refused g.W.World.opening g.W.World.limits c.self.inside.seat c.self.inside.contents c.self.invariant.0 _ c.self.view_is c.args.self.now.shard l.shard
    (seat_view c.args.self.now) c.args.pass.now c.check.new.pass c.args.tx.now l.seen l.pass c.requires.tied l.clear c.in_ok-entries.entries
    c.in_err-prepared.field-0.0 l.entries c.in_err-prepared.ensures.err)

pub append-requires-clause-lawful : goal.append-requires-clause-lawful
append-requires-clause-lawful g c κs within run next =
    let l = c.in_ok-entries.ensures in
    let mine : c.args.pass.now.session ≡ Some c.unwrap.result = sym c.session.ensures.number ∙ c.unwrap.ensures in
    let low = subst (λ (n : ℕ). NumbersBelow commit_of c.unwrap.result n c.args.pass.now.seen) (sym c.statements.ensures) (c.requires.above c.unwrap.result mine) in
    steps.lawful g.W.World.opening g.W.World.limits c.self.inside.seat c.self.inside.contents c.self.invariant.0 _ c.self.view_is c.args.self.now.shard l.shard
    (seat_view c.args.self.now) c.args.pass.now c.check.new.pass c.args.tx.now l.seen l.pass c.requires.tied l.clear c.unwrap.result c.statements.result mine low
    run next c.in_ok-prepared.prepared.entry c.in_ok-prepared.ensures.entry

grown : (g : _) (c : goal.After-take g) → HasStoredNext c.self.inside.contents.stored.log (kept_of c.in_ok-prepared.prepared.entry) c.take.new.self.stored.log
grown g c =
    subst (λ (l : StoredLog). HasStoredNext l (kept_of c.in_ok-prepared.prepared.entry) c.take.new.self.stored.log) c.in_ok-prepared.ensures.stored c.take.ensures.stored

left : (g : _) (c : goal.After-take g)
    → steps.Left g.W.World.opening g.W.World.limits c.args.self.now.shard c.append.new.self c.take.new.self c.args.pass.now c.args.tx.now c.append.new.pass
    c.args.self.now.seen
left g c =
    let l = c.in_ok-entries.ensures in
    let ok = c.in_ok-prepared.ensures in
    let a = c.append.ensures in
    let t = c.take.ensures in
    let mine : c.args.pass.now.session ≡ Some c.unwrap.result = sym c.session.ensures.number ∙ c.unwrap.ensures in
    let low = subst (λ (n : ℕ). NumbersBelow commit_of c.unwrap.result n c.args.pass.now.seen) (sym c.statements.ensures) (c.requires.above c.unwrap.result mine) in
    steps.left g.W.World.opening g.W.World.limits c.self.inside.seat c.self.inside.contents c.self.invariant.0 _ c.self.view_is c.args.self.now.shard l.shard
    (seat_view c.args.self.now) c.args.pass.now c.check.new.pass c.args.tx.now l.seen l.pass c.requires.tied l.clear c.unwrap.result c.statements.result mine low
    a.seen.0 a.seen.1 c.args.self.now.seen l.seen.seat c.in_ok-prepared.prepared.entry ok.entry c.statements.ensures c.append.new.self c.append.new.pass c.take.new.self
    a.seen.2 a.seat a.pass a.legal c.in_ok-entries.entries l.entries ok.limits (t.shard ∙ ok.shard)
    (subst (λ (db : Database). SameRows c.take.new.self.store.rows (all_applied c.args.tx.now.changes db)) ok.rows
    (subst (λ (x : List RowChange). SameRows c.take.new.self.store.rows (all_applied x c.prepare_in.new.self.store.rows)) ok.changes t.rows))
    (grown g c) (ap (λ v. v.items) t.steps ∙ ok.steps) (t.mode ∙ ok.mode) (t.limits ∙ ok.same_limits)

pub invariant_of-self : goal.invariant_of-self
invariant_of-self g c =
    let p = c.prepare_in.ensures in (
      same_contents _ _ c.self.inside.seat c.self.inside.contents c.prepare_in.new.self c.self.invariant.0 p.shard p.rows p.mode p.stored p.steps p.same_limits,
      subst (λ s. Rattle.shard_contents.specs.Shards.RetiredFor g.W.World.opening c.self.inside.seat.seen s c.self.inside.targets) (sym p.shard) c.self.invariant.1,
      all_had_same _ _ _ _ c.self.inside.sorted p.stored p.rows c.self.invariant.2,
    )

pub invariant_of-self-2 : goal.invariant_of-self-2
invariant_of-self-2 g c =
    let is = left g c in
    let ok = c.in_ok-prepared.ensures in
    let t = c.take.ensures in
    let e = c.in_ok-prepared.prepared.entry in (
      is.is_now,
      names_none g.W.World.opening c.append.new.self.seen c.take.new.self.shard c.self.inside.targets
          (lives_if (mode g.W.World.opening c.append.new.self.seen c.take.new.self.shard.slot) (ap answers_queries is.serves_now)),
      all_had_next c.self.inside.contents.stored.log c.take.new.self.stored.log (kept_of e) c.self.inside.contents.store.rows c.take.new.self.store.rows c.self.inside.sorted
          (subst (λ (x : List RowChange). SameRows c.take.new.self.store.rows (all_applied x c.self.inside.contents.store.rows))
          (sym (ap (λ (x : Entry). stored_changes x.event) ok.entry))
          (subst (λ (db : Database). SameRows c.take.new.self.store.rows (all_applied c.args.tx.now.changes db)) ok.rows
          (subst (λ (x : List RowChange). SameRows c.take.new.self.store.rows (all_applied x c.prepare_in.new.self.store.rows)) ok.changes t.rows))) (grown g c) c.self.invariant.2,
    )

pub returns-clause-committed : goal.returns-clause-committed
returns-clause-committed g c = (left g c).committed

pub returns-clause-later : goal.returns-clause-later
returns-clause-later g c = (left g c).begins

pub returns-clause-stands : goal.returns-clause-stands
returns-clause-stands g c =
    let is = left g c in
    subst (λ s. Rattle.shard_contents.specs.Legal.IsOnItsSlot g.W.World.opening c.append.new.self.seen s) is.shard_now is.is_now.stands

pub returns-clause-same : goal.returns-clause-same
returns-clause-same g c =
    let ok = c.in_ok-prepared.ensures in
    let t = c.take.ensures in
    viewed_next _ _ c.self.inside.contents c.take.new.self _ (kept_of c.in_ok-prepared.prepared.entry) (held_changes c.in_ok-prepared.prepared.entry.event)
    c.self.view_is (t.shard ∙ ok.shard) (grown g c)
    (subst (λ (db : Database). SameRows c.take.new.self.store.rows (all_applied (held_changes c.in_ok-prepared.prepared.entry.event) db)) ok.rows t.rows)
    ∙ ap (λ (x : ShardView). record x { seen = c.append.new.self.seen }) c.in_ok-entries.ensures.same
