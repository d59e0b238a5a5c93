use denote.Param.Send.{sendable}
use Rattle.std.proofs.Common.{◌≡◌, ℕ, true, false, List, [], ◌∷◌, ◌++◌, map, inr, rules, refl, sym, ap, subst, ◌∙◌, arith}
use Rattle.vschema.specs.declared.changes.RowChange.{RowChange}
use Rattle.vschema.specs.declared.changes.RowChange.TheVariants.{Added}
use Rattle.vschema.specs.Database.{Database, SameRows, all_applied}
use Rattle.journal.specs.Views.{SeatView, PassView}
use Rattle.shard_run.specs.declared.ShardRecord.{ShardRecord}
use Rattle.shard_run.specs.declared.Entry.{Entry}
use Rattle.shard_run.specs.declared.Event.TheVariants.{Copy}
use Rattle.shard_run.specs.Runs.{mode, held_changes}
use Rattle.shard_contents.specs.declared.target_steps.TargetStep.{TargetStep}
use Rattle.shard_contents.specs.Kept.{keep}
use Rattle.shard_contents.specs.Entries.{MayFollow}
use Rattle.shard_contents.specs.Shards.{RetiredFor}
use Rattle.shard_contents.proofs.Looks.{following_lives}
use Rattle.shard_contents.proofs.States.{looked, same_contents, names_none}
use Rattle.shard_contents.proofs.Earlier.{all_had_none}
use Rattle.shard_contents.proofs.Follows as f
use Rattle.shard_contents.proofs.CopySteps as k
use Rattle.shard_contents.proofs.StepRoom.{copy_by_entries}
use Rattle.shard_contents.specs.inner.Copying.{has_room_to_copy}
use Rattle.shard_run.specs.Openings.{row_count}
use Rattle.shard_run.proofs.Sent.{entry_send}
use Rattle.shard_contents.specs.inner.StoredLogs.{StoredView}
use Rattle.shard.proofs.Views.{copied_view}
use Rattle.shard.proofs.state.ShardState.copy.Goals as goal

pub append-requires-send-L-Entry : goal.append-requires-send-L-Entry
append-requires-send-L-Entry g c κs within = search (entry_send, sendable)

pub invariant_of-self : goal.invariant_of-self
invariant_of-self g c =
    let l = looked _ _ c.self.inside.seat c.look-entries.new.self c.args.pass.now _ _ c.look-entries.ensures.seen c.look-entries.ensures.seat c.self.invariant in
    (l.is, l.names, all_had_none _ _ _ c.clear.ensures)

pub returns-then-not-has_room_to_copy-clause-err : goal.returns-then-not-has_room_to_copy-clause-err
returns-then-not-has_room_to_copy-clause-err g c =
    let l = c.look-entries.ensures in
    let had = c.self.inside.contents in
    let no = sym c.has_room_to_copy.ensures ∙ c.if-not-has_room_to_copy.true in
    inr (
      refl,
      k.copy_passes g.W.World.opening g.W.World.limits c.self.inside.seat c.look-entries.new.self had c.self.inside.targets c.args.pass.now c.look-entries.new.pass
          c.self.invariant l.seen l.seat l.pass c.args.self.now c.self.view_is c.requires.following c.args.taken c.requires.next c.look-entries.result l.count
          (subst (λ (n : ℕ). has_room_to_copy had.limits c.look-entries.result (row_count had.store.rows) n ≡ false) c.len-rows.ensures no),
    )

pub returns-then-not-has_room_to_copy-clause-may : goal.returns-then-not-has_room_to_copy-clause-may
returns-then-not-has_room_to_copy-clause-may g c =
    let l = c.look-entries.ensures in
    k.copy_lawful_now g.W.World.opening g.W.World.limits c.self.inside.seat c.look-entries.new.self c.self.inside.contents c.self.inside.targets c.args.pass.now
    c.look-entries.new.pass c.self.invariant l.seen l.seat l.pass c.args.self.now c.self.view_is c.requires.following c.args.taken c.requires.next

pub returns-in_err-prepared-clause-may : goal.returns-in_err-prepared-clause-may
returns-in_err-prepared-clause-may g c =
    let l = c.look-entries.ensures in
    let may = k.copy_lawful_now g.W.World.opening g.W.World.limits c.self.inside.seat c.look-entries.new.self c.self.inside.contents c.self.inside.targets c.args.pass.now
    c.look-entries.new.pass c.self.invariant l.seen l.seat l.pass c.args.self.now c.self.view_is c.requires.following c.args.taken c.requires.next in
    search (rules, may)

pub returns-clause-rows : goal.returns-clause-rows
returns-clause-rows g c =
    let l = c.look-entries.ensures in
    let had = c.self.inside.contents in
    let a = c.append.ensures in
    let seen : c.append.new.pass.seen ≡ c.append.new.self.seen = ap (λ (x : PassView Entry). x.seen) a.pass in
    let ends = seen ∙ a.seen.2 ∙ ap (λ (e : Entry). a.seen.0 ++ e ∷ []) c.in_ok-prepared.ensures.entry in
    k.copy_within g.W.World.opening g.W.World.limits c.self.inside.seat c.look-entries.new.self had c.self.inside.targets c.args.pass.now c.look-entries.new.pass
    c.self.invariant l.seen l.seat l.pass c.args.self.now c.self.view_is c.requires.following c.args.taken c.requires.next c.look-entries.result a.seen.0
    c.append.new.pass.seen a.seen.1.alone ends
    (subst (λ (n : ℕ). has_room_to_copy had.limits c.look-entries.result (row_count had.store.rows) n ≡ true) c.len-rows.ensures
    (sym c.has_room_to_copy.ensures ∙ c.if-not-has_room_to_copy.false))

pub prepare_copy-requires : goal.prepare_copy-requires
prepare_copy-requires g c =
    let l = c.look-entries.ensures in
    let tables = f.tables_now g.W.World.opening g.W.World.limits c.self.inside.seat c.look-entries.new.self c.self.inside.contents c.self.inside.targets c.args.pass.now
    c.look-entries.new.pass c.self.invariant l.seen l.seat l.pass c.args.self.now c.self.view_is c.requires.following in
    let there = c.requires.next.next.table.0 in
    omega (arith, tables, there)

pub invariant_of-self-in_err-prepared : goal.invariant_of-self-in_err-prepared
invariant_of-self-in_err-prepared g c =
    let p = c.prepare_copy.ensures in
    let l = looked _ _ c.self.inside.seat c.look-entries.new.self c.args.pass.now _ _ c.look-entries.ensures.seen c.look-entries.ensures.seat c.self.invariant in (
      same_contents _ _ c.look-entries.new.self c.self.inside.contents c.prepare_copy.new.self l.is p.shard p.rows p.mode p.stored p.steps p.same_limits,
      subst (λ (s : ShardRecord). RetiredFor g.W.World.opening c.look-entries.new.self.seen s c.self.inside.targets) (sym p.shard) l.names,
      all_had_none _ _ _ c.clear.ensures,
    )

pub append-requires-clause-lawful : goal.append-requires-clause-lawful
append-requires-clause-lawful g c κs within run next =
    let l = c.look-entries.ensures in
    let o = g.W.World.opening in
    subst (MayFollow o run) (sym c.in_ok-prepared.ensures.entry)
    (k.copy_lawful o g.W.World.limits c.self.inside.seat c.look-entries.new.self c.self.inside.contents c.self.inside.targets c.args.pass.now
    c.look-entries.new.pass c.self.invariant l.seen l.seat l.pass c.args.self.now c.self.view_is c.requires.following c.args.taken c.requires.next run next)

pub invariant_of-self-2 : goal.invariant_of-self-2
invariant_of-self-2 g c =
    let l = c.look-entries.ensures in
    let o = g.W.World.opening in
    let most = g.W.World.limits in
    let ok = c.in_ok-prepared.ensures in
    let a = c.append.ensures in
    let t = c.take_copy.ensures in
    let seat = c.look-entries.new.self in
    let had = c.self.inside.contents in
    let taken = c.args.taken in
    let is = f.now_is o most c.self.inside.seat seat had c.self.inside.targets c.args.pass.now c.look-entries.new.pass c.self.invariant l.seen l.seat l.pass
    c.args.self.now c.self.view_is c.requires.following in
    let follows = f.follows_now o most c.self.inside.seat seat had c.self.inside.targets c.args.pass.now c.look-entries.new.pass c.self.invariant l.seen l.seat l.pass
    c.args.self.now c.self.view_is c.requires.following in
    let count = f.count_is o most c.self.inside.seat seat had c.self.inside.targets c.args.pass.now c.look-entries.new.pass c.self.invariant l.seen l.seat l.pass
    c.args.self.now c.self.view_is c.requires.following c.look-entries.result l.count in
    let few = copy_by_entries had.limits c.look-entries.result (row_count had.store.rows) c.len-rows.result
    (sym c.has_room_to_copy.ensures ∙ c.if-not-has_room_to_copy.false) in
    let ends = a.seen.2 ∙ ap (λ (e : Entry). a.seen.0 ++ e ∷ []) ok.entry in
    let shard_is = t.shard ∙ ok.shard in (
      k.after_copy o most seat had is follows a.seen.0 a.seen.1.alone taken c.append.new.self c.take_copy.new.self ends
          (ap (λ (s : SeatView Entry). s.slot) a.seat) shard_is
          (subst (λ (db : Database). SameRows c.take_copy.new.self.store.rows (all_applied (map (Added taken.table) taken.rows) db)) ok.rows
          (subst (λ (l : List RowChange). SameRows c.take_copy.new.self.store.rows (all_applied l c.prepare_copy.new.self.store.rows)) (ap (λ (e : Entry). held_changes e.event) ok.entry) t.rows))
          (t.mode ∙ ok.mode) (ap (λ (v : StoredView). v.log) t.stored ∙ ok.stored)
          (t.steps ∙ ap (keep c.in_ok-prepared.prepared.step) ok.steps ∙ ap (λ (s : TargetStep). keep s had.steps.items) ok.step)
          (t.limits ∙ ok.same_limits) (omega (arith, count, few)),
      names_none o c.append.new.self.seen c.take_copy.new.self.shard c.self.inside.targets
          (following_lives (mode o c.append.new.self.seen c.take_copy.new.self.shard.slot)
          (ap (λ (r : List Entry). mode o r c.take_copy.new.self.shard.slot) ends
          ∙ ap (λ (s : ShardRecord). mode o (a.seen.0 ++ record { shard = had.shard; event = Copy taken } ∷ []) s.slot) shard_is
          ∙ k.mode_copies o most seat had is follows a.seen.0 a.seen.1.alone taken)),
      all_had_none _ _ _ c.clear.ensures,
    )

pub returns-clause-same : goal.returns-clause-same
returns-clause-same g c =
    let had = c.self.inside.contents in
    let ok = c.in_ok-prepared.ensures in
    let t = c.take_copy.ensures in
    copied_view _ _ had c.take_copy.new.self _ (held_changes c.in_ok-prepared.prepared.entry.event) c.self.view_is (t.shard ∙ ok.shard)
    (ap (λ (v : StoredView). v.log) t.stored ∙ ok.stored)
    (subst (λ (db : Database). SameRows c.take_copy.new.self.store.rows (all_applied (held_changes c.in_ok-prepared.prepared.entry.event) db)) ok.rows t.rows)
