use denote.Param.Send.{sendable}
use Rattle.std.proofs.Common.{◌≡◌, ◌<◌, ◌≤◌, true, false, List, [], ◌∷◌, ◌++◌, length, inr, refl, sym, ap, subst, ◌∙◌, arith, rules}
use Rattle.std.specs.List.{AllByRecursion}
use Rattle.vschema.specs.declared.changes.RowChange.{RowChange}
use Rattle.vschema.specs.Database.{SameRows, Database, changed_table, all_applied}
use Rattle.journal.specs.Views.{SeatView, PassView}
use Rattle.shard_run.specs.declared.ShardRecord.{ShardRecord}
use Rattle.shard_run.specs.declared.Entry.{Entry}
use Rattle.shard_run.specs.declared.Event.TheVariants.{Follow}
use Rattle.shard_run.specs.Runs.{mode, shard_rows, held_changes}
use Rattle.shard_contents.specs.Limits.{Limits}
use Rattle.shard_contents.specs.Kept.{keep}
use Rattle.shard_contents.specs.KeptEntries.{kept_of}
use Rattle.shard_contents.specs.declared.target_steps.TargetStep.TheVariants.{Followed}
use Rattle.shard_contents.specs.Entries.{ShardView, MayFollow}
use Rattle.shard_contents.specs.Shards.{RetiredFor}
use Rattle.shard_contents.proofs.Looks.{following_lives}
use Rattle.shard_contents.proofs.States.{looked, same_contents, names_none}
use Rattle.shard_contents.proofs.Earlier.{all_had_none}
use Rattle.shard_contents.proofs.Follows as f
use Rattle.shard_contents.proofs.StepRoom.{room_by_entries, room_by_stored}
use Rattle.shard_contents.proofs.Legality.{legal_is}
use Rattle.shard_contents.specs.inner.Transactions.{has_room_for}
use Rattle.shard_contents.specs.inner.StoredLogs.{StoredLog, count_of, HasStoredNext}
use Rattle.shard_contents.specs.Law.{SourcesApart}
use Rattle.shard_run.specs.Openings.{row_count}
use Rattle.shard_run.proofs.Sent.{entry_send}
use Rattle.shard_contents.proofs.Views.{viewed_next}
use Rattle.shard.proofs.FollowCounts.{follow_within}
use Rattle.shard.proofs.state.ShardState.follow.Goals as goal

pub append-requires-send-L-Entry : goal.append-requires-send-L-Entry
append-requires-send-L-Entry g c κs within = search (entry_send, sendable)

pub invariant_of-self : goal.invariant_of-self
invariant_of-self g c =
    let l = looked _ _ c.self.inside.seat c.look-entries.new.self c.args.pass.now _ _ c.look-entries.ensures.seen c.look-entries.ensures.seat c.self.invariant in
    (l.is, l.names, all_had_none _ _ _ c.clear.ensures)

pub prepare_follow-requires : goal.prepare_follow-requires
prepare_follow-requires g c =
    let l = c.look-entries.ensures in
    let o = g.W.World.opening in
    let tables = f.tables_now o g.W.World.limits c.self.inside.seat c.look-entries.new.self c.self.inside.contents c.self.inside.targets c.args.pass.now
    c.look-entries.new.pass c.self.invariant l.seen l.seat l.pass c.args.self.now c.self.view_is c.requires.following in
    let there : AllByRecursion (λ (x : RowChange). changed_table x < length o.schema.tables) c.args.taken.changes =
    f.there_now o g.W.World.limits c.self.inside.seat c.look-entries.new.self c.self.inside.contents c.self.inside.targets c.args.pass.now
    c.look-entries.new.pass c.self.invariant l.seen l.seat l.pass c.args.self.now c.self.view_is c.requires.following c.args.taken c.requires.next in
    subst (λ n. AllByRecursion (λ (x : RowChange). changed_table x < n) c.args.taken.changes) (sym tables) there

pub invariant_of-self-in_err-step : goal.invariant_of-self-in_err-step
invariant_of-self-in_err-step g c =
    let p = c.prepare_follow.ensures in
    let l = looked _ _ c.self.inside.seat c.look-entries.new.self c.args.pass.now _ _ c.look-entries.ensures.seen c.look-entries.ensures.seat c.self.invariant in (
      same_contents _ _ c.look-entries.new.self c.self.inside.contents c.prepare_follow.new.self l.is p.shard p.rows p.mode p.stored p.steps p.same_limits,
      subst (λ (s : ShardRecord). RetiredFor g.W.World.opening c.look-entries.new.self.seen s c.self.inside.targets) (sym p.shard) l.names,
      all_had_none _ _ _ c.clear.ensures,
    )

pub append-requires-clause-lawful : goal.append-requires-clause-lawful
append-requires-clause-lawful g c κs within run next =
    let l = c.look-entries.ensures in
    let o = g.W.World.opening in
    subst (MayFollow o run) (sym c.in_ok-step.ensures.entry)
    (f.lawful o g.W.World.limits c.self.inside.seat c.look-entries.new.self c.self.inside.contents c.self.inside.targets c.args.pass.now
    c.look-entries.new.pass c.self.invariant l.seen l.seat l.pass c.args.self.now c.self.view_is c.requires.following c.args.taken c.requires.next run next)

pub invariant_of-self-2 : goal.invariant_of-self-2
invariant_of-self-2 g c =
    let l = c.look-entries.ensures in
    let o = g.W.World.opening in
    let most = g.W.World.limits in
    let ok = c.in_ok-step.ensures in
    let a = c.append.ensures in
    let t = c.take_step.ensures in
    let seat = c.look-entries.new.self in
    let had = c.self.inside.contents in
    let is = f.now_is o most c.self.inside.seat seat had c.self.inside.targets c.args.pass.now c.look-entries.new.pass c.self.invariant l.seen l.seat l.pass
    c.args.self.now c.self.view_is c.requires.following in
    let follows = f.follows_now o most c.self.inside.seat seat had c.self.inside.targets c.args.pass.now c.look-entries.new.pass c.self.invariant l.seen l.seat l.pass
    c.args.self.now c.self.view_is c.requires.following in
    let count = f.count_is o most c.self.inside.seat seat had c.self.inside.targets c.args.pass.now c.look-entries.new.pass c.self.invariant l.seen l.seat l.pass
    c.args.self.now c.self.view_is c.requires.following c.look-entries.result l.count in
    let few = room_by_entries had.limits c.look-entries.result (count_of had.stored.log) (row_count had.store.rows) c.as_slice-changes.result.now
    (sym c.has_room_for.ensures ∙ c.if-not-has_room_for.false) in
    let ends = a.seen.2 ∙ ap (λ (e : Entry). a.seen.0 ++ e ∷ []) ok.entry in
    let shard_is = t.shard ∙ ok.shard in
    let changes = ok.changes in (
      f.after_follow o most seat had is follows a.seen.0 a.seen.1.alone c.args.taken c.append.new.self c.take_step.new.self ends
          (ap (λ (s : SeatView Entry). s.slot) a.seat) shard_is
          (subst (λ (db : Database). SameRows c.take_step.new.self.store.rows (all_applied c.args.taken.changes db)) ok.rows
          (subst (λ (l : List RowChange). SameRows c.take_step.new.self.store.rows (all_applied l c.prepare_follow.new.self.store.rows)) changes t.rows))
          (t.mode ∙ ok.mode)
          (subst (λ (e : Entry). HasStoredNext had.stored.log (kept_of e) c.take_step.new.self.stored.log) ok.entry
          (subst (λ (l : StoredLog). HasStoredNext l (kept_of c.in_ok-step.step.entry) c.take_step.new.self.stored.log) ok.stored t.stored))
          (t.steps ∙ ap (keep (Followed c.args.taken.source c.args.taken.log_position)) ok.steps)
          (t.limits ∙ ok.same_limits) (omega (arith, count, few)),
      names_none o c.append.new.self.seen c.take_step.new.self.shard c.self.inside.targets
          (following_lives (mode o c.append.new.self.seen c.take_step.new.self.shard.slot)
          (ap (λ (r : List Entry). mode o r c.take_step.new.self.shard.slot) ends
          ∙ ap (λ (s : ShardRecord). mode o (a.seen.0 ++ record { shard = had.shard; event = Follow c.args.taken } ∷ []) s.slot) shard_is
          ∙ f.mode_follows o most seat had is follows a.seen.0 a.seen.1.alone c.args.taken)),
      all_had_none _ _ _ c.clear.ensures,
    )

pub has_room_for-requires : goal.has_room_for-requires
has_room_for-requires g c =
    let a = ap (λ (x : Limits). x.rows) c.self.invariant.0.limits in
    let b = c.self.invariant.0.most_rows in
    omega (arith, a, b)

pub returns-then-not-has_room_for-clause-err : goal.returns-then-not-has_room_for-clause-err
returns-then-not-has_room_for-clause-err g c =
    let l = c.look-entries.ensures in
    let had = c.self.inside.contents in
    let no = sym c.has_room_for.ensures ∙ c.if-not-has_room_for.true in
    inr (
      refl,
      f.passes g.W.World.opening g.W.World.limits c.self.inside.seat c.look-entries.new.self had c.self.inside.targets c.args.pass.now c.look-entries.new.pass
          c.self.invariant l.seen l.seat l.pass c.args.self.now c.self.view_is c.requires.following c.args.taken c.requires.next c.look-entries.result (count_of had.stored.log)
          l.count refl
          (subst (λ (x : List RowChange). has_room_for had.limits c.look-entries.result (count_of had.stored.log) (row_count had.store.rows) x ≡ false)
          c.as_slice-changes.ensures no),
    )

pub returns-then-not-has_room_for-clause-may : goal.returns-then-not-has_room_for-clause-may
returns-then-not-has_room_for-clause-may g c =
    let l = c.look-entries.ensures in
    f.lawful_now g.W.World.opening g.W.World.limits c.self.inside.seat c.look-entries.new.self c.self.inside.contents c.self.inside.targets c.args.pass.now
    c.look-entries.new.pass c.self.invariant l.seen l.seat l.pass c.args.self.now c.self.view_is c.requires.following c.args.taken c.requires.next

pub returns-in_err-step-clause-may : goal.returns-in_err-step-clause-may
returns-in_err-step-clause-may g c =
    let l = c.look-entries.ensures in
    let may = f.lawful_now g.W.World.opening g.W.World.limits c.self.inside.seat c.look-entries.new.self c.self.inside.contents c.self.inside.targets c.args.pass.now
    c.look-entries.new.pass c.self.invariant l.seen l.seat l.pass c.args.self.now c.self.view_is c.requires.following c.args.taken c.requires.next in
    search (rules, may)

pub returns-clause-rows : goal.returns-clause-rows
returns-clause-rows g c apart =
    let l = c.look-entries.ensures in
    let o = g.W.World.opening in
    let most = g.W.World.limits in
    let had = c.self.inside.contents in
    let a = c.append.ensures in
    let run = a.seen.0 in
    let taken = c.args.taken in
    let seen : c.append.new.pass.seen ≡ c.append.new.self.seen = ap (λ (x : PassView Entry). x.seen) a.pass in
    let ends = seen ∙ a.seen.2 ∙ ap (λ (e : Entry). run ++ e ∷ []) c.in_ok-step.ensures.entry in
    let shard_is : had.shard ≡ c.args.self.now.shard = ap (λ (x : ShardView). x.shard) c.self.view_is in
    let may = f.lawful o most c.self.inside.seat c.look-entries.new.self had c.self.inside.targets c.args.pass.now c.look-entries.new.pass c.self.invariant l.seen
    l.seat l.pass c.args.self.now c.self.view_is c.requires.following taken c.requires.next run a.seen.1 in
    let there = f.there_then o most c.self.inside.seat c.look-entries.new.self had c.self.inside.targets c.args.pass.now c.look-entries.new.pass c.self.invariant l.seen
    l.seat l.pass c.args.self.now c.self.view_is c.requires.following taken c.requires.next run a.seen.1 in
    let count = f.held_then o most c.self.inside.seat c.look-entries.new.self had c.self.inside.targets c.args.pass.now c.look-entries.new.pass c.self.invariant l.seen
    l.seat l.pass c.args.self.now c.self.view_is c.requires.following taken c.requires.next run a.seen.1 in
    let fits = f.fits o most c.self.inside.seat c.look-entries.new.self had c.self.inside.targets c.args.pass.now c.look-entries.new.pass c.self.invariant l.seen
    l.seat l.pass c.args.self.now c.self.view_is c.requires.following taken c.requires.next c.look-entries.result (count_of had.stored.log)
    (subst (λ (x : List RowChange). has_room_for had.limits c.look-entries.result (count_of had.stored.log) (row_count had.store.rows) x ≡ true)
    c.as_slice-changes.ensures (sym c.has_room_for.ensures ∙ c.if-not-has_room_for.false)) in
    subst (λ (s : ShardRecord). row_count (shard_rows o c.append.new.pass.seen s) ≤ most.rows) shard_is
    (follow_within o most c.self.invariant.0.opens run (legal_is o run a.seen.1.legal) had.shard taken may c.append.new.pass.seen ends
    (subst (SourcesApart o c.append.new.pass.seen) (sym shard_is) apart) there (omega (arith, count, fits)))

pub returns-clause-room : goal.returns-clause-room
returns-clause-room g c =
    let l = c.look-entries.ensures in
    let o = g.W.World.opening in
    let most = g.W.World.limits in
    let had = c.self.inside.contents in
    let yes = sym c.has_room_for.ensures ∙ c.if-not-has_room_for.false in
    let few = room_by_entries had.limits c.look-entries.result (count_of had.stored.log) (row_count had.store.rows) c.as_slice-changes.result.now yes in
    let less = room_by_stored had.limits c.look-entries.result (count_of had.stored.log) (row_count had.store.rows) c.as_slice-changes.result.now yes in
    let count = f.count_is o most c.self.inside.seat c.look-entries.new.self had c.self.inside.targets c.args.pass.now c.look-entries.new.pass c.self.invariant l.seen l.seat l.pass
    c.args.self.now c.self.view_is c.requires.following c.look-entries.result l.count in
    let entries = f.entries_before o most c.self.inside.seat c.look-entries.new.self had c.self.inside.targets c.args.pass.now c.look-entries.new.pass c.self.invariant l.seen l.seat l.pass
    c.args.self.now c.self.view_is c.requires.following in
    let stored = f.stored_before o most c.self.inside.seat c.look-entries.new.self had c.self.inside.targets c.args.pass.now c.look-entries.new.pass c.self.invariant l.seen l.seat l.pass
    c.args.self.now c.self.view_is c.requires.following in
    let limit = ap (λ (x : Limits). x.stored) c.self.invariant.0.limits in
    (omega (arith, few, count, entries), omega (arith, less, stored, limit))

pub returns-clause-same : goal.returns-clause-same
returns-clause-same g c =
    let had = c.self.inside.contents in
    let ok = c.in_ok-step.ensures in
    let t = c.take_step.ensures in
    viewed_next _ _ had c.take_step.new.self _ (kept_of c.in_ok-step.step.entry) (held_changes c.in_ok-step.step.entry.event) c.self.view_is (t.shard ∙ ok.shard)
    (subst (λ (l : StoredLog). HasStoredNext l (kept_of c.in_ok-step.step.entry) c.take_step.new.self.stored.log) ok.stored t.stored)
    (subst (λ (db : Database). SameRows c.take_step.new.self.store.rows (all_applied (held_changes c.in_ok-step.step.entry.event) db)) ok.rows t.rows)
