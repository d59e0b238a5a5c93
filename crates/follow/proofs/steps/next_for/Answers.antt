use Rattle.std.proofs.Common.{◌≡◌, ℕ, Some, sym, subst, ◌∙◌}
use Rattle.shard_run.specs.declared.ShardRecord.{ShardRecord}
use Rattle.shard_run.specs.Copies.{position}
use Rattle.shard.specs.Copying.{IsProgress, IsEntryFor, IsCopyFor}
use Rattle.follow.specs.inner.NextEntries.{NoneLeft, entry, rows, nothing}
use Rattle.follow.proofs.Moves.{at_some, at_not_some}
use Rattle.follow.proofs.steps.next_for.Goals as goal

pub returns-in-Some : goal.returns-in-Some
returns-in-Some g c =
    record {
      given = (let o = g.W.World.opening in
          let st = c.args.state.now in
          let t = c.args.target.now in
          let f = c.in-Some.entry in
          let h = at_some _ _ c.in_ok-entry.field-0 f c.in-Some.is c.in_ok-entry.ensures.entry in
          entry f (subst (λ (s : ℕ). position t.seen t.shard.slot s ≡ Some f.log_position) c.slot-source.ensures.slot (sym c.position_in.ensures ∙ h.0))
          (subst (λ (x : ShardRecord). IsEntryFor o st.seen st.shard.slot x.place f) c.shard.ensures.shard h.1));
    }

pub returns-in-Some-next : goal.returns-in-Some-next
returns-in-Some-next g c =
    record {
      given = (let o = g.W.World.opening in
          let st = c.args.state.now in
          let t = c.args.target.now in
          let p = c.in_ok-progress.progress in
          let is = c.in_ok-progress.ensures.progress in
          let none = at_not_some _ _ c.in_ok-entry.field-0 c.in_default.not-Some c.in_ok-entry.ensures.entry in
          let copy = c.in_ok-rows-in-Some-next.ensures.copy in
          rows p c.in_ok-rows-in-Some-next.rows c.in-Some-next.next (subst (λ (s : ℕ). IsProgress o t.seen t.shard s p) c.slot-source.ensures.slot is)
          (subst (NoneLeft st.seen st.shard.slot) (c.position_in.ensures ∙ sym is.stands_after) none) c.in-Some-next.is copy.0
          (subst (λ (x : ShardRecord). IsCopyFor o st.seen st.shard x.place c.in-Some-next.next.after c.in_ok-rows-in-Some-next.rows) c.shard.ensures.shard copy.1));
    }

pub returns : goal.returns
returns g c =
    record {
      given = (let o = g.W.World.opening in
          let st = c.args.state.now in
          let t = c.args.target.now in
          let p = c.in_ok-progress.progress in
          let is = c.in_ok-progress.ensures.progress in
          let none = at_not_some _ _ c.in_ok-entry.field-0 c.in_default.not-Some c.in_ok-entry.ensures.entry in
          nothing p (subst (λ (s : ℕ). IsProgress o t.seen t.shard s p) c.slot-source.ensures.slot is)
          (subst (NoneLeft st.seen st.shard.slot) (c.position_in.ensures ∙ sym is.stands_after) none) c.in-None.is);
    }
