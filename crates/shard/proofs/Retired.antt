-- What a shard keeps that is retired, and how many entries one has stored that isn't.
use Rattle.std.proofs.Common.{◌≡◌, List, length, sym, ap, subst, ◌∙◌}
use Rattle.std.specs.Prelude.{Contains}
use Rattle.journal.specs.Views.{SeatView}
use Rattle.shard_run.specs.declared.ShardRecord.{ShardRecord}
use Rattle.shard_run.specs.declared.Entry.{Entry}
use Rattle.shard_run.specs.declared.Event.TheVariants as events
use Rattle.shard_run.specs.declared.Mode.TheVariants.{Retired, Dropped}
use Rattle.shard_run.specs.Runs.{Run, Opening, stored_on, mode}
use Rattle.shard_contents.specs.Limits.{Limits}
use Rattle.shard_contents.specs.declared.contents.Contents.{Contents}
use Rattle.shard_contents.specs.Entries.{ShardView}
use Rattle.shard_contents.proofs.States.{holds_of}
use Rattle.shard_contents.specs.inner.StoredLogs.{count_of}
use Rattle.shard_contents.proofs.KeptStored.{length-kept}
use Rattle.shard_contents.proofs.StoredLogs.{count-stored}
use Rattle.shard_contents.specs.Shards.{Holds, Keeps, holds, dropped, IsAfter, RetiredFor, state_view}

still_holds : (o : Opening) (most : Limits) (run : Run) (c : Contents) → Keeps o most run c → c.mode ≡ Retired → Holds o most run c
still_holds o most run c (holds h) is = h
still_holds o most run c (dropped gone m) is = let e : Dropped ≡ Retired = sym gone ∙ is in absurd (cc e)

module _ (o : Opening) (most : Limits) (seat : SeatView Entry) (c : Contents) (v : ShardView) (after : IsAfter o most seat c)
    (view : state_view seat.seen c ≡ v) (is : c.mode ≡ Retired) where
  pub retired : (targets : List ShardRecord) → RetiredFor o seat.seen c.shard targets → Contains v.seen (record { shard = v.shard; event = events.Retire targets })
  retired targets names =
      subst (λ (v : ShardView). Contains v.seen (record { shard = v.shard; event = events.Retire targets })) view
      (names (sym (still_holds o most seat.seen c after.keeps is).mode ∙ is))

  pub stored_last : count_of c.stored.log ≡ length (stored_on v.shard.slot v.seen)
  stored_last =
      count-stored _ _ (still_holds o most seat.seen c after.keeps is).stored ∙ length-kept c.shard.slot seat.seen ∙ ap (λ (v : ShardView). length (stored_on v.shard.slot v.seen)) view

pub stored_told : (o : Opening) (most : Limits) (seat : SeatView Entry) (c : Contents) (v : ShardView) → IsAfter o most seat c
    → state_view seat.seen c ≡ v → (mode o v.seen v.shard.slot ≡ Retired → ⊥) → count_of c.stored.log ≡ length (stored_on v.shard.slot v.seen)
stored_told o most seat c v after view lives =
    let has = holds_of o most seat.seen c after.keeps (λ retired. lives (ap (λ (x : ShardView). mode o x.seen x.shard.slot) (sym view) ∙ retired)) in
    count-stored _ _ has.stored ∙ length-kept c.shard.slot seat.seen ∙ ap (λ (x : ShardView). length (stored_on x.shard.slot x.seen)) view
