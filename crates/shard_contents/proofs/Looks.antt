-- What a look tells.
use Rattle.std.proofs.Common.{◌≡◌, ℕ, Bool, true, false, cond, List, [], ◌∷◌, ◌++◌, length, refl, sym, ap, ◌∙◌, subst}
use Rattle.std.specs.List.{filter}
use mathlib.Core.List.{IsPrefix}
use Rattle.shard_law.specs.Runs.{IsLegal, by_session}
use Rattle.shard_law.specs.Views.{SeatView, PassView, IsLater}
use Rattle.shard_law.specs.ShardRecord.{ShardRecord}
use Rattle.shard_law.specs.Mode.{Mode}
use Rattle.shard_law.specs.Mode.TheVariants.{Following, Serving, Frozen, Retired, Dropped}
use Rattle.shard_law.specs.Entry.{Entry}
use Rattle.shard_law.specs.ShardRunRuns.{Run, Opening, mode, answers_queries, is_opening, stored_on}
use Rattle.shard_law.specs.declared.limits.Limits.{Limits}
use Rattle.shard_contents.specs.declared.contents.Contents.{Contents}
use Rattle.shard_law.specs.Entries.{slot_of, commit_of, MayFollow, HasLooked, ShardView}
use Rattle.shard_contents.specs.Shards.{Keeps, holds, dropped, IsAfter, state_view}
use Rattle.shard_contents.specs.Transactions.{PendingView, IsClear, IsStopped, is_conflict, conflict, moved}
use Rattle.shard_contents.specs.KeptEntries.{entries_kept}
use Rattle.shard_contents.specs.inner.LastChanges.{tells_conflict}
use Rattle.shard_contents.proofs.States.{holds_of, lives_if}
use Rattle.shard_contents.proofs.KeptStored.{conflict_kept}
use Rattle.shard_contents.proofs.StoredLogs.{conflict_told}
use Rattle.vt_value.specs.declared.refusal.Refusal.TheVariants.{Conflict, ShardMoved}

pub has_looked : (o : Opening) (slot : ℕ) (s : SeatView Entry) (p now : PassView Entry) (seen : Run) → IsLater slot_of commit_of (MayFollow o) s p seen
    → now ≡ record p { seen = seen; looks = p.looks ++ (slot, length seen) ∷ [] } → HasLooked o slot p now
has_looked o slot s p now seen later pass =
    let seen_is : now.seen ≡ seen = ap (λ (x : PassView Entry). x.seen) pass in
    record {
      legal = subst (IsLegal (MayFollow o)) (sym seen_is) later.legal;
      later = subst (IsPrefix p.seen) (sym seen_is) later.pass;
      own = λ n mine. ap (filter (by_session commit_of n)) seen_is ∙ later.own n mine;
      pass = pass ∙ ap (λ (l : List Entry). record p { seen = l; looks = p.looks ++ (slot, length l) ∷ [] }) (sym seen_is);
    }

pub seen_of : (o : Opening) (slot : ℕ) (p now : PassView Entry) (seen : Run) → now ≡ record p { seen = seen; looks = p.looks ++ (slot, length seen) ∷ [] } → now.seen ≡ seen
seen_of o slot p now seen pass = ap (λ (x : PassView Entry). x.seen) pass

pub frozen_is : (o : Opening) (most : Limits) (run : Run) (c : Contents) → Keeps o most run c → c.mode ≡ Frozen → mode o run c.shard.slot ≡ Frozen
frozen_is o most run c (holds h) is = sym h.mode ∙ is
frozen_is o most run c (dropped d r) is = absurd (cc (d, is))

pub serving_is : (o : Opening) (most : Limits) (run : Run) (c : Contents) → Keeps o most run c → c.mode ≡ Serving → mode o run c.shard.slot ≡ Serving
serving_is o most run c (holds h) is = sym h.mode ∙ is
serving_is o most run c (dropped d r) is = absurd (cc (d, is))

pub not_serving_is : (o : Opening) (most : Limits) (run : Run) (c : Contents) → Keeps o most run c → (c.mode ≡ Serving → ⊥) → mode o run c.shard.slot ≡ Serving → ⊥
not_serving_is o most run c (holds h) other is = other (h.mode ∙ is)
not_serving_is o most run c (dropped d r) other is = absurd (cc (r, is))

-- what lies with a seat tells whether a transaction is clear there
module _ (o : Opening) (most : Limits) (seat : SeatView Entry) (c : Contents) (is : IsAfter o most seat c) (tx : PendingView) where
  serving_here : c.mode ≡ Serving → mode o seat.seen c.shard.slot ≡ Serving
  serving_here = serving_is o most seat.seen c is.keeps

  tested : c.mode ≡ Serving → is_conflict (stored_on c.shard.slot seat.seen) tx.touched ≡ tells_conflict c.stored.log.last tx.touched
  tested serves =
      let has = holds_of o most seat.seen c is.keeps (lives_if (mode o seat.seen c.shard.slot) (ap answers_queries (serving_here serves))) in
      sym (conflict_kept (stored_on c.shard.slot seat.seen) tx.touched) ∙ sym (conflict_told (entries_kept c.shard.slot seat.seen) c.stored.log.last has.stored.last tx.touched)

  clear_is : c.mode ≡ Serving → tells_conflict c.stored.log.last tx.touched ≡ false → IsClear o c.shard seat.seen tx
  clear_is serves none = record { serving = serving_here serves; unchanged = tested serves ∙ none }

  -- as the shard's state is seen
  module _ (v : ShardView) (view_is : state_view seat.seen c ≡ v) (s : ShardRecord) (shards : v.shard ≡ s) where
    there : (P : ShardRecord → Run → Type 0) → P c.shard seat.seen → P s v.seen
    there P h =
        subst (λ (u : ShardRecord). P u v.seen) shards (subst (λ (x : ShardView). P x.shard x.seen) view_is h)

    pub clear_seen : c.mode ≡ Serving → tells_conflict c.stored.log.last tx.touched ≡ false → IsClear o s v.seen tx
    clear_seen serves none = there (λ u r. IsClear o u r tx) (clear_is serves none)

    pub conflict_seen : c.mode ≡ Serving → tells_conflict c.stored.log.last tx.touched ≡ true → IsStopped o s v.seen tx Conflict
    conflict_seen serves some = there (λ u r. IsStopped o u r tx Conflict) (conflict (serving_here serves) (tested serves ∙ some))

    pub moved_seen : (c.mode ≡ Serving → ⊥) → IsStopped o s v.seen tx ShardMoved
    moved_seen other = there (λ u r. IsStopped o u r tx ShardMoved) (moved (not_serving_is o most seat.seen c is.keeps other))

pub not_serving : (m : Mode) → (m ≡ Serving → ⊥) → (m ≡ Frozen → ⊥) → answers_queries m ≡ false
not_serving Following a b = refl
not_serving Serving a b = absurd (a refl)
not_serving Frozen a b = absurd (b refl)
not_serving Retired a b = refl
not_serving Dropped a b = refl

pub not_retired_first : (o : Opening) (slot : ℕ) → mode o [] slot ≡ Retired → ⊥
not_retired_first o slot is = by (is_opening o slot) is
  where
    by : (b : Bool) → cond b Serving Following ≡ Retired → ⊥
    by true is = absurd (cc is)
    by false is = absurd (cc is)

pub following_lives : (m : Mode) → m ≡ Following → m ≡ Retired → ⊥
following_lives m is retired = absurd (cc (is, retired))
