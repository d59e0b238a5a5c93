-- A look at a shard under its lock, once it is a certain one.
use Rattle.std.proofs.Common.{◌≡◌, [], ◌∷◌, ◌++◌, length, ap, ◌∙◌, subst, sym}
use Rattle.journal.specs.Views.{PassView, IsLater}
use Rattle.shard_run.specs.declared.ShardRecord.{ShardRecord}
use Rattle.shard_run.specs.declared.Entry.{Entry}
use Rattle.shard_run.specs.declared.Mode.{Mode}
use Rattle.shard_run.specs.Runs.{Opening, Run, mode, entries_on, stored_on}
use Rattle.shard_contents.specs.Entries.{ShardView, slot_of, commit_of, MayFollow, seat_view}
use Rattle.shard_contents.proofs.States.{mode-same, stored-same}

-- the state is the shard's, before a look and after it
pub record LookedAs (o : Opening) (which : ShardRecord) (p now : PassView Entry) (old new : ShardView) : Type 0 where
  pub was : old.shard ≡ which
  pub is : new.shard ≡ which
  pub later : IsLater slot_of commit_of (MayFollow o) (seat_view old) p new.seen
  pub seen : now.seen ≡ new.seen
  pub pass : now ≡ record p { seen = new.seen; looks = p.looks ++ (which.slot, length new.seen) ∷ [] }
  pub alone : entries_on which.slot new.seen ≡ entries_on which.slot old.seen

-- by what the look ensures of the state that the guard lends
pub looked_as : {o : Opening} {which : ShardRecord} {p now : PassView Entry} {old new : ShardView} (lent : ShardView) → lent ≡ old → old.shard ≡ which
    → IsLater slot_of commit_of (MayFollow o) (seat_view lent) p new.seen → new.shard ≡ lent.shard
    → now ≡ record p { seen = new.seen; looks = p.looks ++ (lent.shard.slot, length new.seen) ∷ [] } → LookedAs o which p now old new
looked_as {o} {which} {p} {now} {old} {new} lent same was later shard pass =
    let at : lent.shard ≡ which = ap (λ (v : ShardView). v.shard) same ∙ was in
    let here : IsLater slot_of commit_of (MayFollow o) (seat_view old) p new.seen =
    subst (λ (v : ShardView). IsLater slot_of commit_of (MayFollow o) (seat_view v) p new.seen) same later in
    record {
      was = was;
      is = shard ∙ at;
      later = here;
      seen = ap (λ (x : PassView Entry). x.seen) pass;
      pass = pass ∙ ap (λ (s : ShardRecord). record p { seen = new.seen; looks = p.looks ++ (s.slot, length new.seen) ∷ [] }) at;
      alone = subst (λ (s : ShardRecord). entries_on s.slot new.seen ≡ entries_on s.slot old.seen) was here.alone;
    }

module _ {o : Opening} {which : ShardRecord} {p now : PassView Entry} {old new : ShardView} (l : LookedAs o which p now old new) where
  -- its mode is as it was
  pub mode_stays : mode o new.seen which.slot ≡ mode o old.seen old.shard.slot
  mode_stays = mode-same o old.seen new.seen which l.alone ∙ ap (λ (s : ShardRecord). mode o old.seen s.slot) (sym l.was)

  pub mode_here : {m : Mode} → mode o old.seen old.shard.slot ≡ m → mode o new.seen new.shard.slot ≡ m
  mode_here is = ap (λ (s : ShardRecord). mode o new.seen s.slot) l.is ∙ mode_stays ∙ is

  pub mode_seen : {m : Mode} → mode o old.seen old.shard.slot ≡ m → mode o now.seen which.slot ≡ m
  mode_seen is = ap (λ (r : Run). mode o r which.slot) l.seen ∙ mode_stays ∙ is

  -- and so is what it has stored
  pub stored_stays : stored_on which.slot now.seen ≡ stored_on old.shard.slot old.seen
  stored_stays =
      ap (stored_on which.slot) l.seen ∙ stored-same o old.seen new.seen which l.alone ∙ ap (λ (s : ShardRecord). stored_on s.slot old.seen) (sym l.was)
