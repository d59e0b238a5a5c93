-- The first of several targets that isn't level moves.
use Rattle.std.proofs.Common.{◌≡◌, ◌⊎◌, inl, inr, ℕ, ◌+◌, ◌<◌, ◌≤◌, List, [], ◌∷◌, ◌++◌, length, map, take, drop, get_or, sym, ap, ◌∙◌, subst}
use Rattle.std.specs.List.{AllByRecursion}
use Rattle.std.proofs.lemmas.List.{take_more, map-append}
use Rattle.journal.specs.Views.{PassView}
use Rattle.journal.proofs.Fronts.{prefix_trans}
use Rattle.shard_run.specs.declared.ShardRecord.{ShardRecord}
use Rattle.shard_run.specs.declared.Entry.{Entry}
use Rattle.shard_run.specs.declared.Event.TheVariants as events
use Rattle.shard_run.specs.Runs.{Opening, Run}
use Rattle.shard_contents.proofs.Lists.{all-weaker, AllByRecursion-push}
use Rattle.shard_contents.proofs.Progress.{take_whole}
use Rattle.follow.specs.declared.steps.Step.{Step}
use Rattle.follow.specs.declared.steps.Step.TheVariants.{Copied, Followed, Level}
use Rattle.follow.specs.Steps.{IsOnward, IsRunBetween, HasMoved, copied, followed, level, HasMovedWith, IsFull}
use Rattle.follow.specs.Steps as moves
use Rattle.follow.proofs.Moves.{level_later, split_at}
use Rattle.reshard_cutover.specs.TargetSources.{TargetWithSources}
use Rattle.vt_value.specs.declared.refusal.Refusal.{Refusal}
use Rattle.vt_value.specs.declared.refusal.Refusal.TheVariants.{OutOfMemory, ShardFull}
use Rattle.shard_contents.specs.Limits.{Limits}
use Rattle.reshard_cutover.specs.declared.fault.ReshardFault.TheVariants.{Refused}
use Rattle.reshard_cutover.specs.FirstMoves.{HasMovedFirst, IsMoveRefusal}
use Rattle.reshard_cutover.specs.FirstMoves as firstmoves_of
use Rattle.reshard_cutover.proofs.Onward.{onward_trans, stepped_after}

between_after : (o : Opening) (p q now : PassView Entry) (run : Run) → IsOnward o p q → IsRunBetween q now run → IsRunBetween p now run
between_after o p q now run on is = record { since = prefix_trans p.seen q.seen run on.later is.since; until = is.until }

moved_after : (o : Opening) (source target : ShardRecord) (p q now : PassView Entry) → IsOnward o p q → (step : Step) → HasMoved o source target q now step
    → HasMoved o source target p now step
moved_after o source target p q now on Copied (copied c of run at place is) =
    copied c of run (between_after o p q now run on at) place (stepped_after o p q now target (events.Copy c) on is)
moved_after o source target p q now on Followed (followed f of is) = followed f of (stepped_after o p q now target (events.Follow f) on is)
moved_after o source target p q now on Level (level whole run looked a b is) =
    level (onward_trans o p q now on whole) run looked (between_after o p q now run on a) (between_after o p q now looked on b) is

all_after : (o : Opening) (target : ShardRecord) (p q now : PassView Entry) → IsOnward o p q → (sources : List ShardRecord)
    → AllByRecursion (λ s. HasMoved o s target q now Level) sources → AllByRecursion (λ s. HasMoved o s target p now Level) sources
all_after o target p q now on sources h =
    all-weaker (λ s. HasMoved o s target q now Level) (λ s. HasMoved o s target p now Level) (λ s k. moved_after o s target p q now on Level k) sources h

-- seen from before
pub with_after : (o : Opening) (sources : List ShardRecord) (target : ShardRecord) (p q now : PassView Entry) → IsOnward o p q → (step : Step)
    → HasMovedWith o sources target q now step → HasMovedWith o sources target p now step
with_after o sources target p q now on step (moves.one before after source is all moved) =
    moves.one before after source is (all_after o target p q now on before all) (moved_after o source target p q now on step moved)
with_after o sources target p q now on Level (moves.all_level whole all) = moves.all_level (onward_trans o p q now on whole) (all_after o target p q now on sources all)

all_later : (o : Opening) (target : ShardRecord) (p q now : PassView Entry) → IsOnward o q now → (sources : List ShardRecord)
    → AllByRecursion (λ s. HasMoved o s target p q Level) sources → AllByRecursion (λ s. HasMoved o s target p now Level) sources
all_later o target p q now on sources h =
    all-weaker (λ s. HasMoved o s target p q Level) (λ s. HasMoved o s target p now Level) (λ s k. level_later o s target p q now on k) sources h

-- what was level stays so in what the pass sees later
pub with_later : (o : Opening) (sources : List ShardRecord) (target : ShardRecord) (p q now : PassView Entry) → IsOnward o q now
    → HasMovedWith o sources target p q Level → HasMovedWith o sources target p now Level
with_later o sources target p q now on (moves.one before after source is all moved) =
    moves.one before after source is (all_later o target p q now on before all) (level_later o source target p q now on moved)
with_later o sources target p q now on (moves.all_level whole all) = moves.all_level (onward_trans o p q now whole on) (all_later o target p q now on sources all)

abbrev pub IsLevelWith : Opening → PassView Entry → PassView Entry → TargetWithSources → Type 0
IsLevelWith o p now t = HasMovedWith o t.1 t.0 p now Level

level_all : (o : Opening) (p q now : PassView Entry) → IsOnward o q now → (targets : List TargetWithSources) → AllByRecursion (IsLevelWith o p q) targets
    → AllByRecursion (IsLevelWith o p now) targets
level_all o p q now on targets h =
    all-weaker (IsLevelWith o p q) (IsLevelWith o p now) (λ t k. with_later o t.1 t.0 p q now on k) targets h

-- the targets so far are level
module _ {T : Type 0} (f : T → TargetWithSources) (o : Opening) (p q now : PassView Entry) (targets : List T) (i : ℕ) (t : T) (there : i < length targets)
    (is : t ≡ get_or targets i t) (before : IsOnward o p q) (on : IsOnward o q now) (so_far : AllByRecursion (IsLevelWith o p q) (map f (take i targets))) where
  pub first_moved : (step : Step) → HasMovedWith o (f t).1 (f t).0 q now step → HasMovedFirst o (map f targets) p now step
  first_moved step moved =
      firstmoves_of.one (map f (take i targets)) (map f (drop (i + 1) targets)) (f t)
      (ap (map f) (split_at targets i t there is) ∙ map-append f (take i targets) (t ∷ drop (i + 1) targets))
      (level_all o p q now on (map f (take i targets)) so_far) (with_after o (f t).1 (f t).0 p q now before step moved)

  pub level_next : HasMovedWith o (f t).1 (f t).0 q now Level → AllByRecursion (IsLevelWith o p now) (map f (take (i + 1) targets))
  level_next moved =
      let more = take_more targets i t there ∙ ap (λ x. take i targets ++ x ∷ []) (sym is) in
      subst (λ (l : List T). AllByRecursion (IsLevelWith o p now) (map f l)) (sym more)
      (subst (AllByRecursion (IsLevelWith o p now)) (sym (map-append f (take i targets) (t ∷ [])))
      (AllByRecursion-push (IsLevelWith o p now) (map f (take i targets)) (f t) (level_all o p q now on (map f (take i targets)) so_far)
      (with_after o (f t).1 (f t).0 p q now before Level moved)))

pub all_moved : {T : Type 0} (f : T → TargetWithSources) (o : Opening) (p now : PassView Entry) (targets : List T) (i : ℕ) → length targets ≤ i
    → AllByRecursion (IsLevelWith o p now) (map f (take i targets)) → HasMovedFirst o (map f targets) p now Level
all_moved {T} f o p now targets i all h =
    firstmoves_of.all_level (subst (λ (l : List T). AllByRecursion (IsLevelWith o p now) (map f l)) (take_whole i targets all) h)

pub unmapped : {X Y : Type 0} (P : Y → Type 0) (f : X → Y) (xs : List X) → AllByRecursion P (map f xs) → AllByRecursion (λ x. P (f x)) xs
unmapped P f [] all = tt
unmapped P f (x ∷ xs) all = (all.0, unmapped P f xs all.1)

-- what is full is this target
pub full_of : (o : Opening) (most : Limits) (t : ShardRecord) (now : PassView Entry) (e : Refusal) → (e ≡ OutOfMemory) ⊎ ((e ≡ ShardFull) × IsFull o most t now.seen)
    → e ≡ ShardFull → IsFull o most t now.seen
full_of o most t now e (inl h) is = absurd (cc (sym h ∙ is))
full_of o most t now e (inr h) is = h.1

pub move_refusal : (o : Opening) (most : Limits) (targets : List TargetWithSources) (i : ℕ) (t : TargetWithSources) → i < length targets → t ≡ get_or targets i t → (now : PassView Entry) (e : Refusal)
    → (e ≡ OutOfMemory) ⊎ ((e ≡ ShardFull) × IsFull o most t.0 now.seen) → IsMoveRefusal o most targets now (Refused e)
move_refusal o most targets i t there is now e (inl h) = subst (λ (x : Refusal). IsMoveRefusal o most targets now (Refused x)) (sym h) firstmoves_of.no_memory
move_refusal o most targets i t there is now e (inr h) =
    subst (λ (x : Refusal). IsMoveRefusal o most targets now (Refused x)) (sym h.0) (firstmoves_of.full t (i, there, sym is) h.1)
