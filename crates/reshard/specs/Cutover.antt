-- What the steps of a cutover do to a workflow and to what the controller's pass has seen.
use Rattle.std.specs.Prelude.{◌≡◌, ℕ, ◌⊎◌, ◌≤◌, ◌+◌, ◌^◌, ◌++◌, ◌∷◌, [], true, false, List, length, map, Contains, Some, slice_get, slice_set}
use Rattle.std.specs.List.{AllByRecursion}
use Rattle.vt_value.specs.declared.refusal.Refusal.TheVariants.{OutOfMemory, ShardFull}
use Rattle.journal.specs.Views.{PassView}
use Rattle.shard_run.specs.declared.ShardRecord.{ShardRecord}
use Rattle.shard_run.specs.declared.Entry.{Entry}
use Rattle.shard_run.specs.declared.Event.TheVariants as events
use Rattle.shard_run.specs.Runs.{Opening, Run, entries_on, stored_on}
use Rattle.reshard_create.specs.Limits.{Limits}
use Rattle.reshard_create.specs.FollowSteps.{IsOnward, IsRunBetween, HasStepped, HasMovedWith, IsFull}
use Rattle.reshard_create.specs.Turns.{EachInTurn, HasLookedAt, IsCutShort}
use Rattle.reshard_create.specs.Step.TheVariants as moves
use Rattle.reshard_create.specs.ReshardFault.{ReshardFault}
use Rattle.reshard_create.specs.ReshardFault.TheVariants.{Refused}
use Rattle.reshard.specs.declared.workflow.Stage.TheVariants as stages
use Rattle.reshard.specs.declared.cutover.CutoverStep.{CutoverStep}
use Rattle.reshard.specs.declared.finishing.Resumed.{Resumed}
use Rattle.reshard.specs.declared.finishing.Resumed.TheVariants.{Thawed, Finished}
use Rattle.reshard.specs.declared.cutover.CutoverStep.TheVariants.{Freeze, Copy, Follow, Retire, Serve, Publish, Release}
use Rattle.reshard_create.specs.Steps.{named_for}
use Rattle.reshard_create.specs.Looks.{HasLookedOnlyAt, HasLookedForOneChange, HasThawed, IsServingAgain, IsCutOver, IsOverfull, IsWithinRows, slots_of_both}
use Rattle.reshard.specs.Workflows.{WorkflowView}
use Rattle.reshard_create.specs.TargetSources.{TargetWithSources, shards_of}
use Rattle.reshard_create.specs.Step.{Step}
use Rattle.reshard_create.specs.FirstMoves.{HasMovedFirst, IsOneStepFirst, IsNoStepFirst}

-- a cutover goes on while targets follow, or it has begun
abbrev pub MaySwitch : WorkflowView → Type 0
MaySwitch w = (w.stage ≡ stages.Following) ⊎ (w.stage ≡ stages.Switching)

-- a workflow may be given up that follows, or of which no source is retired
abbrev pub MayCancel : WorkflowView → Type 0
MayCancel w = (w.stage ≡ stages.Following) ⊎ ((w.stage ≡ stages.Switching) × (w.retired ≡ 0))

-- at a run that the pass came by a source had as many entries as a shard may have that is to be frozen
pub record HasNoRoom (s : ShardRecord) (p now : PassView Entry) : Type 0 where
  pub run : Run
  pub between : IsRunBetween p now run
  pub full : 2 ^ 40 ≤ length (entries_on s.slot run)

-- at a run that the pass came by a step of a target that might come next passed a limit of it
pub record IsStuck (o : Opening) (most : Limits) (t : ShardRecord) (p now : PassView Entry) : Type 0 where
  pub run : Run
  pub between : IsRunBetween p now run
  pub full : IsFull o most t run

-- Why a cutover gives up that hasn't retired a source: want of memory, or a limit of a shard would be passed.
pub data IsSwitchRefusal (o : Opening) (most : Limits) (sources : List ShardRecord) (targets : List TargetWithSources) (p now : PassView Entry) : ReshardFault → Type 0 where
  no_memory : IsSwitchRefusal o most sources targets p now (Refused OutOfMemory)
  no_room : (s : ShardRecord) → Contains sources s → HasNoRoom s p now → IsSwitchRefusal o most sources targets p now (Refused ShardFull)
  stuck : (t : TargetWithSources) → Contains targets t → IsStuck o most t.0 p now → IsSwitchRefusal o most sources targets p now (Refused ShardFull)
  overfull : (t : TargetWithSources) → Contains targets t → IsOverfull o most t.0 p now → IsSwitchRefusal o most sources targets p now (Refused ShardFull)

-- What a step of the cutover does: the next source is frozen, and it is noted how many entries it has stored; once all are, the first target that isn't level moves, else the next source
-- is retired for those of the targets that take from it; once all are, the next target serves; once all do, the next partition is published
-- that wasn't, and once it was, the workflow's statements are released.
pub data HasSwitched (o : Opening) (w : WorkflowView) (now : WorkflowView) (p q : PassView Entry) : CutoverStep → Type 0 where
  froze : (s : ShardRecord) → slice_get w.sources w.frozen ≡ Some s → HasStepped o s events.Freeze p q
      → now.stored ≡ slice_set w.stored w.frozen (length (stored_on s.slot q.seen))
      → now ≡ record w { stage = stages.Switching; frozen = w.frozen + 1; stored = now.stored; prepared = true } → HasSwitched o w now p q Freeze
  copied : length w.sources ≤ w.frozen → HasMovedFirst o w.targets p q moves.Copied → now ≡ record w { prepared = true } → HasSwitched o w now p q Copy
  followed : length w.sources ≤ w.frozen → HasMovedFirst o w.targets p q moves.Followed → now ≡ record w { prepared = true } → HasSwitched o w now p q Follow
  retired : (s : ShardRecord) → slice_get w.sources w.retired ≡ Some s → HasStepped o s (events.Retire (named_for s (shards_of w.targets))) p q
      → now ≡ record w { retired = w.retired + 1; prepared = true } → HasSwitched o w now p q Retire
  served : (t : TargetWithSources) → slice_get w.targets w.served ≡ Some t → length w.sources ≤ w.retired → HasStepped o t.0 events.Serve p q
      → now ≡ record w { served = w.served + 1; prepared = true } → HasSwitched o w now p q Serve
  published : w.published ≡ false → length w.sources ≤ w.retired → length w.targets ≤ w.served → now ≡ record w { prepared = true; published = true }
      → HasSwitched o w now p q Publish
  released : w.published ≡ true → length w.sources ≤ w.retired → length w.targets ≤ w.served → now ≡ record w { stage = stages.Switched; prepared = true }
      → HasSwitched o w now p q Release

-- before the first retirement the pass looks at targets and their sources, as a step does that finds all level, and then once at each target
abbrev pub HasFoundReady : WorkflowView → PassView Entry → PassView Entry → Type 0
HasFoundReady w p m =
    (l : PassView Entry) × IsOneStepFirst w.targets p l moves.Level × HasLookedAt (map (λ t. t.0.slot) w.targets) l m

-- The steps from the first retirement on: the pass looks at the source that retires alone, and changes its mode once; or at the sources, one after the
-- other, and then so at the target that serves; or nowhere.
abbrev pub EndsAlone : WorkflowView → PassView Entry → PassView Entry → CutoverStep → Type 0
EndsAlone w m q Freeze = ⊥
EndsAlone w m q Copy = ⊥
EndsAlone w m q Follow = ⊥
EndsAlone w m q Retire = (s : ShardRecord) × (slice_get w.sources w.retired ≡ Some s) × HasLookedForOneChange s.slot m q
EndsAlone w m q Serve =
    (t : TargetWithSources) × (slice_get w.targets w.served ≡ Some t) × (n : PassView Entry) × EachInTurn (λ s. HasLookedOnlyAt s.slot) w.sources m n
    × HasLookedForOneChange t.0.slot n q
EndsAlone w m q Publish = q ≡ m
EndsAlone w m q Release = q ≡ m

-- A step of a cutover does no more than it tells. One that freezes the next source looks there alone, and changes its mode once; one that moves a target
-- is one step of the first that isn't level. So is what comes before the first retirement, which finds all level.
abbrev pub DoesNoMore : WorkflowView → PassView Entry → PassView Entry → CutoverStep → Type 0
DoesNoMore w p q Freeze = (s : ShardRecord) × (slice_get w.sources w.frozen ≡ Some s) × HasLookedForOneChange s.slot p q
DoesNoMore w p q Copy = IsOneStepFirst w.targets p q moves.Copied
DoesNoMore w p q Follow = IsOneStepFirst w.targets p q moves.Followed
DoesNoMore w p q step = (m : PassView Entry) × ((m ≡ p) ⊎ ((w.retired ≡ 0) × HasFoundReady w p m)) × EndsAlone w m q step

-- steps of the first of the targets that isn't level, one after the other, and nothing else
pub data HasMovedOn (targets : List TargetWithSources) (p : PassView Entry) : PassView Entry → Type 0 where
  unmoved : HasMovedOn targets p p
  moved : {q now : PassView Entry} {step : Step} → HasMovedOn targets p q → IsOneStepFirst targets q now step → HasMovedOn targets p now

-- each of the targets in turn takes steps with its sources, and nothing else is done
abbrev pub HaveCome : List TargetWithSources → PassView Entry → PassView Entry → Type 0
HaveCome targets p now = EachInTurn (λ (t : TargetWithSources). HasMovedOn (t ∷ [])) targets p now

-- so many steps one after the other, each of the first of the targets that isn't level, by which it follows an entry
pub data HasFollowed (o : Opening) (targets : List TargetWithSources) (p : PassView Entry) : ℕ → PassView Entry → Type 0 where
  unfollowed : HasFollowed o targets p 0 p
  followed_one : {n : ℕ} {q now : PassView Entry} → HasFollowed o targets p n q → HasMovedFirst o targets q now moves.Followed
      → IsOneStepFirst targets q now moves.Followed → HasFollowed o targets p (n + 1) now

-- The sources of a target are written faster than it follows: it followed at least 65,536 entries one after the other, and wasn't level between
-- them, so it could copy no rows.
pub record IsOutrun (o : Opening) (t : TargetWithSources) (p now : PassView Entry) : Type 0 where
  pub first : PassView Entry
  pub since : IsOnward o p first
  pub count : ℕ
  pub many : 2 ^ 16 ≤ count
  pub last : PassView Entry
  pub followed : HasFollowed o (t ∷ []) first count last
  pub later : IsOnward o last now

-- At a run that the pass came by the target had copied all tables of each of its sources, and was level with them (IsLevel); or these are
-- written faster than it follows.
abbrev pub HasCopiedAllOf : Opening → PassView Entry → PassView Entry → TargetWithSources → Type 0
HasCopiedAllOf o p now t = HasMovedWith o t.1 t.0 p now moves.Level ⊎ IsOutrun o t p now

-- Before a cutover begins each target copies all tables of each of its sources, unless these are written faster than it follows. Then the targets
-- move on. All of these are steps of targets with sources of theirs, by which no mode changes.
pub record HaveComeNear (o : Opening) (targets : List TargetWithSources) (p now : PassView Entry) : Type 0 where
  pub at : PassView Entry
  pub come : HaveCome targets p at
  pub copied : AllByRecursion (HasCopiedAllOf o p at) targets
  pub further : HasMovedOn targets at now

-- steps of the first of the targets that isn't level, and then one that is refused, and nothing else
pub record HasMovedUntilRefused (targets : List TargetWithSources) (p now : PassView Entry) : Type 0 where
  pub last : PassView Entry
  pub moves : HasMovedOn targets p last
  pub refused : IsNoStepFirst targets last now

-- The targets came near until a step was refused: one of a target in its turn, or, once each had its turn, one of the steps after that.
pub data HaveComeUntilRefused (targets : List TargetWithSources) (p : PassView Entry) : PassView Entry → Type 0 where
  coming : {now : PassView Entry} (before after : List TargetWithSources) (t : TargetWithSources) (q : PassView Entry) → targets ≡ before ++ t ∷ after
      → HaveCome before p q → HasMovedUntilRefused (t ∷ []) q now → HaveComeUntilRefused targets p now
  further : {now : PassView Entry} (q : PassView Entry) → HaveCome targets p q → HasMovedUntilRefused targets q now → HaveComeUntilRefused targets p now

-- steps of a cutover, one after the other, from one workflow to another, and nothing else
pub data HasSwitchedOn (o : Opening) (w : WorkflowView) (p : PassView Entry) : WorkflowView → PassView Entry → Type 0 where
  unswitched : HasSwitchedOn o w p w p
  switched : {mid now : WorkflowView} {q r : PassView Entry} {step : CutoverStep} → HasSwitchedOn o w p mid q → HasSwitched o mid now q r step
      → DoesNoMore mid q r step → HasSwitchedOn o w p now r

-- Steps of a cutover, one after the other. After the last one the pass looks once at each source and once at each target, and does nothing else.
pub record HasSwitchedToTheEnd (o : Opening) (w now : WorkflowView) (p q : PassView Entry) : Type 0 where
  pub last : PassView Entry
  pub steps : HasSwitchedOn o w p now last
  pub after : IsOnward o last q
  pub looked : HasLookedAt (slots_of_both w.sources w.targets) last q

-- A whole cutover: the targets come near, and only then its steps are taken, of which the first is the first freeze.
pub record HasCutOver (o : Opening) (w now : WorkflowView) (p q : PassView Entry) : Type 0 where
  pub before : PassView Entry
  pub near : HaveComeNear o w.targets p before
  pub rest : HasSwitchedToTheEnd o w now before q

-- The first source may retire: all are frozen, each target was found level with its sources, and then, at a run that the pass came by, with no
-- more rows than a shard that serves may have.
pub record MayRetireFirst (o : Opening) (most : Limits) (w : WorkflowView) (p now : PassView Entry) : Type 0 where
  pub frozen : length w.sources ≤ w.frozen
  pub level : HasMovedFirst o w.targets p now moves.Level
  pub fit : AllByRecursion (λ t. IsWithinRows o most t.0 p now) w.targets

-- A cutover was given up of which no source was retired: its targets follow again, and each of its sources serves. They were thawed one after
-- the other, and none of them was looked at after its turn.
pub record HasGivenUp (o : Opening) (w now : WorkflowView) (p q : PassView Entry) : Type 0 where
  pub none : w.retired ≡ 0
  pub at : now ≡ record w { stage = stages.Following; frozen = 0; prepared = now.prepared }
  pub serve : AllByRecursion (λ s. IsServingAgain o s p q) w.sources
  pub thawed : EachInTurn (HasThawed o) w.sources p q

-- A cutover is through: the pass has seen each source retired and each target serve, the next partition was published, and the workflow is
-- switched.
pub record HasFinished (w now : WorkflowView) (q : PassView Entry) : Type 0 where
  pub through : IsCutOver q.seen w.sources w.targets
  pub at : now ≡ record w { stage = stages.Switched; frozen = now.frozen; retired = now.retired; served = now.served; stored = now.stored; prepared = now.prepared; published = true }

-- A step of a cutover stopped for this cause, which the pass came by, and then the cutover was given up.
pub record HasStopped (o : Opening) (most : Limits) (w now : WorkflowView) (p q : PassView Entry) (e : ReshardFault) : Type 0 where
  pub at : PassView Entry
  pub onward : IsOnward o p at
  pub cause : IsSwitchRefusal o most w.sources w.targets p at e
  pub given_up : HasGivenUp o w now at q

-- What a step of a cutover does that is refused, before it gives the cutover up: nothing; or it looks once at the next source to freeze; or it is a
-- step of a target that is refused; or it finds all targets level, and then looks once at each, up to one that has too many rows.
pub data HasComeTo (w : WorkflowView) (p : PassView Entry) : PassView Entry → Type 0 where
  unprepared : HasComeTo w p p
  unfrozen : {at : PassView Entry} (s : ShardRecord) → slice_get w.sources w.frozen ≡ Some s → HasLookedAt (s.slot ∷ []) p at → HasComeTo w p at
  unmoved : {at : PassView Entry} → IsNoStepFirst w.targets p at → HasComeTo w p at
  unfit : {at : PassView Entry} (l : PassView Entry) → IsOneStepFirst w.targets p l moves.Level → IsCutShort (map (λ t. t.0.slot) w.targets) l at
      → HasComeTo w p at

-- a step of a cutover stopped, having done no more than that, and then the cutover was given up
pub record HasStoppedShort (o : Opening) (most : Limits) (w now : WorkflowView) (p q : PassView Entry) (e : ReshardFault) : Type 0 where
  pub stopped : HasStopped o most w now p q e
  pub short : HasComeTo w p stopped.at

-- the same workflow, whose cutover may have gone on
abbrev pub IsFurther : WorkflowView → WorkflowView → Type 0
IsFurther w now =
    now
    ≡ record w { stage = now.stage; frozen = now.frozen; retired = now.retired; served = now.served; stored = now.stored; prepared = now.prepared; published = now.published }

-- Steps of a cutover were taken, and then one stopped.
pub record HasStoppedOn (o : Opening) (most : Limits) (w now : WorkflowView) (p q : PassView Entry) (e : ReshardFault) : Type 0 where
  pub mid : WorkflowView
  pub further : IsFurther w mid
  pub before : PassView Entry
  pub steps : HasSwitchedOn o w p mid before
  pub onward : IsOnward o p before
  pub stopped : HasStoppedShort o most mid now before q e

-- A whole cutover stopped, while the targets came near, or, once they had, at one of its steps. Then it was given up.
pub data HasStoppedLater (o : Opening) (most : Limits) (w now : WorkflowView) (p q : PassView Entry) (e : ReshardFault) : Type 0 where
  while_coming : (is : HasStopped o most w now p q e) → HaveComeUntilRefused w.targets p is.at → HasStoppedLater o most w now p q e
  at_step : (near : PassView Entry) → (w.retired ≡ 0 → HaveComeNear o w.targets p near) → IsOnward o p near → HasStoppedOn o most w now near q e
      → HasStoppedLater o most w now p q e

-- What becomes of a cutover that had begun: it is given up, of which no source was retired; else the steps are taken that are left.
pub data IsResumed (o : Opening) (w now : WorkflowView) (p q : PassView Entry) : Resumed → Type 0 where
  thawed : HasGivenUp o w now p q → IsResumed o w now p q Thawed
  finished : (w.retired ≡ 0 → ⊥) → HasFinished w now q → HasSwitchedToTheEnd o w now p q → IsResumed o w now p q Finished
