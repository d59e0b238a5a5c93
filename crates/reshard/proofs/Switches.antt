-- The steps of a cutover, and why one stops.
use Rattle.std.proofs.Common.{◌≡◌, ◌⊎◌, ◌+◌, ◌≤◌, Bool, true, List, length, Option, Some, None, Result, Ok, Err, refl, sym, ap, ◌∙◌, subst}
use Rattle.std.specs.Prelude.{Contains, slice_get, slice_set, MatchOption, OnErr}
use Rattle.std.specs.List.{AllByRecursion}
use Rattle.journal.specs.Views.{PassView}
use Rattle.vt_value.specs.declared.refusal.Refusal.{Refusal}
use Rattle.vt_value.specs.declared.refusal.Refusal.TheVariants.{OutOfMemory, ShardFull}
use Rattle.shard_run.specs.declared.ShardRecord.{ShardRecord}
use Rattle.shard_run.specs.declared.Entry.{Entry}
use Rattle.shard_run.specs.declared.Event.TheVariants as events
use Rattle.shard_run.specs.Runs.{Opening, stored_on}
use Rattle.reshard_create.proofs.Lists.{all-weaker}
use Rattle.reshard_create.specs.Limits.{Limits}
use Rattle.reshard_create.specs.FollowSteps.{IsOnward, HasStepped, HasMovedWith}
use Rattle.reshard_create.specs.Step.{Step}
use Rattle.reshard_create.specs.Step.TheVariants.{Copied, Followed, Level}
use Rattle.reshard_create.specs.ReshardFault.{ReshardFault}
use Rattle.reshard_create.specs.ReshardFault.TheVariants.{Refused}
use Rattle.reshard.specs.declared.workflow.Stage.TheVariants.{Following, Switching}
use Rattle.reshard.specs.declared.cutover.CutoverStep.{CutoverStep}
use Rattle.reshard.specs.declared.cutover.CutoverStep.TheVariants as steps
use Rattle.reshard_create.specs.FirstMoves.{HasMovedFirst}
use Rattle.reshard_create.specs.FirstMoves as first_moves
use Rattle.reshard_create.specs.Steps.{named_for}
use Rattle.reshard.specs.Workflows.{WorkflowView}
use Rattle.reshard_create.specs.TargetSources.{TargetWithSources, shards_of}
use Rattle.reshard.specs.Cutover.{HasSwitched, HasStopped, HasNoRoom, HasFoundReady, EndsAlone, DoesNoMore, IsSwitchRefusal, MayRetireFirst}
use Rattle.reshard_create.specs.Turns.{EachInTurn}
use Rattle.reshard_create.specs.Looks.{HasLookedForOneChange, HasThawed, IsServingAgain, IsWithinRows}
use Rattle.reshard.specs.Cutover as cut
use Rattle.reshard_create.proofs.Onward.{stepped_after}
use Rattle.reshard_create.proofs.Moving.{with_after, with_later}
use mathlib.Core.List.{IsPrefix}
use Rattle.journal.proofs.Fronts.{prefix_trans, prefix_self}

module _ (o : Opening) (targets : List TargetWithSources) (p q now : PassView Entry) (on : IsOnward o p q) where
  levels : (ts : List TargetWithSources) → AllByRecursion (λ t. HasMovedWith o t.1 t.0 q now Level) ts → AllByRecursion (λ t. HasMovedWith o t.1 t.0 p now Level) ts
  levels ts h =
      all-weaker (λ (t : TargetWithSources). HasMovedWith o t.1 t.0 q now Level) (λ (t : TargetWithSources). HasMovedWith o t.1 t.0 p now Level)
      (λ t k. with_after o t.1 t.0 p q now on Level k) ts h

  -- a step of the targets counts from any time before it
  pub first_after : (step : Step) → HasMovedFirst o targets q now step → HasMovedFirst o targets p now step
  first_after step (first_moves.one before after t is all moved) =
      first_moves.one before after t is (levels before all) (with_after o t.1 t.0 p q now on step moved)
  first_after _ (first_moves.all_level all) = first_moves.all_level (levels targets all)

module _ (o : Opening) (w now : WorkflowView) (p q r : PassView Entry) (on : IsOnward o p q) where
  since : (step : CutoverStep) → HasSwitched o (record w { prepared = true }) now q r step → HasSwitched o w now p r step
  since _ (cut.froze s at is n e) = cut.froze s at (stepped_after o p q r s events.Freeze on is) n e
  since _ (cut.copied f m e) = cut.copied f (first_after o w.targets p q r on Copied m) e
  since _ (cut.followed f m e) = cut.followed f (first_after o w.targets p q r on Followed m) e
  since _ (cut.retired s at is e) = cut.retired s at (stepped_after o p q r s (events.Retire (named_for s (shards_of w.targets))) on is) e
  since _ (cut.served t at l is e) = cut.served t at l (stepped_after o p q r t.0 events.Serve on is) e
  since _ (cut.published u a b e) = cut.published u a b e
  since _ (cut.released u a b e) = cut.released u a b e

  -- and so does a step of the cutover, once the memory is made
  pub switched_since : (mid : WorkflowView) → mid ≡ record w { prepared = true } → (step : CutoverStep) → HasSwitched o mid now q r step
      → HasSwitched o w now p r step
  switched_since mid made step h = since step (subst (λ (v : WorkflowView). HasSwitched o v now q r step) made h)

module _ (o : Opening) (w w1 now : WorkflowView) (p q : PassView Entry) (made : w1 ≡ record w { prepared = true }) where
  pub froze_after : ((s : ShardRecord) × (slice_get w1.sources w1.frozen ≡ Some s) × HasStepped o s events.Freeze p q × HasLookedForOneChange s.slot p q
      × (now.stored ≡ slice_set w1.stored w1.frozen (length (stored_on s.slot q.seen)))) → now ≡ record w1 { stage = Switching; frozen = w1.frozen + 1; stored = now.stored }
      → HasSwitched o w now p q steps.Freeze
  froze_after h is =
      cut.froze h.0 (sym (ap (λ (v : WorkflowView). slice_get v.sources v.frozen) made) ∙ h.1) h.2
      (h.4 ∙ ap (λ (v : WorkflowView). slice_set v.stored v.frozen (length (stored_on h.0.slot q.seen))) made)
      (is ∙ ap (λ (v : WorkflowView). record v { stage = Switching; frozen = v.frozen + 1; stored = now.stored }) made)

  moved_after : (step : Step) → length w1.sources ≤ w1.frozen → HasMovedFirst o w1.targets p q step
      → (length w.sources ≤ w.frozen) × HasMovedFirst o w.targets p q step
  moved_after step l m = (
    subst (λ (v : WorkflowView). length v.sources ≤ v.frozen) made l,
    subst (λ (v : WorkflowView). HasMovedFirst o v.targets p q step) made m,
  )

  pub copied_after : length w1.sources ≤ w1.frozen → HasMovedFirst o w1.targets p q Copied → now ≡ w1 → HasSwitched o w now p q steps.Copy
  copied_after l m is = let h = moved_after Copied l m in cut.copied h.0 h.1 (is ∙ made)

  pub followed_after : length w1.sources ≤ w1.frozen → HasMovedFirst o w1.targets p q Followed → now ≡ w1 → HasSwitched o w now p q steps.Follow
  followed_after l m is = let h = moved_after Followed l m in cut.followed h.0 h.1 (is ∙ made)

-- a step from the first retirement on, after what was found before it
pub no_more : (w : WorkflowView) (p m q : PassView Entry) (step : CutoverStep) → (m ≡ p) ⊎ ((w.retired ≡ 0) × HasFoundReady w p m) → EndsAlone w m q step
    → DoesNoMore w p q step
no_more w p m q steps.Freeze before alone = absurd alone
no_more w p m q steps.Copy before alone = absurd alone
no_more w p m q steps.Follow before alone = absurd alone
no_more w p m q steps.Retire before alone = (m, before, alone)
no_more w p m q steps.Serve before alone = (m, before, alone)
no_more w p m q steps.Publish before alone = (m, before, alone)
no_more w p m q steps.Release before alone = (m, before, alone)

-- the memory of a cutover says nothing of where it looks
same_alone : (w : WorkflowView) (m q : PassView Entry) (step : CutoverStep) → EndsAlone (record w { prepared = true }) m q step → EndsAlone w m q step
same_alone w m q steps.Freeze h = h
same_alone w m q steps.Copy h = h
same_alone w m q steps.Follow h = h
same_alone w m q steps.Retire h = h
same_alone w m q steps.Serve h = h
same_alone w m q steps.Publish h = h
same_alone w m q steps.Release h = h

pub alone_of : (w w1 : WorkflowView) (m q : PassView Entry) (step : CutoverStep) → w1 ≡ record w { prepared = true } → EndsAlone w1 m q step → EndsAlone w m q step
alone_of w w1 m q step made h = same_alone w m q step (subst (λ (v : WorkflowView). EndsAlone v m q step) made h)

module _ (o : Opening) (most : Limits) (sources : List ShardRecord) (targets : List TargetWithSources) (p now : PassView Entry) (e : Refusal) where
  pub memory_refused : e ≡ OutOfMemory → IsSwitchRefusal o most sources targets p now (Refused e)
  memory_refused is = subst (λ (x : Refusal). IsSwitchRefusal o most sources targets p now (Refused x)) (sym is) cut.no_memory

  pub room_refused : (e ≡ ShardFull) × ((s : ShardRecord) × Contains sources s × HasNoRoom s p now) → IsSwitchRefusal o most sources targets p now (Refused e)
  room_refused h =
      subst (λ (x : Refusal). IsSwitchRefusal o most sources targets p now (Refused x)) (sym h.0) (cut.no_room h.1.0 h.1.1 h.1.2)

-- a refusal is of the workflow that it was before its memory was made
pub refused_as : (o : Opening) (most : Limits) (w w1 : WorkflowView) (b : Bool) (p now : PassView Entry) (e : ReshardFault) → w1 ≡ record w { prepared = b }
    → IsSwitchRefusal o most w1.sources w1.targets p now e → IsSwitchRefusal o most w.sources w.targets p now e
refused_as o most w w1 b p now e made h = subst (λ (v : WorkflowView). IsSwitchRefusal o most v.sources v.targets p now e) made h

pub on_refusal : {X E : Type 0} (r : Result X E) (P : Type 0) → P → OnErr r P
on_refusal (Ok x) P p = tt
on_refusal (Err e) P p = p

pub refusal_weaker : {X E : Type 0} (r : Result X E) (P Q : Type 0) → (P → Q) → OnErr r P → OnErr r Q
refusal_weaker (Ok x) P Q f h = tt
refusal_weaker (Err e) P Q f h = f h

pub when_none : {X : Type 0} (o : Option X) (A : Type 0) (B : X → Type 0) → o ≡ None → MatchOption o A B → A
when_none {X = X} o A B none h = subst (λ (x : Option X). MatchOption x A B) none h

-- a step stopped, and the cutover was given up
unfoldable pub stopped : (o : Opening) (most : Limits) (w mid now : WorkflowView) (p at q : PassView Entry) (e : ReshardFault) → IsOnward o p at
    → IsSwitchRefusal o most w.sources w.targets p at e → w.retired ≡ 0 → mid ≡ record w { prepared = mid.prepared }
    → now ≡ record mid { stage = Following; frozen = 0 } → AllByRecursion (λ s. IsServingAgain o s at q) mid.sources
    → EachInTurn (HasThawed o) mid.sources at q → HasStopped o most w now p q e
stopped o most w mid now p at q e on cause none same is again thawed = record {
  at = at;
  onward = on;
  cause = cause;
  given_up = record {
    none = none;
    at =
        is ∙ ap (λ (v : WorkflowView). record v { stage = Following; frozen = 0 }) same
        ∙ ap (λ (b : Bool). record w { stage = Following; frozen = 0; prepared = b }) (sym (ap (λ (v : WorkflowView). v.prepared) is));
    serve = subst (λ (l : List ShardRecord). AllByRecursion (λ s. IsServingAgain o s at q) l) (ap (λ (v : WorkflowView). v.sources) same) again;
    thawed = subst (λ (l : List ShardRecord). EachInTurn (HasThawed o) l at q) (ap (λ (v : WorkflowView). v.sources) same) thawed;
  };
}

pub given_up : (o : Opening) (w now : WorkflowView) (p q : PassView Entry) → w.retired ≡ 0 → now ≡ record w { stage = Following; frozen = 0 }
    → AllByRecursion (λ s. IsServingAgain o s p q) w.sources → EachInTurn (HasThawed o) w.sources p q → cut.HasGivenUp o w now p q
given_up o w now p q none is again thawed = record {
  none = none;
  at = is ∙ ap (λ (b : Bool). record w { stage = Following; frozen = 0; prepared = b }) (sym (ap (λ (v : WorkflowView). v.prepared) is));
  serve = again;
  thawed = thawed;
}

-- ---- the first source may retire

module _ (o : Opening) (targets : List TargetWithSources) (p q now : PassView Entry) (on : IsOnward o q now) where
  levels_later : (ts : List TargetWithSources) → AllByRecursion (λ t. HasMovedWith o t.1 t.0 p q Level) ts → AllByRecursion (λ t. HasMovedWith o t.1 t.0 p now Level) ts
  levels_later ts h =
      all-weaker (λ (t : TargetWithSources). HasMovedWith o t.1 t.0 p q Level) (λ (t : TargetWithSources). HasMovedWith o t.1 t.0 p now Level)
      (λ t k. with_later o t.1 t.0 p q now on k) ts h

  -- what was level stays so in what the pass sees later
  pub level_later : HasMovedFirst o targets p q Level → HasMovedFirst o targets p now Level
  level_later (first_moves.one before after t is all moved) =
      first_moves.one before after t is (levels_later before all) (with_later o t.1 t.0 p q now on moved)
  level_later (first_moves.all_level all) = first_moves.all_level (levels_later targets all)

pub within_between : (o : Opening) (most : Limits) (targets : List TargetWithSources) (p p' now now' : PassView Entry) → IsPrefix p'.seen p.seen → IsPrefix now.seen now'.seen
    → AllByRecursion (λ t. IsWithinRows o most t.0 p now) targets → AllByRecursion (λ t. IsWithinRows o most t.0 p' now') targets
within_between o most targets p p' now now' early late all =
    all-weaker (λ (t : TargetWithSources). IsWithinRows o most t.0 p now) (λ (t : TargetWithSources). IsWithinRows o most t.0 p' now')
    (λ t h. record {
      run = h.run;
      between = record {
        since = prefix_trans p'.seen p.seen h.run early h.between.since;
        until = prefix_trans h.run now.seen now'.seen h.between.until late;
      };
      few = h.few;
    }) targets all

pub ready_later : (o : Opening) (most : Limits) (w : WorkflowView) (p q now : PassView Entry) → IsOnward o q now → MayRetireFirst o most w p q
    → MayRetireFirst o most w p now
ready_later o most w p q now on is = record {
  frozen = is.frozen;
  level = level_later o w.targets p q now on is.level;
  fit = within_between o most w.targets p p q now (prefix_self p.seen) on.later is.fit;
}

-- by what a step found once the memory was made
pub may_retire : (o : Opening) (most : Limits) (w w1 : WorkflowView) (p q now : PassView Entry) → w1 ≡ record w { prepared = true }
    → length w1.sources ≤ w1.frozen → HasMovedFirst o w1.targets p q Level → IsOnward o q now
    → AllByRecursion (λ t. IsWithinRows o most t.0 q now) w1.targets → IsPrefix p.seen q.seen → MayRetireFirst o most w p now
may_retire o most w w1 p q now made all level on fit since = record {
  frozen = subst (λ (v : WorkflowView). length v.sources ≤ v.frozen) made all;
  level = level_later o w.targets p q now on (subst (λ (v : WorkflowView). HasMovedFirst o v.targets p q Level) made level);
  fit =
      within_between o most w.targets q p now now since (prefix_self now.seen)
      (subst (λ (v : WorkflowView). AllByRecursion (λ t. IsWithinRows o most t.0 q now) v.targets) made fit);
}
