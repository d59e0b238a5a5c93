-- A cutover goes on to its end.
use Rattle.std.proofs.Common.{◌≡◌, ◌⊎◌, inl, inr, ◌+◌, Bool, true, List, refl, sym, ap, ◌∙◌, subst}
use Rattle.std.specs.Prelude.{IfErr, Result, Ok, Err}
use Rattle.journal.specs.Views.{PassView}
use Rattle.shard_run.specs.declared.ShardRecord.{ShardRecord}
use Rattle.shard_run.specs.declared.Entry.{Entry}
use Rattle.shard_run.specs.Runs.{Opening}
use Rattle.reshard_create.specs.Limits.{Limits}
use Rattle.reshard_create.specs.FollowSteps.{IsOnward}
use Rattle.reshard_create.specs.ReshardFault.{ReshardFault}
use Rattle.reshard_create.specs.ReshardFault.TheVariants.{WrongState}
use Rattle.reshard.specs.declared.workflow.Stage.{Stage}
use Rattle.reshard.specs.declared.workflow.Stage.TheVariants.{None, Switching, Switched}
use Rattle.reshard.specs.declared.cutover.CutoverStep.{CutoverStep}
use Rattle.reshard.specs.declared.cutover.CutoverStep.TheVariants.{Release}
use Rattle.reshard.specs.Workflows.{WorkflowView}
use Rattle.reshard_create.specs.TargetSources.{TargetWithSources}
use Rattle.reshard.specs.Cutover.{IsFurther, HasFinished, HasSwitched, HasSwitchedOn, HasSwitchedToTheEnd, HasStoppedShort, HasStoppedOn, MaySwitch}
use Rattle.reshard_create.specs.Looks.{IsCutOver, slots_of_both}
use Rattle.reshard_create.specs.Turns.{HasLookedAt}
use Rattle.reshard.specs.Cutover as cut

pub further_still : (w : WorkflowView) → IsFurther w w
further_still w = refl

pub further_trans : (a b c : WorkflowView) → IsFurther a b → IsFurther b c → IsFurther a c
further_trans a b c ab bc =
    bc ∙ ap (λ (w : WorkflowView). record w { stage = c.stage; frozen = c.frozen; retired = c.retired; served = c.served; stored = c.stored; prepared = c.prepared; published = c.published }) ab

module _ (o : Opening) (w now : WorkflowView) (p q : PassView Entry) where
  from : (v : WorkflowView) → now ≡ v → IsFurther w v → IsFurther w now
  from v is h = subst (λ (x : WorkflowView). IsFurther w x) (sym is) h

  pub further_switched : (step : CutoverStep) → HasSwitched o w now p q step → IsFurther w now
  further_switched _ (cut.froze s at is n e) = from (record w { stage = Switching; frozen = w.frozen + 1; stored = now.stored; prepared = true }) e refl
  further_switched _ (cut.copied f m e) = from (record w { prepared = true }) e refl
  further_switched _ (cut.followed f m e) = from (record w { prepared = true }) e refl
  further_switched _ (cut.retired s at is e) = from (record w { retired = w.retired + 1; prepared = true }) e refl
  further_switched _ (cut.served t at l is e) = from (record w { served = w.served + 1; prepared = true }) e refl
  further_switched _ (cut.published u a b e) = from (record w { prepared = true; published = true }) e refl
  further_switched _ (cut.released u a b e) = from (record w { stage = Switched; prepared = true }) e refl

  pub switched_at_end : (step : CutoverStep) → HasSwitched o w now p q step → step ≡ Release → now.stage ≡ Switched
  switched_at_end _ (cut.froze s at is n e) r = absurd (cc r)
  switched_at_end _ (cut.copied f m e) r = absurd (cc r)
  switched_at_end _ (cut.followed f m e) r = absurd (cc r)
  switched_at_end _ (cut.retired s at is e) r = absurd (cc r)
  switched_at_end _ (cut.served t at l is e) r = absurd (cc r)
  switched_at_end _ (cut.published u a b e) r = absurd (cc r)
  switched_at_end _ (cut.released u a b e) r = ap (λ (v : WorkflowView). v.stage) e

  pub published_at_end : (step : CutoverStep) → HasSwitched o w now p q step → step ≡ Release → now.published ≡ true
  published_at_end _ (cut.froze s at is n e) r = absurd (cc r)
  published_at_end _ (cut.copied f m e) r = absurd (cc r)
  published_at_end _ (cut.followed f m e) r = absurd (cc r)
  published_at_end _ (cut.retired s at is e) r = absurd (cc r)
  published_at_end _ (cut.served t at l is e) r = absurd (cc r)
  published_at_end _ (cut.published u a b e) r = absurd (cc r)
  published_at_end _ (cut.released u a b e) r = ap (λ (v : WorkflowView). v.published) e ∙ u

  stage_of : (v : WorkflowView) → now ≡ v → now.stage ≡ v.stage
  stage_of v is = ap (λ (x : WorkflowView). x.stage) is

  pub begun_still : (step : CutoverStep) → HasSwitched o w now p q step → (w.stage ≡ None → ⊥) → now.stage ≡ None → ⊥
  begun_still _ (cut.froze s at is c e) h n = let x : Switching ≡ None = sym (ap (λ (v : WorkflowView). v.stage) e) ∙ n in absurd (cc x)
  begun_still _ (cut.copied f m e) h n = h (sym (stage_of (record w { prepared = true }) e) ∙ n)
  begun_still _ (cut.followed f m e) h n = h (sym (stage_of (record w { prepared = true }) e) ∙ n)
  begun_still _ (cut.retired s at is e) h n = h (sym (stage_of (record w { retired = w.retired + 1; prepared = true }) e) ∙ n)
  begun_still _ (cut.served t at l is e) h n = h (sym (stage_of (record w { served = w.served + 1; prepared = true }) e) ∙ n)
  begun_still _ (cut.published u a b e) h n = h (sym (stage_of (record w { prepared = true; published = true }) e) ∙ n)
  begun_still _ (cut.released u a b e) h n = let x : Switched ≡ None = sym (ap (λ (v : WorkflowView). v.stage) e) ∙ n in absurd (cc x)

  kept : (v : WorkflowView) → now ≡ v → v.stage ≡ w.stage → MaySwitch w → MaySwitch now
  kept v is same (inl h) = inl (stage_of v is ∙ same ∙ h)
  kept v is same (inr h) = inr (stage_of v is ∙ same ∙ h)

  -- a cutover that isn't at its end may go on
  pub may_still : (step : CutoverStep) → HasSwitched o w now p q step → (step ≡ Release → ⊥) → MaySwitch w → MaySwitch now
  may_still _ (cut.froze s at is n e) r m = inr (ap (λ (v : WorkflowView). v.stage) e)
  may_still _ (cut.copied f h e) r m = kept (record w { prepared = true }) e refl m
  may_still _ (cut.followed f h e) r m = kept (record w { prepared = true }) e refl m
  may_still _ (cut.retired s at is e) r m = kept (record w { retired = w.retired + 1; prepared = true }) e refl m
  may_still _ (cut.served t at l is e) r m = kept (record w { served = w.served + 1; prepared = true }) e refl m
  may_still _ (cut.published u a b e) r m = kept (record w { prepared = true; published = true }) e refl m
  may_still _ (cut.released u a b e) r m = absurd (r refl)

pub finished : (w now : WorkflowView) (q : PassView Entry) → IsFurther w now → now.stage ≡ Switched → now.published ≡ true → (sources : List ShardRecord) (targets : List TargetWithSources)
    → sources ≡ now.sources → targets ≡ now.targets → IsCutOver q.seen sources targets → HasFinished w now q
finished w now q far end out sources targets s t through = record {
  through =
      subst (λ (l : List TargetWithSources). IsCutOver q.seen w.sources l) (t ∙ ap (λ (v : WorkflowView). v.targets) far)
      (subst (λ (l : List ShardRecord). IsCutOver q.seen l targets) (s ∙ ap (λ (v : WorkflowView). v.sources) far) through);
  at =
      far
      ∙ ap (λ (x : Stage). record w { stage = x; frozen = now.frozen; retired = now.retired; served = now.served; stored = now.stored; prepared = now.prepared; published = now.published }) end
      ∙ ap (λ (b : Bool). record w { stage = Switched; frozen = now.frozen; retired = now.retired; served = now.served; stored = now.stored; prepared = now.prepared; published = b }) out;
}

-- all steps of a cutover, and the looks after them
pub through : (o : Opening) (w now : WorkflowView) (p last q : PassView Entry) → IsFurther w now → HasSwitchedOn o w p now last → (sources : List ShardRecord)
    (targets : List TargetWithSources) → sources ≡ now.sources → targets ≡ now.targets → IsOnward o last q → HasLookedAt (slots_of_both sources targets) last q
    → HasSwitchedToTheEnd o w now p q
through o w now p last q far steps sources targets s t after looked = record {
  last = last;
  steps = steps;
  after = after;
  looked =
      subst (λ (l : List TargetWithSources). HasLookedAt (slots_of_both w.sources l) last q) (t ∙ ap (λ (v : WorkflowView). v.targets) far)
      (subst (λ (l : List ShardRecord). HasLookedAt (slots_of_both l targets) last q) (s ∙ ap (λ (v : WorkflowView). v.sources) far) looked);
}

-- a refusal in a step of a cutover that had gone on
pub refused_later : (o : Opening) (most : Limits) (w mid now : WorkflowView) (p before q : PassView Entry) (e : ReshardFault) → IsFurther w mid
    → MaySwitch mid → HasSwitchedOn o w p mid before → IsOnward o p before
    → ((e ≡ WrongState) × (MaySwitch mid → ⊥) × (now ≡ mid) × (q ≡ before)) ⊎ (MaySwitch mid × HasStoppedShort o most mid now before q e)
    → HasStoppedOn o most w now p q e
refused_later o most w mid now p before q e far may steps on (inl h) = absurd (h.1 may)
refused_later o most w mid now p before q e far may steps on (inr h) =
    record { mid = mid; further = far; before = before; steps = steps; onward = on; stopped = h.1 }

pub err_as : {X E : Type 0} (r : Result X E) (A B : E → Type 0) → ((e : E) → A e → B e) → IfErr r A → IfErr r B
err_as (Ok x) A B f is = is
err_as (Err e) A B f is = f e is
