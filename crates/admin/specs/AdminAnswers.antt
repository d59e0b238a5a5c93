-- What an admin line did, to the workflow and to what the controller's pass has seen, and what answers it.
use Rattle.std.specs.Prelude.{◌≡◌, ℕ, false, List, [], ◌∷◌, ◌++◌, length, map, reverse, codes, Contains, Option, Some, None, IsPermutation, IsSorted}
use Rattle.std.specs.List.{AllByRecursion}
use Rattle.vt_value.specs.declared.refusal.Refusal.TheVariants.{OutOfMemory, ShardFull}
use Rattle.keyrange.specs.declared.KeyRange.{KeyRange}
use Rattle.serving.specs.Partitions.{Seat, IsPartition, AreOf, ranges}
use Rattle.journal.specs.Views.{PassView}
use Rattle.shard_run.specs.declared.Entry.{Entry}
use Rattle.shard_run.specs.Runs.{Opening}
use Rattle.route_engine.specs.Limits.{Limits}
use Rattle.reshard.specs.Step as moves
use Rattle.reshard.specs.declared.workflow.Stage.TheVariants as stages
use Rattle.reshard.specs.declared.cutover.CutoverStep.{CutoverStep}
use Rattle.reshard.specs.declared.cutover.CutoverStep.TheVariants.{Retire}
use Rattle.reshard.specs.declared.finishing.Resumed.{Resumed}
use Rattle.reshard.specs.ReshardFault.{ReshardFault}
use Rattle.reshard.specs.ReshardFault.TheVariants as faults
use Rattle.reshard.specs.Workflows.{WorkflowView}
use Rattle.reshard.specs.Served.{AreServed}
use Rattle.reshard.specs.FirstMoves.{HasMovedFirst, IsMoveRefusal, IsOneStepFirst, IsNoStepFirst, IsFullFirst}
use Rattle.reshard.specs.Begun.{HasBegun, IsCreateRefusal}
use Rattle.reshard.specs.Cutover.{MaySwitch, MayCancel, HasSwitched, DoesNoMore, MayRetireFirst, HasStoppedShort, HasStoppedLater, HasFinished, IsResumed}
use Rattle.reshard.specs.Cutover as cutovers
use Rattle.reshard.specs.Looked.{HasLookedAtEach, HasLookedAtParts}
use Rattle.reshard.specs.Turns.{EachInTurn, HasLookedAt}
use Rattle.reshard.specs.Looks.{HasThawed, IsServingAgain, IsOutOfUse}
use Rattle.vtgate_lines.specs.Partitions.{range_cmp}
use Rattle.vtgate_lines.specs.AdminLines.{IsCreate, AsksFor}
use Rattle.vtgate_lines.specs.declared.admin_lines.AdminLine.TheVariants as lines
use Rattle.admin.specs.declared.reply.AdminReply.{AdminReply}
use Rattle.admin.specs.declared.reply.AdminReply.TheVariants.{Done, Moved, Took, Refused, Status, Unknown}
use Rattle.admin.specs.Words.{status_text}

-- what an administrator has: the workflow of the sharded keyspace, if there is one
abbrev pub AdministratorView : Type 0
AdministratorView = Option WorkflowView

-- which ranges a status tells: if there is a workflow those of the shards that serve then, else those of some partition of the keyspace
pub data AreStatusRanges (w : WorkflowView) (told : List KeyRange) : Type 0 where
  replacing : (w.stage ≡ stages.None → ⊥) → AreServed w told → AreStatusRanges w told
  partition : w.stage ≡ stages.None → (seats : List Seat) → IsPartition seats → AreOf w.keyspace seats → told ≡ ranges seats → AreStatusRanges w told

-- these ranges, in the order of their begins, and the stage
pub record IsStatus (w : WorkflowView) (text : List ℕ) : Type 0 where
  pub listed : List KeyRange
  pub are : AreStatusRanges w listed
  pub serving : List KeyRange
  pub same : IsPermutation listed serving
  pub sorted : IsSorted range_cmp serving
  pub written : text ≡ status_text serving w.stage

pub data TellsStatus (w : WorkflowView) : AdminReply → Type 0 where
  told : {text : List ℕ} → IsStatus w text → TellsStatus w (Status text)
  no_memory : TellsStatus w (Refused (faults.Refused OutOfMemory))

-- no workflow any more, with the slots that are left
abbrev pub HasEnded : WorkflowView → WorkflowView → Type 0
HasEnded w now = now ≡ record w { stage = stages.None; sources = []; targets = []; frozen = 0; retired = 0; served = 0; stored = []; prepared = false; published = false }

-- `create` began a workflow, whose targets have the last of the free slots, one for each, and looked once at each source; or it was refused, and all
-- is as it was.
pub data HasCreated (o : Opening) (from into : List KeyRange) (w now : WorkflowView) (p q : PassView Entry) : AdminReply → Type 0 where
  done : w.stage ≡ stages.None → HasBegun o p q now.sources now.targets w.keyspace from into
      → now ≡ record w {
        stage = stages.Following;
        free = now.free;
        sources = now.sources;
        targets = now.targets;
        frozen = 0;
        retired = 0;
        served = 0;
        stored = now.stored;
        prepared = false;
        published = false;
      }
      → w.free ≡ now.free ++ reverse (map (λ t. t.0.slot) now.targets) → HasLookedAtEach (map (λ s. s.slot) now.sources) p q
      → HasCreated o from into w now p q Done
  refused : {e : ReshardFault} → w.stage ≡ stages.None → IsCreateRefusal o p q w.keyspace (length w.free) from into e
      → HasLookedAtParts o w.keyspace p q → now ≡ w → HasCreated o from into w now p q (Refused e)
  wrong_state : (w.stage ≡ stages.None → ⊥) → now ≡ w → q ≡ p → HasCreated o from into w now p q (Refused faults.WrongState)

-- `step` moved the first target that isn't level, by one step and no more; or it was refused, and appended nothing after its last look.
pub data AnswersStep (o : Opening) (most : Limits) (w now : WorkflowView) (p q : PassView Entry) : AdminReply → Type 0 where
  done : {step : moves.Step} → w.stage ≡ stages.Following → HasMovedFirst o w.targets p q step → IsOneStepFirst w.targets p q step → now ≡ w
      → AnswersStep o most w now p q (Moved step)
  refused : {e : ReshardFault} → w.stage ≡ stages.Following → IsMoveRefusal o most w.targets q e → IsNoStepFirst w.targets p q
      → (e ≡ faults.Refused ShardFull → IsFullFirst o most w.targets p q) → now ≡ w
      → AnswersStep o most w now p q (Refused e)
  wrong_state : (w.stage ≡ stages.Following → ⊥) → now ≡ w → q ≡ p → AnswersStep o most w now p q (Refused faults.WrongState)

-- `switch` took all steps of the cutover, or gave it up.
pub data HasCutOver (o : Opening) (most : Limits) (w now : WorkflowView) (p q : PassView Entry) : AdminReply → Type 0 where
  done : w.stage ≡ stages.Following → HasFinished w now q → (w.retired ≡ 0 → cutovers.HasCutOver o w now p q) → HasCutOver o most w now p q Done
  refused : {e : ReshardFault} → w.stage ≡ stages.Following → HasStoppedLater o most w now p q e → HasCutOver o most w now p q (Refused e)
  wrong_state : (w.stage ≡ stages.Following → ⊥) → now ≡ w → q ≡ p → HasCutOver o most w now p q (Refused faults.WrongState)

-- `advance` took one step of the cutover, and no more, or gave it up.
pub data HasAdvanced (o : Opening) (most : Limits) (w now : WorkflowView) (p q : PassView Entry) : AdminReply → Type 0 where
  done : {step : CutoverStep} → MaySwitch w → HasSwitched o w now p q step → DoesNoMore w p q step
      → (step ≡ Retire → w.retired ≡ 0 → MayRetireFirst o most w p q) → HasAdvanced o most w now p q (Took step)
  refused : {e : ReshardFault} → MaySwitch w → HasStoppedShort o most w now p q e → HasAdvanced o most w now p q (Refused e)
  wrong_state : (MaySwitch w → ⊥) → now ≡ w → q ≡ p → HasAdvanced o most w now p q (Refused faults.WrongState)

-- `resume` undid or ended the cutover that had begun.
pub data HasResumed (o : Opening) (w now : WorkflowView) (p q : PassView Entry) : AdminReply → Type 0 where
  done : (resumed : Resumed) → w.stage ≡ stages.Switching → IsResumed o w now p q resumed → HasResumed o w now p q Done
  wrong_state : (w.stage ≡ stages.Switching → ⊥) → now ≡ w → q ≡ p → HasResumed o w now p q (Refused faults.WrongState)

-- `cancel` gave the workflow up, whose sources serve then: they were thawed one after the other, and none was looked at after its turn.
pub data HasCancelled (o : Opening) (w now : WorkflowView) (p q : PassView Entry) : AdminReply → Type 0 where
  done : MayCancel w → HasEnded w now → AllByRecursion (λ s. IsServingAgain o s p q) w.sources → EachInTurn (HasThawed o) w.sources p q
      → HasCancelled o w now p q Done
  wrong_state : (MayCancel w → ⊥) → now ≡ w → q ≡ p → HasCancelled o w now p q (Refused faults.WrongState)

-- `complete` ended the workflow, whose sources are out of use, and looked once at each of these.
pub data HasCompleted (o : Opening) (w now : WorkflowView) (p q : PassView Entry) : AdminReply → Type 0 where
  done : w.stage ≡ stages.Switched → HasEnded w now → AllByRecursion (λ s. IsOutOfUse o s p q) w.sources
      → HasLookedAt (map (λ s. s.slot) w.sources) p q → HasCompleted o w now p q Done
  wrong_state : (w.stage ≡ stages.Switched → ⊥) → now ≡ w → q ≡ p → HasCompleted o w now p q (Refused faults.WrongState)

-- What the words of a line did over a workflow. If there is no memory to read it, nothing.
pub data IsAnswered (o : Opening) (most : Limits) (words : List ℕ) (w now : WorkflowView) (p q : PassView Entry) : AdminReply → Type 0 where
  unread : now ≡ w → q ≡ p → IsAnswered o most words w now p q (Refused (faults.Refused OutOfMemory))
  status : {reply : AdminReply} → words ≡ codes "status" → now ≡ w → q ≡ p → TellsStatus w reply → IsAnswered o most words w now p q reply
  create : {reply : AdminReply} (from into : List KeyRange) → IsCreate words from into → HasCreated o from into w now p q reply
      → IsAnswered o most words w now p q reply
  step : {reply : AdminReply} → words ≡ codes "step" → AnswersStep o most w now p q reply → IsAnswered o most words w now p q reply
  switch : {reply : AdminReply} → words ≡ codes "switch" → HasCutOver o most w now p q reply → IsAnswered o most words w now p q reply
  advance : {reply : AdminReply} → words ≡ codes "advance" → HasAdvanced o most w now p q reply → IsAnswered o most words w now p q reply
  resume : {reply : AdminReply} → words ≡ codes "resume" → HasResumed o w now p q reply → IsAnswered o most words w now p q reply
  cancel : {reply : AdminReply} → words ≡ codes "cancel" → HasCancelled o w now p q reply → IsAnswered o most words w now p q reply
  complete : {reply : AdminReply} → words ≡ codes "complete" → HasCompleted o w now p q reply → IsAnswered o most words w now p q reply
  unknown : AsksFor words lines.Unknown → now ≡ w → q ≡ p → IsAnswered o most words w now p q Unknown

-- the lines that a workflow is needed for
abbrev pub workflow_words : List (List ℕ)
workflow_words = codes "step" ∷ codes "switch" ∷ codes "advance" ∷ codes "resume" ∷ codes "cancel" ∷ codes "complete" ∷ []

-- What answers the words of a line without a sharded keyspace: no shards serve one, and no source is one of them.
pub data IsAnsweredWithout (words : List ℕ) : AdminReply → Type 0 where
  no_memory : IsAnsweredWithout words (Refused (faults.Refused OutOfMemory))
  status : words ≡ codes "status" → IsAnsweredWithout words (Status (status_text [] stages.None))
  create : (from into : List KeyRange) → IsCreate words from into → IsAnsweredWithout words (Refused faults.WrongSource)
  other : Contains workflow_words words → IsAnsweredWithout words (Refused faults.WrongState)
  unknown : AsksFor words lines.Unknown → IsAnsweredWithout words Unknown

-- what the words of a line did, over the workflow of the sharded keyspace, if there is one
pub data IsAdminReply (o : Opening) (most : Limits) (words : List ℕ) (p q : PassView Entry) (reply : AdminReply) : AdministratorView → AdministratorView → Type 0 where
  over : {w now : WorkflowView} → IsAnswered o most words w now p q reply → IsAdminReply o most words p q reply (Some w) (Some now)
  without : IsAnsweredWithout words reply → q ≡ p → IsAdminReply o most words p q reply None None

-- the keyspace of the workflow
abbrev pub keyspace_of : AdministratorView → Option ℕ
keyspace_of None = None
keyspace_of (Some w) = Some w.keyspace
