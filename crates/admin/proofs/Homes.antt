-- The keyspace of a workflow stays.
use Rattle.std.proofs.Common.{◌≡◌, ℕ, List, ap, ◌∙◌}
use Rattle.keyrange.specs.declared.KeyRange.{KeyRange}
use Rattle.journal.specs.Views.{PassView}
use Rattle.shard_run.specs.declared.Entry.{Entry}
use Rattle.shard_run.specs.Runs.{Opening}
use Rattle.route_engine.specs.Limits.{Limits}
use Rattle.reshard.specs.declared.cutover.CutoverStep.{CutoverStep}
use Rattle.reshard.specs.declared.finishing.Resumed.{Resumed}
use Rattle.reshard.specs.Workflows.{WorkflowView}
use Rattle.reshard.specs.ReshardFault.{ReshardFault}
use Rattle.reshard.specs.Cutover.{HasSwitched, HasStoppedShort, HasStoppedLater, IsResumed}
use Rattle.reshard.specs.Cutover as cutover
use Rattle.admin.specs.declared.reply.AdminReply.{AdminReply}
use Rattle.admin.specs.AdminAnswers.{IsAnswered, HasCreated, AnswersStep, HasCutOver, HasAdvanced, HasResumed, HasCancelled, HasCompleted}
use Rattle.admin.specs.AdminAnswers as told

same : (w now : WorkflowView) → now ≡ w → now.keyspace ≡ w.keyspace
same w now is = ap (λ (x : WorkflowView). x.keyspace) is

module _ (o : Opening) (most : Limits) (w now : WorkflowView) (p q : PassView Entry) where
  of_step : (step : CutoverStep) → HasSwitched o w now p q step → now.keyspace ≡ w.keyspace
  of_step step (cutover.froze s at done count is) = ap (λ (x : WorkflowView). x.keyspace) is
  of_step step (cutover.copied all moved is) = ap (λ (x : WorkflowView). x.keyspace) is
  of_step step (cutover.followed all moved is) = ap (λ (x : WorkflowView). x.keyspace) is
  of_step step (cutover.retired s at done is) = ap (λ (x : WorkflowView). x.keyspace) is
  of_step step (cutover.served t at all done is) = ap (λ (x : WorkflowView). x.keyspace) is
  of_step step (cutover.published not all served is) = ap (λ (x : WorkflowView). x.keyspace) is
  of_step step (cutover.released was all served is) = ap (λ (x : WorkflowView). x.keyspace) is

  of_short : (e : ReshardFault) (before : PassView Entry) (mid : WorkflowView) → HasStoppedShort o most mid now before q e → now.keyspace ≡ mid.keyspace
  of_short e before mid h = ap (λ (x : WorkflowView). x.keyspace) h.stopped.given_up.at

  of_stopped : (e : ReshardFault) → HasStoppedLater o most w now p q e → now.keyspace ≡ w.keyspace
  of_stopped e (cutover.while_coming h until) = ap (λ (x : WorkflowView). x.keyspace) h.given_up.at
  of_stopped e (cutover.at_step near come onward h) = of_short e h.before h.mid h.stopped ∙ ap (λ (x : WorkflowView). x.keyspace) h.further

  of_resumed : (r : Resumed) → IsResumed o w now p q r → now.keyspace ≡ w.keyspace
  of_resumed r (cutover.thawed h) = ap (λ (x : WorkflowView). x.keyspace) h.at
  of_resumed r (cutover.finished n h steps) = ap (λ (x : WorkflowView). x.keyspace) h.at

  of_create : (from into : List KeyRange) (reply : AdminReply) → HasCreated o from into w now p q reply → now.keyspace ≡ w.keyspace
  of_create from into reply (told.done was begun is taken looked) = ap (λ (x : WorkflowView). x.keyspace) is
  of_create from into reply (told.refused was why looked is) = same w now is
  of_create from into reply (told.wrong_state not is still) = same w now is

  of_move : (reply : AdminReply) → AnswersStep o most w now p q reply → now.keyspace ≡ w.keyspace
  of_move reply (told.done was moved once is) = same w now is
  of_move reply (told.refused was why none full is) = same w now is
  of_move reply (told.wrong_state not is still) = same w now is

  of_switch : (reply : AdminReply) → HasCutOver o most w now p q reply → now.keyspace ≡ w.keyspace
  of_switch reply (told.done was h steps) = ap (λ (x : WorkflowView). x.keyspace) h.at
  of_switch reply (told.refused {e = e} was h) = of_stopped e h
  of_switch reply (told.wrong_state not is still) = same w now is

  of_advance : (reply : AdminReply) → HasAdvanced o most w now p q reply → now.keyspace ≡ w.keyspace
  of_advance reply (told.done {step = step} was h once ready) = of_step step h
  of_advance reply (told.refused {e = e} was h) = of_short e p w h
  of_advance reply (told.wrong_state not is still) = same w now is

  of_resume : (reply : AdminReply) → HasResumed o w now p q reply → now.keyspace ≡ w.keyspace
  of_resume reply (told.done r was h) = of_resumed r h
  of_resume reply (told.wrong_state not is still) = same w now is

  of_cancel : (reply : AdminReply) → HasCancelled o w now p q reply → now.keyspace ≡ w.keyspace
  of_cancel reply (told.done may is serve thawed) = ap (λ (x : WorkflowView). x.keyspace) is
  of_cancel reply (told.wrong_state not is still) = same w now is

  of_complete : (reply : AdminReply) → HasCompleted o w now p q reply → now.keyspace ≡ w.keyspace
  of_complete reply (told.done was is out looked) = ap (λ (x : WorkflowView). x.keyspace) is
  of_complete reply (told.wrong_state not is still) = same w now is

  pub keyspace_stays : (words : List ℕ) (reply : AdminReply) → IsAnswered o most words w now p q reply → now.keyspace ≡ w.keyspace
  keyspace_stays words reply (told.unread is still) = same w now is
  keyspace_stays words reply (told.status asks is still tells) = same w now is
  keyspace_stays words reply (told.create from into asks h) = of_create from into reply h
  keyspace_stays words reply (told.step asks h) = of_move reply h
  keyspace_stays words reply (told.switch asks h) = of_switch reply h
  keyspace_stays words reply (told.advance asks h) = of_advance reply h
  keyspace_stays words reply (told.resume asks h) = of_resume reply h
  keyspace_stays words reply (told.cancel asks h) = of_cancel reply h
  keyspace_stays words reply (told.complete asks h) = of_complete reply h
  keyspace_stays words reply (told.unknown asks is still) = same w now is
