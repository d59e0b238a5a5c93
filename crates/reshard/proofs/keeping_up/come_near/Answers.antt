use Rattle.std.proofs.lemmas.Result.{on_ok_weaker}
use Rattle.reshard_create.proofs.Onward.{onward_trans}
use Rattle.reshard_create.proofs.Residual.{residual_same}
use Rattle.reshard.specs.Cutover as cut
use Rattle.reshard.proofs.Switches.{on_refusal, refusal_weaker}
use Rattle.reshard.proofs.keeping_up.come_near.Goals as goal

pub returns-in_err-copy_all-clause-refused : goal.returns-in_err-copy_all-clause-refused
returns-in_err-copy_all-clause-refused g c =
    residual_same c.from_residual.result c.in_err-copy_all.field-0.0 _ c.from_residual.ensures.1 c.in_err-copy_all.ensures.refused

pub returns-clause-near : goal.returns-clause-near
returns-clause-near g c =
    on_ok_weaker c.come_level.result
    (λ further. record {
      at = c.copy_all.new.pass;
      come = c.in_ok-copy_all.ensures.come;
      copied = c.in_ok-copy_all.ensures.copied;
      further = further;
    }) c.come_level.ensures.further

pub returns-clause-onward : goal.returns-clause-onward
returns-clause-onward g c =
    onward_trans g.W.World.opening c.args.pass.now c.copy_all.new.pass c.come_level.new.pass c.copy_all.ensures.onward c.come_level.ensures.onward

pub returns-in_err-copy_all-clause-until : goal.returns-in_err-copy_all-clause-until
returns-in_err-copy_all-clause-until g c = on_refusal c.from_residual.result _ c.in_err-copy_all.ensures.until

pub returns-clause-until : goal.returns-clause-until
returns-clause-until g c =
    refusal_weaker c.come_level.result _ _ (λ h. cut.further c.copy_all.new.pass c.in_ok-copy_all.ensures.come h) c.come_level.ensures.until
