use Rattle.std.proofs.Common.{[], ◌∷◌, map, subst}
use Rattle.std.specs.Prelude.{Contains}
use Rattle.std.specs.List.{AllByRecursion}
use Rattle.reshard_create.specs.ReshardFault.TheVariants.{Refused}
use Rattle.reshard_create.specs.TargetSources.{TargetWithSources}
use Rattle.reshard_create.specs.Turns as turns
use Rattle.reshard_create.proofs.Retiring.{item_of, map_at}
use Rattle.reshard_create.proofs.Onward.{still, onward_trans}
use Rattle.reshard_create.proofs.Residual.{residual_same}
use Rattle.reshard.specs.Cutover.{HasMovedOn, HaveCome, HasCopiedAllOf}
use Rattle.reshard.proofs.AllCopied.{among, refused_one, copied_next, turn_next, come_until, all_of}
use Rattle.reshard.proofs.Switches.{on_refusal}
use Rattle.reshard.proofs.copying.copy_all.Goals as goal

pub loop-target-init : goal.loop-target-init
loop-target-init g c =
    record { onward = still g.W.World.opening c.args.pass.now c.requires.legal; copied = tt; come = turns.none }

pub copy_from_sources-requires-clause-own : goal.copy_from_sources-requires-clause-own
copy_from_sources-requires-clause-own g c =
    let t = c.target-item.result in
    let m =
    map_at (λ t. (t.member.which, map (λ s. s.which) t.sources.items)) c.args.targets.now c.loop-target.target-index t c.loop-target-test.true c.target-item.is in (
      item_of (λ (t : TargetWithSources). AllByRecursion (λ s. Contains t.0.sources s.slot) t.1) (map (λ t. (t.member.which, map (λ s. s.which) t.sources.items)) c.args.targets.now)
          c.loop-target.target-index (t.member.which, map (λ s. s.which) t.sources.items) m.0 m.1 c.requires.own,
      tt,
    )

pub returns-in_err-copy_from_sources-clause-refused : goal.returns-in_err-copy_from_sources-clause-refused
returns-in_err-copy_from_sources-clause-refused g c =
    let t = c.target-item.result in
    residual_same c.from_residual.result c.in_err-copy_from_sources.field-0.0 _ c.from_residual.ensures.1
    (refused_one g.W.World.opening g.W.World.limits (map (λ t. (t.member.which, map (λ s. s.which) t.sources.items)) c.args.targets.now)
    (t.member.which, map (λ s. s.which) t.sources.items) c.copy_from_sources.new.pass (Refused c.in_err-copy_from_sources.field-0.0)
    (among (λ t. (t.member.which, map (λ s. s.which) t.sources.items)) c.args.targets.now c.loop-target.target-index t c.loop-target-test.true c.target-item.is)
    c.in_err-copy_from_sources.ensures.refused)

pub loop-target-preserved : goal.loop-target-preserved
loop-target-preserved g c =
    let t = c.target-item.result in
    let o = g.W.World.opening in
    let q = c.loop-target.pass in
    let now = c.copy_from_sources.new.pass in
    record {
      onward = onward_trans o c.args.pass.now q now c.loop-target.invariant.onward c.copy_from_sources.ensures.onward;
      copied =
          copied_next (λ t. (t.member.which, map (λ s. s.which) t.sources.items)) c.args.targets.now c.loop-target.target-index t c.loop-target-test.true
          c.target-item.is o c.args.pass.now q now c.loop-target.invariant.onward c.copy_from_sources.ensures.onward
          c.in_ok-copy_from_sources.ensures.copied c.loop-target.invariant.copied;
      come =
          turn_next (λ t. (t.member.which, map (λ s. s.which) t.sources.items)) c.args.targets.now c.loop-target.target-index t c.loop-target-test.true
          c.target-item.is (λ (t : TargetWithSources). HasMovedOn (t ∷ [])) c.args.pass.now q now c.loop-target.invariant.come
          c.in_ok-copy_from_sources.ensures.come;
    }

pub returns-clause-copied : goal.returns-clause-copied
returns-clause-copied g c =
    subst (λ l. AllByRecursion (HasCopiedAllOf g.W.World.opening c.args.pass.now c.loop-target.pass)
    (map {B = TargetWithSources} (λ t. (t.member.which, map (λ s. s.which) t.sources.items)) l))
    (all_of c.args.targets.now c.loop-target.target-index c.loop-target-test.false) c.loop-target.invariant.copied

pub returns-clause-come : goal.returns-clause-come
returns-clause-come g c =
    subst (λ l. HaveCome (map (λ t. (t.member.which, map (λ s. s.which) t.sources.items)) l) c.args.pass.now c.loop-target.pass)
    (all_of c.args.targets.now c.loop-target.target-index c.loop-target-test.false) c.loop-target.invariant.come

pub returns-in_err-copy_from_sources-clause-until : goal.returns-in_err-copy_from_sources-clause-until
returns-in_err-copy_from_sources-clause-until g c =
    on_refusal c.from_residual.result _
    (come_until (λ t. (t.member.which, map (λ s. s.which) t.sources.items)) c.args.targets.now c.loop-target.target-index c.target-item.result
    c.loop-target-test.true c.target-item.is c.args.pass.now c.loop-target.pass c.copy_from_sources.new.pass c.loop-target.invariant.come
    c.in_err-copy_from_sources.ensures.until)
