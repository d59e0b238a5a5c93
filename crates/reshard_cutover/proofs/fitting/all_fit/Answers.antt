use Rattle.std.proofs.Common.{map, refl, sym, subst}
use Rattle.journal.proofs.Fronts.{prefix_self}
use Rattle.reshard_cutover.proofs.Onward.{still, onward_trans}
use Rattle.reshard_cutover.proofs.Thaws.{within_next, look_next_of, looked_along}
use Rattle.reshard_cutover.specs.TargetSources.{TargetWithSources}
use Rattle.follow.specs.Turns.{HasLookedAt}
use Rattle.follow.proofs.Turns.{unlooked}
use Rattle.reshard_cutover.specs.Looks.{IsWithinRows}
use Rattle.shard_contents.proofs.Progress.{take_whole}
use Rattle.std.specs.List.{AllByRecursion}
use Rattle.reshard_cutover.proofs.Retiring.{map_at}
use Rattle.reshard_cutover.proofs.fitting.all_fit.Goals as goal

pub returns-then-not-fits-clause-many : goal.returns-then-not-fits-clause-many
returns-then-not-fits-clause-many g c e =
    let t = c.target-item.result in
    let now = c.fits.new.pass in
    let m =
    map_at (λ t. (t.member.which, map (λ s. s.which) t.sources.items)) c.args.targets.now c.loop-target.target-index t c.loop-target-test.true c.target-item.is in (
      (t.member.which, map (λ s. s.which) t.sources.items),
      (c.loop-target.target-index, m.0, sym m.1),
      record {
        run = now.seen;
        between = record {
          since =
              (onward_trans g.W.World.opening c.args.pass.now c.loop-target.pass now c.loop-target.invariant.onward c.fits.ensures.onward).later;
          until = prefix_self now.seen;
        };
        many = c.fits.ensures.many c.if-not-fits.true;
      },
    )

pub returns-then-not-fits-clause-onward : goal.returns-then-not-fits-clause-onward
returns-then-not-fits-clause-onward g c =
    onward_trans g.W.World.opening c.args.pass.now c.loop-target.pass c.fits.new.pass c.loop-target.invariant.onward c.fits.ensures.onward

pub loop-target-init : goal.loop-target-init
loop-target-init g c = record { onward = still g.W.World.opening c.args.pass.now c.requires.legal; few = tt; looked = unlooked c.args.pass.now c.args.pass.now refl }

pub loop-target-preserved : goal.loop-target-preserved
loop-target-preserved g c =
    let o = g.W.World.opening in
    let p = c.args.pass.now in
    record {
      onward = onward_trans o p c.loop-target.pass c.fits.new.pass c.loop-target.invariant.onward c.fits.ensures.onward;
      few =
          within_next (λ t. (t.member.which, map (λ s. s.which) t.sources.items)) o g.W.World.limits p c.loop-target.pass c.fits.new.pass
          c.args.targets.now c.loop-target.target-index c.target-item.result c.loop-target-test.true c.target-item.is c.loop-target.invariant.onward
          c.fits.ensures.onward (c.fits.ensures.few c.if-not-fits.false) c.loop-target.invariant.few;
      looked =
          look_next_of (λ t. (t.member.which, map (λ s. s.which) t.sources.items)) (λ (t : TargetWithSources). t.0.slot) c.args.targets.now c.loop-target.target-index
          c.target-item.result c.loop-target-test.true c.target-item.is p c.loop-target.pass c.fits.new.pass c.loop-target.invariant.looked c.fits.ensures.looked;
    }

pub returns-clause-onward : goal.returns-clause-onward
returns-clause-onward g c = c.loop-target.invariant.onward

pub returns-clause-few : goal.returns-clause-few
returns-clause-few g c e =
    subst (λ l. AllByRecursion (λ t. IsWithinRows g.W.World.opening g.W.World.limits t.0 c.args.pass.now c.loop-target.pass)
    (map {B = TargetWithSources} (λ t. (t.member.which, map (λ s. s.which) t.sources.items)) l))
    (take_whole c.loop-target.target-index c.args.targets.now c.loop-target-test.false) c.loop-target.invariant.few

pub returns-clause-looked : goal.returns-clause-looked
returns-clause-looked g c e =
    subst (λ l. HasLookedAt (map (λ (t : TargetWithSources). t.0.slot) (map {B = TargetWithSources} (λ t. (t.member.which, map (λ s. s.which) t.sources.items)) l))
    c.args.pass.now c.loop-target.pass) (take_whole c.loop-target.target-index c.args.targets.now c.loop-target-test.false) c.loop-target.invariant.looked

pub returns-then-not-fits-clause-short : goal.returns-then-not-fits-clause-short
returns-then-not-fits-clause-short g c e =
    looked_along (λ t. (t.member.which, map (λ s. s.which) t.sources.items)) (λ (t : TargetWithSources). t.0.slot) c.args.targets.now c.loop-target.target-index
    c.target-item.result c.loop-target-test.true c.target-item.is c.args.pass.now c.loop-target.pass c.fits.new.pass c.loop-target.invariant.looked c.fits.ensures.looked
    c.fits.ensures.ends
