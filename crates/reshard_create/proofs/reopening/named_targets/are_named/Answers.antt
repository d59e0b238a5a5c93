use Rattle.std.proofs.Common.{map}
use Rattle.std.specs.Prelude.{Contains, IsTrue}
use Rattle.reshard_cutover.specs.Steps.{has_source}
use Rattle.reshard_cutover.proofs.Retiring.{item_of, map_at}
use Rattle.reshard_create.proofs.split.Lists.{whole}
use Rattle.reshard_create.proofs.reopening.Names.{all_next}
use Rattle.reshard_create.proofs.reopening.Taken.{all_remap}
use Rattle.reshard_create.proofs.reopening.named_targets.are_named.Goals as goal

pub loop-target-preserved : goal.loop-target-preserved
loop-target-preserved g c =
    all_next (λ f. IsTrue (has_source c.args.slot f.member.which) → Contains c.args.named.now f.member.which) c.args.targets.now c.loop-target.target-index
    c.target-item.result c.loop-target-test.true c.target-item.is c.loop-target.invariant (c.is_named.ensures.yes c.if-not-is_named.false)

pub returns-then-not-is_named-clause-no : goal.returns-then-not-is_named-clause-no
returns-then-not-is_named-clause-no g c e all =
    let w = map_at (λ f. f.member.which) c.args.targets.now c.loop-target.target-index c.target-item.result c.loop-target-test.true c.target-item.is in
    c.is_named.ensures.no c.if-not-is_named.true
    (item_of (λ t. IsTrue (has_source c.args.slot t) → Contains c.args.named.now t) (map (λ f. f.member.which) c.args.targets.now) c.loop-target.target-index
    c.target-item.result.member.which w.0 w.1 all)

pub returns-clause-yes : goal.returns-clause-yes
returns-clause-yes g c e =
    all_remap (λ t. IsTrue (has_source c.args.slot t) → Contains c.args.named.now t) (λ f. f.member.which) c.args.targets.now
    (whole (λ f. IsTrue (has_source c.args.slot f.member.which) → Contains c.args.named.now f.member.which) c.loop-target.target-index c.args.targets.now
    c.loop-target-test.false c.loop-target.invariant)
