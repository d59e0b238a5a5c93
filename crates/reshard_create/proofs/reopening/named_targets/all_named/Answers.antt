use Rattle.std.proofs.Common.{map}
use Rattle.reshard_cutover.proofs.Retiring.{item_of, map_at}
use Rattle.reshard_create.proofs.split.Lists.{whole}
use Rattle.reshard_create.specs.reopening.Rebuilt.{FoundView, NamedThose}
use Rattle.reshard_create.proofs.reopening.Names.{all_next}
use Rattle.reshard_create.proofs.reopening.Taken.{all_remap}
use Rattle.reshard_create.proofs.reopening.named_targets.all_named.Goals as goal

pub loop-source-preserved : goal.loop-source-preserved
loop-source-preserved g c =
    all_next (λ s. NamedThose (map (λ f. f.member.which) c.args.targets.now) (s.member.which, s.mode, s.named)) c.args.sources.now c.loop-source.source-index
    c.source-item.result c.loop-source-test.true c.source-item.is c.loop-source.invariant (c.named_those.ensures.yes c.if-not-named_those.false)

pub returns-then-not-named_those-clause-no : goal.returns-then-not-named_those-clause-no
returns-then-not-named_those-clause-no g c e all =
    let w = map_at {Y = FoundView} (λ f. (f.member.which, f.mode, f.named)) c.args.sources.now c.loop-source.source-index c.source-item.result c.loop-source-test.true
    c.source-item.is in
    let s = c.source-item.result in
    c.named_those.ensures.no c.if-not-named_those.true
    (item_of (NamedThose (map (λ f. f.member.which) c.args.targets.now)) (map (λ f. (f.member.which, f.mode, f.named)) c.args.sources.now)
    c.loop-source.source-index (s.member.which, s.mode, s.named) w.0 w.1 all)

pub returns-clause-yes : goal.returns-clause-yes
returns-clause-yes g c e =
    all_remap (NamedThose (map (λ f. f.member.which) c.args.targets.now)) (λ f. (f.member.which, f.mode, f.named)) c.args.sources.now
    (whole (λ s. NamedThose (map (λ f. f.member.which) c.args.targets.now) (s.member.which, s.mode, s.named)) c.loop-source.source-index c.args.sources.now
    c.loop-source-test.false c.loop-source.invariant)
