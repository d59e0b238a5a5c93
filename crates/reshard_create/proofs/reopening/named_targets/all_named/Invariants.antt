use Rattle.std.proofs.Common.{map, take}
use Rattle.std.specs.List.{AllByRecursion}
use Rattle.reshard_create.specs.reopening.Rebuilt.{NamedThose}
use Rattle.reshard_create.proofs.reopening.named_targets.all_named.Given as goal

-- the sources so far named them
abbrev pub invariant-loop-source : goal.invariant-loop-source
invariant-loop-source g l =
    AllByRecursion (λ s. NamedThose (map (λ f. f.member.which) l.targets) (s.member.which, s.mode, s.named)) (take l.source-index l.sources)
