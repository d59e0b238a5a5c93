use Rattle.std.proofs.Common.{◌≡◌, ◌∷◌, drop, MatchOption}
use Rattle.shard_calls.specs.Answers.{needed}
use Rattle.shard_calls.proofs.parts.only_needed.Given as goal

-- what was found, with those still to come, are all
abbrev pub invariant-loop-part : goal.invariant-loop-part
invariant-loop-part g l =
    MatchOption l.found
    (needed l.table l.route (drop l.part-index l.parts)
    ≡ needed l.table l.route l.parts)
    (λ found. found.now ∷ needed l.table l.route (drop l.part-index l.parts)
    ≡ needed l.table l.route l.parts)
