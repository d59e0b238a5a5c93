use Rattle.std.proofs.Common.{◌≡◌, map}
use Rattle.reshard_cutover.proofs.stored.note_retired.Given as goal

-- the shards stay
abbrev pub invariant-loop-at : goal.invariant-loop-at
invariant-loop-at g l = map (λ s. s.member.which) l.sources ≡ map (λ s. s.member.which) l.fn.sources
