use Rattle.std.proofs.Common.{◌≡◌, replicate, take}
use Rattle.reshard_create.proofs.reopening.cutover_progress.leading.Given as goal

-- all so far have it
abbrev pub invariant-loop-place : goal.invariant-loop-place
invariant-loop-place l = take l.place l.modes ≡ replicate l.place l.mode
