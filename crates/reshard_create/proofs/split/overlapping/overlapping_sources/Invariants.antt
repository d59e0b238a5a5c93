use Rattle.std.proofs.Common.{◌≡◌, map, take}
use Rattle.reshard_cutover.specs.Overlapping.{AreThose}
use Rattle.reshard_create.proofs.split.Growing.{SoFar}
use Rattle.reshard_create.proofs.split.overlapping.overlapping_sources.Given as goal

-- those of the sources so far that overlap the range
abbrev pub invariant-loop-source : goal.invariant-loop-source
invariant-loop-source g l = record {
  slots : l.own.slots ≡ map (λ s. s.slot) (map (λ m. m.which) l.own.members.items);
  own : SoFar (map (λ s. s.member.which) l.sources) l.source-index l.range (map (λ m. m.which) l.own.members.items);
  those : AreThose l.range (take l.source-index (map (λ s. s.member.which) l.sources)) (map (λ m. m.which) l.own.members.items);
}
