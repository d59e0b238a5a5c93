use Rattle.std.proofs.Common.{refl}
use Rattle.std.proofs.Math.Seq.{map-set_same}
use Rattle.std.proofs.lemmas.List.{map-set}
use Rattle.reshard_cutover.proofs.stored.note_stored.Goals as goal

pub returns-clause-shards : goal.returns-clause-shards
returns-clause-shards g c = map-set_same (λ s. s.member.which) c.args.sources.now c.args.at _ c.index-sources-at.result refl

pub returns-clause-stored : goal.returns-clause-stored
returns-clause-stored g c = map-set (λ s. s.stored) c.args.sources.now c.args.at _
