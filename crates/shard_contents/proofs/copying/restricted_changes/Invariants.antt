use Rattle.std.proofs.Common.{◌≡◌, take}
use Rattle.vschema.specs.Database.{restricted_changes}
use Rattle.shard_contents.proofs.copying.restricted_changes.Given as goal

abbrev pub invariant-loop-change : goal.invariant-loop-change
invariant-loop-change l = l.kept ≡ restricted_changes l.schema l.place (take l.change-index l.changes)
