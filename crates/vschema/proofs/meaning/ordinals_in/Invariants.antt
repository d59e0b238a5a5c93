use Rattle.std.proofs.Common.{◌≡◌, take, map}
use Rattle.vschema.specs.Meant.{ordinal_in}
use Rattle.vschema.proofs.meaning.ordinals_in.Given as goal

abbrev pub invariant-loop-name : goal.invariant-loop-name
invariant-loop-name l = l.ordinals ≡ map (ordinal_in l.table) (take l.name-index l.names)
