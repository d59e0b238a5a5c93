use Rattle.std.proofs.Common.{◌≡◌, take, map}
use Rattle.vschema_json.proofs.twice.texts_of.Given as goal

abbrev pub invariant-loop-name : goal.invariant-loop-name
invariant-loop-name l = map (λ n. n.now) l.texts.items ≡ take l.name-index l.names
