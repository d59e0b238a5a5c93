use Rattle.std.proofs.Common.{◌≡◌, take, map}
use Rattle.vschema_json.proofs.indexes.names_of_vindexes.Given as goal

abbrev pub invariant-loop-vindex : goal.invariant-loop-vindex
invariant-loop-vindex l = map (λ n. n.now) l.texts.items ≡ map (λ v. v.name) (take l.vindex-index l.vindexes)
