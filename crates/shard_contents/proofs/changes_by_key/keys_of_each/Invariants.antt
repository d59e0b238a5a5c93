use Rattle.std.proofs.Common.{◌≡◌, ◌∷◌, [], map, take}
use Rattle.shard_contents.proofs.changes_by_key.keys_of_each.Given as goal

abbrev pub invariant-loop-value : goal.invariant-loop-value
invariant-loop-value l = map (λ k. k.values) l.keys.items ≡ map (λ v. v ∷ []) (take l.value-index l.values)
