use Rattle.std.proofs.Common.{◌≡◌, ℕ, List, map, drop, bytes_eq}
use Rattle.vschema_json.specs.Places.{ordinal_from}
use Rattle.vschema_json.specs.inner.NameOrdinals.{first_in}
use Rattle.vschema_json.proofs.name_ordinals.first_ordinals.Given as goal
use denote.Ref.{Bor}

-- where a text stands first from this place on
abbrev pub invariant-loop-i : goal.invariant-loop-i
invariant-loop-i l = (q : Bor (List ℕ)) → first_in l.ordinals q ≡ ordinal_from (λ n. bytes_eq n q.now) l.i (map (λ n. n.now) (drop l.i l.names))
