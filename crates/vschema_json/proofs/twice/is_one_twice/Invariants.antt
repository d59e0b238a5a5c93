use Rattle.std.proofs.Common.{◌≡◌, ℕ, List, map, drop, false, bytes_eq, nat_cmp}
use Rattle.std.specs.List.{list_any}
use Rattle.std.specs.Cmp.Lexicographic.{slice_cmp}
use Rattle.std.specs.BTreeSet.{contains}
use Rattle.vschema_json.specs.Twice.{has_twice}
use Rattle.vschema_json.proofs.twice.is_one_twice.Given as goal
use denote.Ref.{Bor}

-- the set has the names that come after, of which none is twice
abbrev pub invariant-loop-i : goal.invariant-loop-i
invariant-loop-i l = record {
  known : (q : Bor (List ℕ)) → contains (λ x y. slice_cmp nat_cmp x.now y.now) l.later q ≡ list_any (bytes_eq q.now) (map (λ n. n.now) (drop l.i l.names));
  once : has_twice (map (λ n. n.now) (drop l.i l.names)) ≡ false;
}
