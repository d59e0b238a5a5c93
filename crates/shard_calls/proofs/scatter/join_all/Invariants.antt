use Rattle.std.proofs.Common.{map, reverse, length, ◌≡◌}
use Rattle.std.specs.Vec.Iter.{into_iter_items, into_iter_len}
use Rattle.shard_calls.proofs.Gathers.{Gathers}
use Rattle.shard_calls.proofs.scatter.join_all.Given as goal

-- the readings so far are joined into the pass
abbrev pub invariant-loop-one : goal.invariant-loop-one
invariant-loop-one g l =
    record {
      gathers : Gathers g.W.World.opening l.fn.pass l.pass (map (λ r. reverse r.reversed) l.gathered.pieces.items) l.gathered.reads
          (map (λ d. record { slot = d.slot; pass = d.pass; outcome = d.outcome }) (into_iter_items l.one-iterator))
          (map (λ d. record { slot = d.slot; pass = d.pass; outcome = d.outcome }) l.fn.done.items);
      long : into_iter_len l.one-iterator ≡ length (into_iter_items l.one-iterator);
    }
