use Rattle.std.proofs.Common.{ℕ, ◌<◌, List, reverse, map, sym, subst}
use Rattle.std.specs.Prelude.{All, IsSorted}
use Rattle.std.proofs.lemmas.List.{get_or-map, length-map}
use Rattle.operators.specs.Orders.{row_cmp}
use Rattle.vt_value.specs.Values.{Row}
use Rattle.shard_calls.specs.Plans.{Finishes, CanJoin}
use Rattle.route_engine.proofs.Selecting.{flat_mapped}
use Rattle.route_engine.proofs.engine.Engine.answer_by.Goals as goal

-- what holds of the rows that each piece gives, of the pieces
given_back : {X Y : Type 0} (P : Y → Type 0) (f : X → Y) (xs : List X) → All P (map f xs) → All (λ x. P (f x)) xs
given_back P f xs all k d within = subst P (get_or-map f xs k d (f d) within) (all k (f d) (subst (λ (n : ℕ). k < n) (sym (length-map xs f)) within))

pub answer_in_order-requires : goal.answer_in_order-requires
answer_in_order-requires g c =
    let pieces = c.in-Some-2.gathered.pieces.items in
    let reads = c.in-Some-2.gathered.reads in
    let is = rw c.in-Some-2.is at c.in_ok-gathered.ensures.ok in
    record {
      order = λ plain.
          given_back (λ piece. IsSorted (row_cmp c.args.read.now.plan.now.finish.order_by) piece) (λ r. reverse r.reversed) pieces
          (c.requires.order (map (λ r. reverse r.reversed) pieces) reads c.scatter.new.pass is plain);
      fit =
          subst (CanJoin c.args.read.now.plan.now.finish.grouping) (sym (flat_mapped (λ r. reverse r.reversed) pieces))
          (c.requires.fit (map (λ r. reverse r.reversed) pieces) reads c.scatter.new.pass is);
    }

pub returns-in-Ok-clause-ok : goal.returns-in-Ok-clause-ok
returns-in-Ok-clause-ok g c = record {
  pieces = map (λ r. reverse r.reversed) c.in-Some-2.gathered.pieces.items;
  scattered = rw c.in-Some-2.is at c.in_ok-gathered.ensures.ok;
  finished =
      subst (λ (l : List Row). Finishes c.args.read.now.plan.now.finish l c.in-Ok.rows) (flat_mapped (λ r. reverse r.reversed) c.in-Some-2.gathered.pieces.items)
      c.in-Ok.ensures.ok;
}
