use Rattle.std.proofs.Common.{◌∷◌, [], length, sym, ap, subst, arith}
use Rattle.std.specs.List.{AllByRecursion}
use Rattle.shard_law.proofs.Lists.{AllByRecursion-push}
use Rattle.reshard_create.specs.Configs.{IsFree}
use Rattle.reshard_create.proofs.Seats.{put_next}
use Rattle.reshard_create.proofs.seats_back.give_back.Goals as goal

pub loop-target-preserved : goal.loop-target-preserved
loop-target-preserved g c =
    let r = c.loop-target.invariant.room in
    let n = ap length c.in-Some.ensures.items in
    let m = Rattle.std.proofs.Common.length-append c.pop.new.self.items (c.in-Some.target ∷ []) in
    let a = c.put.ensures.len in
    let b = c.put.ensures.capacity in
    record {
      free =
          subst (AllByRecursion (IsFree g.W.World.opening)) (sym c.put.ensures.items)
          (AllByRecursion-push (IsFree g.W.World.opening) c.loop-target.free.items c.seat_of_shared.result c.loop-target.invariant.free c.seat_of_shared.ensures.free);
      room = omega (arith, r, n, m, a, b);
      slots =
          put_next (λ s. s.slot) (λ t. t.member.which.slot) _ c.loop-target.free.items c.put.new.free.items c.loop-target.rest.items c.pop.new.self.items
          c.seat_of_shared.result c.in-Some.target c.loop-target.invariant.slots c.put.ensures.items c.in-Some.ensures.items c.seat_of_shared.ensures.slot;
    }
