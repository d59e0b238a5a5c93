use Rattle.std.proofs.Common.{ℕ, ap, ◌∙◌}
use Rattle.shard.specs.Place.{Place}
use Rattle.shard.specs.Seats.{seat_of, place_at}
use Rattle.reshard_create.proofs.reopening.Founds.{found_at}
use Rattle.reshard_create.proofs.reopening.found_shards.find.Goals as goal

pub returns-clause-found : goal.returns-clause-found
returns-clause-found g c =
    let part = c.args.part.now in
    let s = c.in_ok-snapshot.snapshot in
    let f = c.in_ok-found.found in
    found_at g.W.World.opening c.args.pass.now c.look_locked.new.pass part.0 (place_at part) s.which f.member.which s.mode f.mode s.named f.named
    c.look_locked.ensures.onward.later c.in_ok-snapshot.ensures.seen c.in_ok-found.ensures.which c.in_ok-found.ensures.mode c.in_ok-found.ensures.named

pub returns-clause-seat : goal.returns-clause-seat
returns-clause-seat g c =
    let part = c.args.part.now in
    let s = c.in_ok-snapshot.snapshot.which in
    let is = c.in_ok-snapshot.ensures.seen in
    ap seat_of c.in_ok-found.ensures.which ∙ ap (λ (n : ℕ). (n, s.place.range, s.place.keyspace)) is.at ∙ ap (λ (p : Place). (part.0, p.range, p.keyspace)) is.in_place
