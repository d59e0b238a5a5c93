use Rattle.std.proofs.Common.{◌≡◌}
use Rattle.serving.specs.Partitions.{Seat}
use Rattle.reshard_create.proofs.reopening.Refits.{second_half}
use Rattle.reshard_create.proofs.reopening.remaining_parts.may_replace.Goals as goal

pub returns-then-not-are_of-2-clause-no : goal.returns-then-not-are_of-2-clause-no
returns-then-not-are_of-2-clause-no g c e is =
    c.are_of-2.ensures.no c.if-not-are_of-2.true
    (second_half (λ (seat : Seat). seat.2 ≡ c.args.keyspace) c.args.from.now c.args.into.now is.home)
