use Rattle.std.proofs.Common.{map, refl, ◌∙◌}
use Rattle.reshard_create.proofs.Making.{made}
use Rattle.reshard_create.proofs.targets.make_target.Goals as goal

pub returns-clause-target : goal.returns-clause-target
returns-clause-target g c =
    let own = map (λ m. m.which) c.in_ok-own.own.members.items in
    made (map (λ s. s.member.which) c.args.sources.now) c.args.config.keyspace c.args.range own c.open_shard.new.which
    (record { keyspace = c.args.config.keyspace; range = c.args.range }) c.open_shard.ensures.place refl refl
    (c.open_shard.ensures.sources ∙ c.in_ok-own.ensures.slots) c.in_ok-own.ensures.own c.in_ok-own.ensures.those
    (c.requires.covered own c.in_ok-own.ensures.own)
