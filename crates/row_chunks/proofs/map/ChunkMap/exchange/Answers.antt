use Rattle.std.proofs.Common.{◌≡◌, None, rules}
use Rattle.std.specs.BTreeMap.{is_at}
use Rattle.row_chunks.proofs.Exchanges.{count_exchanged}
use Rattle.row_chunks.proofs.map.ChunkMap.exchange.Goals as goal

pub invariant_of-self : goal.invariant_of-self
invariant_of-self g c =
    let own : c.self.inside.shared ≡ None = search rules in
    (count_exchanged g.met.K.Ord.total c.exchange.result c.self.inside.own c.exchange.new.self c.self.inside.shared (is_at (g.K.Ord.cmp c.args.key.now)) c.args.value c.self.inside.count own c.exchange.ensures.all c.exchange.ensures.unchanged c.self.invariant.0, c.self.invariant.1)
