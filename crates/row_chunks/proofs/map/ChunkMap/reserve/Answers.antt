use Rattle.std.proofs.Common.{◌≡◌, None, rules}
use Rattle.std.specs.Map.{lookup}
use Rattle.std.specs.BTreeMap.{insert_entry, is_at}
use Rattle.row_chunks.specs.Chunks.{all_of, content}
use Rattle.row_chunks.proofs.Counts.{count_inserted}
use Rattle.row_chunks.proofs.map.ChunkMap.reserve.Goals as goal

pub invariant_of-self-then-not-branch : goal.invariant_of-self-then-not-branch
invariant_of-self-then-not-branch g c =
    let es = all_of (content c.self.inside.own c.self.inside.shared) in
    let own : c.own_chunks.new.shared ≡ None = search rules in
    let none : lookup (is_at (g.K.Ord.cmp c.args.key)) es ≡ None = search rules in
    let put : all_of c.reserve.new.self ≡ insert_entry g.K.Ord.cmp (all_of c.own_chunks.new.own) c.args.key c.args.value = search rules in
    (count_inserted g.met.K.Ord.total es c.own_chunks.new.own c.reserve.new.self c.own_chunks.new.shared c.args.key c.args.value c.self.inside.count own c.own_chunks.ensures.entries put none c.self.invariant.0, search rules)
