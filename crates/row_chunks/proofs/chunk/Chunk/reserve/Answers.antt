use Rattle.std.proofs.Common.{◌≡◌, ◌∙◌, ◌+◌, ℕ, Some, Option, length, rules, sym, ap, is_some, arith}
use Rattle.std.specs.Map.{lookup}
use Rattle.std.specs.BTreeMap.{insert_entry, is_at}
use Rattle.std.specs.BTreeMap.Entry.{map_with_value}
use Rattle.std.specs.declared.collections.btree_map.Entry.TheVariants.{Occupied}
use Rattle.row_chunks.proofs.Exchanges.{same_inserted}
use Rattle.row_chunks.proofs.chunk.Chunk.reserve.Goals as goal

pub returns-in-Occupied-clause-ok : goal.returns-in-Occupied-clause-ok
returns-in-Occupied-clause-ok g c =
    let w = c.into_mut.result.now in
    let es = c.self.inside.own.entries in
    let u = rw c.in-Occupied.is at c.in-Ok.ensures.update in
    let n = rw c.in-Occupied.is at c.in-Ok.ensures.len in
    let v = rw c.in-Occupied.is at c.in-Ok.ensures.value in
    let found : lookup (is_at (g.K.Ord.cmp c.args.key)) es ≡ Some w = sym v ∙ c.into_mut.ensures.value in
    let put : (map_with_value (Occupied c.in-Occupied.occupied) w).entries ≡ insert_entry g.K.Ord.cmp es c.args.key w = u.1 w in
    let many : length (map_with_value (Occupied c.in-Occupied.occupied) w).entries ≡ length es = (let m = rw c.into_mut.ensures.value at n w in omega (arith, m)) in
    let same : insert_entry g.K.Ord.cmp es c.args.key w ≡ es = same_inserted g.met.K.Ord.total c.args.key w es (ap (λ l. length l) (sym put) ∙ many) found in
    let all = put ∙ same in
    search rules
