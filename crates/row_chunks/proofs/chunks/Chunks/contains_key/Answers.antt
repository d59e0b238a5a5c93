use Rattle.std.proofs.Common.{◌≡◌, suc, rules, get_or}
use Rattle.row_chunks.specs.inner.Splits.{begun}
use Rattle.row_chunks.proofs.Shelf.{found_there, found_nowhere}
use Rattle.row_chunks.proofs.chunks.Chunks.contains_key.Goals as goal

pub returns-in-Some : goal.returns-in-Some
returns-in-Some g c =
    let n = c.in-Some.place in
    let is : begun g.K.Ord.cmp c.args.key.now c.args.self.now ≡ suc n = search rules in
    let at : get_or c.args.self.now n c.index.result.now ≡ c.index.result.now = search rules in
    let found = found_there g.met.K.Ord.total c.args.key.now c.args.self.now n c.index.result.now c.place_of.ensures.parted is at in
    search rules

pub returns-in-None : goal.returns-in-None
returns-in-None g c =
    let none = found_nowhere g.met.K.Ord.total c.args.key.now c.args.self.now c.place_of.ensures.parted (search rules) in
    search rules
