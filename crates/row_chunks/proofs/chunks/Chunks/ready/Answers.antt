use Rattle.std.proofs.Common.{◌≡◌, ◌∙◌, suc, ap, sym, rules, get_or, is_some}
use Rattle.std.specs.Map.{lookup}
use Rattle.std.specs.BTreeMap.{is_at}
use Rattle.row_chunks.specs.inner.Splits.{begun}
use Rattle.row_chunks.proofs.Shelf.{found_there}
use Rattle.row_chunks.proofs.Changes.{found_open, none_open, value_ready, copied_some}
use Rattle.row_chunks.proofs.chunks.Chunks.ready.Goals as goal

pub returns-in-Some-clause-ready : goal.returns-in-Some-clause-ready
returns-in-Some-clause-ready g c =
    let n = c.in-Some.place in
    let is : begun g.K.Ord.cmp c.args.key.now c.args.self.now ≡ suc n = search rules in
    let at : get_or c.args.self.now n c.index.result.now ≡ c.index.result.now = search rules in
    let found = found_open g.met.K.Ord.total c.args.key.now c.args.self.now n c.index.result.now c.place_of.ensures.parted is at in
    sym (copied_some c.ready.result) ∙ ap is_some (c.ready.ensures ∙ sym found)

pub returns-in-Some-clause-value : goal.returns-in-Some-clause-value
returns-in-Some-clause-value g c =
    let n = c.in-Some.place in
    let is : begun g.K.Ord.cmp c.args.key.now c.args.self.now ≡ suc n = search rules in
    let at : get_or c.args.self.now n c.index.result.now ≡ c.index.result.now = search rules in
    let found = found_there g.met.K.Ord.total c.args.key.now c.args.self.now n c.index.result.now c.place_of.ensures.parted is at in
    value_ready g.met.K.Ord.total c.ready.result (is_at (g.K.Ord.cmp c.args.key.now)) c.index.result.now (lookup (is_at (g.K.Ord.cmp c.args.key.now)) _) c.ready.ensures found

pub returns-in-None-clause-ready : goal.returns-in-None-clause-ready
returns-in-None-clause-ready g c =
    let none = none_open g.met.K.Ord.total c.args.key.now c.args.self.now c.place_of.ensures.parted (search rules) in
    sym (ap is_some none)
