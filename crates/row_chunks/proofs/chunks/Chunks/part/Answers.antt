use Rattle.std.proofs.Common.{◌≡◌, ◌+◌, ◌∙◌, List, get_or, set, rules, sym, ap, true}
use Rattle.std.specs.List.{insert}
use Rattle.row_chunks.specs.Chunks.{ChunkView, all_of, open_of}
use Rattle.row_chunks.specs.inner.Splits.{IsSplit}
use Rattle.row_chunks.proofs.Changes.{shelf_parted, all_parted, open_parted}
use Rattle.row_chunks.proofs.chunks.Chunks.part.Goals as goal

pub invariant_of-self-2 : goal.invariant_of-self-2
invariant_of-self-2 g c =
    let items = c.self.inside.list.items in
    let at : get_or items c.args.place c.index_mut.result.now ≡ c.index_mut.result.now = search rules in
    let split : IsSplit g.K.Ord.cmp c.index_mut.result.now c.split.new.self c.in-Some.upper = search rules in
    let is : c.insert.new.self.items ≡ insert (set items c.args.place c.split.new.self) (c.args.place + 1) c.in-Some.upper = search rules in
    shelf_parted g.met.K.Ord.total items c.insert.new.self.items c.args.place c.index_mut.result.now c.split.new.self c.in-Some.upper (search rules) at c.split.ensures.from split is c.self.invariant

pub returns-clause-all : goal.returns-clause-all
returns-clause-all g c =
    let items = c.self.inside.list.items in
    let at : get_or items c.args.place c.index_mut.result.now ≡ c.index_mut.result.now = search rules in
    let split : IsSplit g.K.Ord.cmp c.index_mut.result.now c.split.new.self c.in-Some.upper = search rules in
    let is : c.insert.new.self.items ≡ insert (set items c.args.place c.split.new.self) (c.args.place + 1) c.in-Some.upper = search rules in
    let same : c.args.self.now ≡ items = search rules in
    all_parted g.met.K.Ord.total items c.insert.new.self.items c.args.place c.index_mut.result.now c.split.new.self c.in-Some.upper (search rules) at c.split.ensures.from split is
    ∙ ap (λ (chunks : List (ChunkView _ _)). all_of chunks) (sym same)

pub returns-clause-open : goal.returns-clause-open
returns-clause-open g c =
    let items = c.self.inside.list.items in
    let at : get_or items c.args.place c.index_mut.result.now ≡ c.index_mut.result.now = search rules in
    let split : IsSplit g.K.Ord.cmp c.index_mut.result.now c.split.new.self c.in-Some.upper = search rules in
    let is : c.insert.new.self.items ≡ insert (set items c.args.place c.split.new.self) (c.args.place + 1) c.in-Some.upper = search rules in
    let same : c.args.self.now ≡ items = search rules in
    let first : c.index_mut.result.now.is_open ≡ true = search rules in
    let upper : c.in-Some.upper.is_open ≡ true = search rules in
    open_parted g.met.K.Ord.total items c.insert.new.self.items c.args.place c.index_mut.result.now c.split.new.self c.in-Some.upper (search rules) at c.split.ensures.from split is first c.split.ensures.open upper
    ∙ ap (λ (chunks : List (ChunkView _ _)). open_of chunks) (sym same)
