use Rattle.std.proofs.Common.{◌≡◌, ◌∙◌, suc, true, get_or, rules, sym, ap, subst, is_some, List, Option, IsSome}
use Rattle.std.proofs.lemmas.Result.{IfOk-weaker}
use Rattle.std.specs.Map.{lookup}
use Rattle.std.specs.BTreeMap.{insert_entry, is_at}
use Rattle.row_chunks.specs.Chunks.{ChunkView, all_of, open_of}
use Rattle.row_chunks.specs.inner.Splits.{begun}
use Rattle.row_chunks.proofs.Copies.{on_ok, on_err}
use Rattle.row_chunks.proofs.Shelf.{found_there}
use Rattle.row_chunks.proofs.Changes.{shelf_maybe, still_maybe, spanned, span_set, all_same, still_open, open_grows, open_entries, open_set}
use Rattle.row_chunks.proofs.Exchanges.{either, reserved_all, reserved_found}
use Rattle.row_chunks.proofs.chunks.Chunks.reserve_at.Goals as goal

pub invariant_of-self : goal.invariant_of-self
invariant_of-self g c =
    let o = g.met.K.Ord.total in
    let items = c.self.inside.list.items in
    let at : get_or items c.args.place c.index_mut.result.now ≡ c.index_mut.result.now = search rules in
    let is : begun g.K.Ord.cmp c.args.key items ≡ suc c.args.place = search rules in
    shelf_maybe o c.args.key c.args.value items c.args.place c.index_mut.result.now c.reserve.new.self c.self.invariant is at c.reserve.ensures.from
    (either o c.reserve.result c.index_mut.result.now.entries c.reserve.new.self.entries (insert_entry g.K.Ord.cmp c.index_mut.result.now.entries c.args.key c.args.value) c.reserve.ensures.ok c.reserve.ensures.unchanged)

pub returns-clause-there : goal.returns-clause-there
returns-clause-there g c =
    let o = g.met.K.Ord.total in
    let items = c.self.inside.list.items in
    let at : get_or items c.args.place c.index_mut.result.now ≡ c.index_mut.result.now = search rules in
    let is : begun g.K.Ord.cmp c.args.key items ≡ suc c.args.place = search rules in
    let same : c.args.self.now ≡ items = search rules in
    let found = found_there o c.args.key items c.args.place c.index_mut.result.now c.self.invariant.parted is at in
    IfOk-weaker c.reserve.result _ _
    (λ there e. e ∙ ap is_some (sym found ∙ ap (λ (chunks : List (ChunkView _ _)). lookup (is_at (g.K.Ord.cmp c.args.key)) (all_of chunks)) (sym same))) c.reserve.ensures.there

pub returns-clause-ok : goal.returns-clause-ok
returns-clause-ok g c =
    let o = g.met.K.Ord.total in
    let items = c.self.inside.list.items in
    let at : get_or items c.args.place c.index_mut.result.now ≡ c.index_mut.result.now = search rules in
    let is : begun g.K.Ord.cmp c.args.key items ≡ suc c.args.place = search rules in
    let same : c.args.self.now ≡ items = search rules in
    let d = reserved_all o c.reserve.result c.args.key c.args.value items c.args.place c.index_mut.result.now c.reserve.new.self c.self.invariant.parted is at c.reserve.ensures.from c.reserve.ensures.ok in
    search rules

pub returns-clause-err : goal.returns-clause-err
returns-clause-err g c =
    let o = g.met.K.Ord.total in
    let items = c.self.inside.list.items in
    let at : get_or items c.args.place c.index_mut.result.now ≡ c.index_mut.result.now = search rules in
    let same : c.args.self.now ≡ items = search rules in
    on_err c.reserve.result (λ e. let d = all_same _ items (span_set items c.args.place c.index_mut.result.now c.reserve.new.self at (spanned c.index_mut.result.now c.reserve.new.self c.reserve.ensures.from e)) in
    d ∙ ap (λ (chunks : List (ChunkView _ _)). all_of chunks) (sym same)) c.reserve.ensures.unchanged

pub returns-clause-open : goal.returns-clause-open
returns-clause-open g c =
    let o = g.met.K.Ord.total in
    let test = is_at (g.K.Ord.cmp c.args.key) in
    on_ok c.reserve.result (λ e. open_set o test c.self.inside.list.items c.args.place c.reserve.new.self (search rules) (open_entries o test c.reserve.new.self c.reserve.ensures.open e))
    (reserved_found o c.reserve.result c.args.key c.args.value c.index_mut.result.now c.reserve.new.self c.reserve.ensures.there c.reserve.ensures.ok)

pub returns-clause-kept : goal.returns-clause-kept
returns-clause-kept g c = λ k h.
    let o = g.met.K.Ord.total in
    let test = is_at (g.K.Ord.cmp k) in
    let items = c.self.inside.list.items in
    let at : get_or items c.args.place c.index_mut.result.now ≡ c.index_mut.result.now = search rules in
    let is : c.args.self.now ≡ items = search rules in
    let before : IsSome (lookup test (open_of items)) = subst (λ (chunks : List (ChunkView _ _)). IsSome (lookup test (open_of chunks))) is h in
    let one = either o c.reserve.result c.index_mut.result.now.entries c.reserve.new.self.entries (insert_entry g.K.Ord.cmp c.index_mut.result.now.entries c.args.key c.args.value) c.reserve.ensures.ok c.reserve.ensures.unchanged in
    let is_open : c.index_mut.result.now.is_open ≡ true = search rules in
    still_open test items c.args.place c.index_mut.result.now c.reserve.new.self at
    (open_grows o test c.index_mut.result.now c.reserve.new.self is_open c.reserve.ensures.open (still_maybe o c.args.key c.args.value test c.index_mut.result.now.entries c.reserve.new.self.entries one)) before
