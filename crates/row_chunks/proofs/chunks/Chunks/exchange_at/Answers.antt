use Rattle.std.proofs.Common.{◌≡◌, ◌∙◌, suc, get_or, rules, sym, ap, subst, List, Option, IsSome}
use Rattle.std.proofs.lemmas.Result.{IfOk-weaker}
use Rattle.std.specs.Map.{lookup, set_value}
use Rattle.std.specs.BTreeMap.{is_at}
use Rattle.row_chunks.specs.Chunks.{ChunkView, all_of, open_of}
use Rattle.row_chunks.specs.inner.Splits.{begun}
use Rattle.row_chunks.proofs.Copies.{on_ok, on_err, ok_or_err}
use Rattle.row_chunks.proofs.Shelf.{done_there, set_local, found_there}
use Rattle.row_chunks.proofs.Changes.{found_open, spanned, span_set, all_same, still_open}
use Rattle.row_chunks.proofs.Exchanges.{shelf_exchanged, still_exchanged, still_changeable}
use Rattle.row_chunks.proofs.chunks.Chunks.exchange_at.Goals as goal

pub invariant_of-self : goal.invariant_of-self
invariant_of-self g c =
    let o = g.met.K.Ord.total in
    let items = c.self.inside.list.items in
    let at : get_or items c.args.place c.index_mut.result.now ≡ c.index_mut.result.now = search rules in
    let is : begun g.K.Ord.cmp c.args.key.now items ≡ suc c.args.place = search rules in
    shelf_exchanged o c.args.key.now c.args.value items c.args.place c.index_mut.result.now c.exchange.new.self c.self.invariant is at c.exchange.ensures.from
    (ok_or_err c.exchange.result c.exchange.ensures.entries c.exchange.ensures.unchanged)

pub returns-clause-former : goal.returns-clause-former
returns-clause-former g c =
    let o = g.met.K.Ord.total in
    let items = c.self.inside.list.items in
    let at : get_or items c.args.place c.index_mut.result.now ≡ c.index_mut.result.now = search rules in
    let is : begun g.K.Ord.cmp c.args.key.now items ≡ suc c.args.place = search rules in
    let same : c.args.self.now ≡ items = search rules in
    let found = found_there o c.args.key.now items c.args.place c.index_mut.result.now c.self.invariant.parted is at in
    IfOk-weaker c.exchange.result _ _
    (λ v e. ap (λ (chunks : List (ChunkView _ _)). lookup (is_at (g.K.Ord.cmp c.args.key.now)) (all_of chunks)) same ∙ (found ∙ e)) c.exchange.ensures.former

pub returns-clause-all : goal.returns-clause-all
returns-clause-all g c =
    let o = g.met.K.Ord.total in
    let items = c.self.inside.list.items in
    let at : get_or items c.args.place c.index_mut.result.now ≡ c.index_mut.result.now = search rules in
    let is : begun g.K.Ord.cmp c.args.key.now items ≡ suc c.args.place = search rules in
    on_ok c.exchange.result (λ e. let d = done_there o c.args.key.now (λ es. set_value (is_at (g.K.Ord.cmp c.args.key.now)) es c.args.value) (set_local o c.args.key.now c.args.value) items c.args.place c.index_mut.result.now c.exchange.new.self c.self.invariant.parted is at e in search rules) c.exchange.ensures.entries

pub returns-clause-none : goal.returns-clause-none
returns-clause-none g c =
    let o = g.met.K.Ord.total in
    let items = c.self.inside.list.items in
    let at : get_or items c.args.place c.index_mut.result.now ≡ c.index_mut.result.now = search rules in
    let is : begun g.K.Ord.cmp c.args.key.now items ≡ suc c.args.place = search rules in
    let same : c.args.self.now ≡ items = search rules in
    let found = found_open o c.args.key.now items c.args.place c.index_mut.result.now c.self.invariant.parted is at in
    on_err c.exchange.result (λ e. ap (λ (chunks : List (ChunkView _ _)). lookup (is_at (g.K.Ord.cmp c.args.key.now)) (open_of chunks)) same ∙ (found ∙ e)) c.exchange.ensures.none

pub returns-clause-unchanged : goal.returns-clause-unchanged
returns-clause-unchanged g c =
    let o = g.met.K.Ord.total in
    let items = c.self.inside.list.items in
    let at : get_or items c.args.place c.index_mut.result.now ≡ c.index_mut.result.now = search rules in
    let same : c.args.self.now ≡ items = search rules in
    on_err c.exchange.result (λ e. let d = all_same _ items (span_set items c.args.place c.index_mut.result.now c.exchange.new.self at (spanned c.index_mut.result.now c.exchange.new.self c.exchange.ensures.from e)) in
    d ∙ ap (λ (chunks : List (ChunkView _ _)). all_of chunks) (sym same)) c.exchange.ensures.unchanged

pub returns-clause-kept : goal.returns-clause-kept
returns-clause-kept g c = λ k h.
    let o = g.met.K.Ord.total in
    let test = is_at (g.K.Ord.cmp k) in
    let items = c.self.inside.list.items in
    let at : get_or items c.args.place c.index_mut.result.now ≡ c.index_mut.result.now = search rules in
    let is : c.args.self.now ≡ items = search rules in
    let before : IsSome (lookup test (open_of items)) = subst (λ (chunks : List (ChunkView _ _)). IsSome (lookup test (open_of chunks))) is h in
    still_open test items c.args.place c.index_mut.result.now c.exchange.new.self at
    (still_changeable o test c.index_mut.result.now c.exchange.new.self c.exchange.ensures.open
    (still_exchanged o test (is_at (g.K.Ord.cmp c.args.key.now)) c.args.value c.index_mut.result.now.entries c.exchange.new.self.entries (ok_or_err c.exchange.result c.exchange.ensures.entries c.exchange.ensures.unchanged))) before
