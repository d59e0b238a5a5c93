use Rattle.std.proofs.Common.{Option, subst}
use Rattle.vt_value.specs.Values.{Row}
use Rattle.vschema.specs.Database.{rows_of}
use Rattle.shard_contents.specs.inner.Placed.{AreFirst}
use Rattle.shard_contents.specs.Copying.{is_left_to_copy}
use Rattle.shard_contents.proofs.Earlier.{had_now, first_permuted}
use Rattle.shard_contents.proofs.RowsLeft.{had_as}
use Rattle.std.proofs.lemmas.List.Sorted.{IsPermutation-sym, IsPermutation-trans}
use Rattle.shard_contents.proofs.sorted.SortedTables.first_wanted.Goals as goal

pub returns-in_err-keep-clause-had : goal.returns-in_err-keep-clause-had
returns-in_err-keep-clause-had c =
    let log = c.args.contents.now.stored.log in
    let now = c.args.contents.now.store.rows in
    let was = c.in_ok-sorted.sorted in
    let is = c.in_ok-first.ensures in
    c.keep.ensures.had log now
    (had_as log now was c.first_wanted.new.self is.table is.stored is.rows (had_now log now c.args.next.now.table was c.requires.followed c.in_ok-sorted.ensures.ok))
    c.take_current.ensures.had

pub returns-clause-had : goal.returns-clause-had
returns-clause-had c =
    let log = c.args.contents.now.stored.log in
    let now = c.args.contents.now.store.rows in
    let was = c.in_ok-sorted.sorted in
    let is = c.in_ok-first.ensures in
    c.keep.ensures.had log now
    (had_as log now was c.first_wanted.new.self is.table is.stored is.rows (had_now log now c.args.next.now.table was c.requires.followed c.in_ok-sorted.ensures.ok))
    c.take_current.ensures.had

pub returns-clause-ok : goal.returns-clause-ok
returns-clause-ok c =
    let t = c.args.table.now in
    let all = rows_of c.args.contents.now.store.rows c.args.next.now.table in
    let rows = c.in_ok-sorted.sorted.rows in
    let now = c.first_wanted.new.self.rows in
    subst (λ (x : Option Row). AreFirst t (is_left_to_copy c.args.place.now t x) all c.in_ok-first.first.items) c.as_ref.ensures.value
    (first_permuted t _ now all c.in_ok-first.first.items
    (IsPermutation-sym now all (IsPermutation-trans now rows all c.in_ok-first.ensures.rows c.in_ok-sorted.ensures.ok.rows)) c.in_ok-first.ensures.ok)
