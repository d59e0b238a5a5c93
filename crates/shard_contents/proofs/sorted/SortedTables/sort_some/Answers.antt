use Rattle.std.proofs.Common.{◌<◌, ℕ, length, sym, subst}
use Rattle.shard_contents.specs.inner.Earlier.{IsCurrentTable}
use Rattle.shard_contents.proofs.Earlier.{had_now}
use Rattle.shard_contents.proofs.sorted.SortedTables.sort_some.Goals as goal

pub go_on-requires-clause-there : goal.go_on-requires-clause-there
go_on-requires-clause-there c = let had = c.in-Some.ensures.taken.1 c.args.stored.now.log c.args.store.now.rows c.requires.had in had.there

pub go_on-requires-clause-within : goal.go_on-requires-clause-within
go_on-requires-clause-within c = let had = c.in-Some.ensures.taken.1 c.args.stored.now.log c.args.store.now.rows c.requires.had in had.within

pub returns-in_err-more-in-Some-clause-had : goal.returns-in_err-more-in-Some-clause-had
returns-in_err-more-in-Some-clause-had c = c.take.ensures.had c.args.stored.now.log c.args.store.now.rows c.requires.had

pub returns-in_err-begun-in-None-clause-had : goal.returns-in_err-begun-in-None-clause-had
returns-in_err-begun-in-None-clause-had c = c.take.ensures.had c.args.stored.now.log c.args.store.now.rows c.requires.had

pub returns-in_err-keep-in-Some-clause-had : goal.returns-in_err-keep-in-Some-clause-had
returns-in_err-keep-in-Some-clause-had c =
    let log = c.args.stored.now.log in
    let now = c.args.store.now.rows in
    let taken = c.in-Some.ensures.taken in
    c.keep.ensures.had log now
    (c.in_ok-more-in-Some.ensures.had now (subst (λ (n : ℕ). n < length now) (sym taken.0) c.requires.there) (taken.1 log now c.requires.had))
    (c.take.ensures.had log now c.requires.had)

pub returns-in_ok-keep-in-Some-clause-had : goal.returns-in_ok-keep-in-Some-clause-had
returns-in_ok-keep-in-Some-clause-had c =
    let log = c.args.stored.now.log in
    let now = c.args.store.now.rows in
    let taken = c.in-Some.ensures.taken in
    c.keep.ensures.had log now
    (c.in_ok-more-in-Some.ensures.had now (subst (λ (n : ℕ). n < length now) (sym taken.0) c.requires.there) (taken.1 log now c.requires.had))
    (c.take.ensures.had log now c.requires.had)

pub returns-in_err-keep-in-None-clause-had : goal.returns-in_err-keep-in-None-clause-had
returns-in_err-keep-in-None-clause-had c =
    let log = c.args.stored.now.log in
    let now = c.args.store.now.rows in
    let begun = c.in_ok-begun-in-None.begun in
    c.keep-in-None.ensures.had log now
    (had_now log now c.args.place begun c.requires.followed
    (subst (λ (n : ℕ). IsCurrentTable c.args.place n now begun) c.len.ensures c.in_ok-begun-in-None.ensures.ok)) (c.take.ensures.had log now c.requires.had)

pub returns-in_ok-keep-in-None-clause-had : goal.returns-in_ok-keep-in-None-clause-had
returns-in_ok-keep-in-None-clause-had c =
    let log = c.args.stored.now.log in
    let now = c.args.store.now.rows in
    let begun = c.in_ok-begun-in-None.begun in
    c.keep-in-None.ensures.had log now
    (had_now log now c.args.place begun c.requires.followed
    (subst (λ (n : ℕ). IsCurrentTable c.args.place n now begun) c.len.ensures c.in_ok-begun-in-None.ensures.ok)) (c.take.ensures.had log now c.requires.had)
