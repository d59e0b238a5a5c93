use Rattle.shard_contents.proofs.Earlier.{has_now}
use Rattle.shard_contents.proofs.sorted.SortedTables.take_current.Goals as goal

pub bring_forward-requires : goal.bring_forward-requires
bring_forward-requires c =
    let had = c.in-Some.ensures.taken.1 c.args.contents.now.stored.log c.args.contents.now.store.rows c.requires.had in
    record { there = had.there; within = had.within }

pub returns-in_err-bring_forward-in-Some-clause-had : goal.returns-in_err-bring_forward-in-Some-clause-had
returns-in_err-bring_forward-in-Some-clause-had c = c.take.ensures.had c.args.contents.now.stored.log c.args.contents.now.store.rows c.requires.had

pub returns-in_ok-bring_forward-in-Some-clause-had : goal.returns-in_ok-bring_forward-in-Some-clause-had
returns-in_ok-bring_forward-in-Some-clause-had c = c.take.ensures.had c.args.contents.now.stored.log c.args.contents.now.store.rows c.requires.had

pub returns-in_ok-bring_forward-in-Some-clause-ok : goal.returns-in_ok-bring_forward-in-Some-clause-ok
returns-in_ok-bring_forward-in-Some-clause-ok c =
    let log = c.args.contents.now.stored.log in
    let taken = c.in-Some.ensures.taken in
    let ok = c.in_ok-bring_forward-in-Some.ensures in
    has_now log c.args.contents.now.store.rows c.args.place c.in-Some.sorted c.bring_forward.new.self c.requires.there taken.0
    (taken.1 log c.args.contents.now.store.rows c.requires.had) ok.table ok.stored ok.rows

pub returns-in-None-clause-had : goal.returns-in-None-clause-had
returns-in-None-clause-had c = c.take.ensures.had c.args.contents.now.stored.log c.args.contents.now.store.rows c.requires.had
