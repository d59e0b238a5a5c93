use Rattle.journal.proofs.Rounds.{may_put_after, appends_both, put_count, returns_seen}
use Rattle.journal.proofs.words.Words.append.Goals as goal

pub put-requires-clause-count : goal.put-requires-clause-count
put-requires-clause-count g c κs l =
    let t = c.requires.may in
    put_count _ _ _ c.args.slot c.agree-count.result c.args.entry.now c.args.seat.now.me c.args.pass.now.me c.agree-count.new.one.me
    c.agree-count.new.other.me c.lend.new.seat.me t c.agree-count.ensures.seen c.agree-count.ensures.found c.requires.count c.lend.ensures.seat.1

pub put-requires-clause-may : goal.put-requires-clause-may
put-requires-clause-may g c κs l =
    may_put_after _ _ _ c.args.slot c.args.entry.now c.args.seat.now.me c.args.pass.now.me _ _ c.lend.new.seat.me c.requires.may
    c.agree-count.ensures.seen c.lend.ensures.seat.1

pub give_back-requires-clause-seen : goal.give_back-requires-clause-seen
give_back-requires-clause-seen g c κs l =
    returns_seen _ _ _ c.args.entry.now c.args.seat.now.me c.args.pass.now.me _ _ c.lend.new.seat.me c.lend.new.pass.me c.put.new.seat.me
    c.agree-count.ensures.seen c.lend.ensures.pass.1 c.lend.ensures.seat.1 c.put.ensures.seen

pub returns-clause-seen : goal.returns-clause-seen
returns-clause-seen g c =
    appends_both _ _ _ c.args.slot c.args.entry.now c.args.seat.now.me c.args.pass.now.me _ _ c.lend.new.seat.me c.lend.new.pass.me c.put.new.seat.me
    c.give_back.new.seat.me c.give_back.new.pass.me c.requires.may c.agree-count.ensures.seen c.lend.ensures.pass.1 c.lend.ensures.seat.1
    c.put.ensures.seen c.give_back.ensures.seat.1 c.give_back.ensures.pass.1
