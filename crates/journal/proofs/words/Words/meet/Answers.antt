use Rattle.journal.proofs.Rounds.{plain_after, apart_before, agrees_still}
use Rattle.journal.proofs.words.Words.meet.Goals as goal

pub part-requires-clause-plain : goal.part-requires-clause-plain
part-requires-clause-plain g c κs l =
    let p = plain_after _ _ _ c.args.one.now.me c.args.other.now.me _ _ c.requires.held.0 c.requires.held.1 c.agree.ensures.seen in (p.0, p.1)

pub part-requires-clause-seen : goal.part-requires-clause-seen
part-requires-clause-seen g c κs l = (plain_after _ _ _ c.args.one.now.me c.args.other.now.me _ _ c.requires.held.0 c.requires.held.1 c.agree.ensures.seen).2

pub returns-clause-seen : goal.returns-clause-seen
returns-clause-seen g c = agrees_still _ _ _ c.args.one.now.me c.args.other.now.me _ _ _ _ c.part.ensures.told.0 c.part.ensures.told.1 c.agree.ensures.seen

pub returns-clause-apart : goal.returns-clause-apart
returns-clause-apart g c = apart_before _ _ _ c.args.one.now.me c.args.other.now.me _ _ c.agree.ensures.seen c.part.ensures.told.2
