use Rattle.session.proofs.conversation.Conversations.{fed_by}
use Rattle.session.proofs.session_core.CoreState.feed_framed.Goals as goal

pub returns-in-Ok-answer_fed-clause-answers : goal.returns-in-Ok-answer_fed-clause-answers
returns-in-Ok-answer_fed-clause-answers g c = (
  c.in-Ok.fed,
  fed_by c.args.self.now.framer c.feed.new.self c.args.piece.now c.in-Ok.fed c.in-Ok.ensures.payloads c.in-Ok.ensures.fault c.in-Ok.ensures.limit,
  c.in-Ok-answer_fed.ensures.answers,
)

pub returns-clause-write : goal.returns-clause-write
returns-clause-write g c = λ is. (
  c.in-Ok.fed,
  fed_by c.args.self.now.framer c.feed.new.self c.args.piece.now c.in-Ok.fed c.in-Ok.ensures.payloads c.in-Ok.ensures.fault c.in-Ok.ensures.limit,
  c.in-Err.ensures.cut,
)
