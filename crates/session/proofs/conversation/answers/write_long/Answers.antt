use Rattle.std.proofs.Common.{ap, ◌∙◌}
use Rattle.session.specs.conversation.Devices.{failures_after}
use Rattle.session.proofs.conversation.Conversations.{on_err}
use Rattle.session.proofs.conversation.Written.{both_written, both_cut, first_cut}
use Rattle.session.proofs.conversation.answers.write_long.Goals as goal

pub returns-in_err-write_chunks-clause-front : goal.returns-in_err-write_chunks-clause-front
returns-in_err-write_chunks-clause-front g c = on_err _ _ (first_cut _ _ _ _ c.in_err-write_chunks.ensures.front)

pub returns-clause-bytes : goal.returns-clause-bytes
returns-clause-bytes g c = both_written _ _ _ _ _ c.in_ok-write_chunks.ensures.bytes c.write.result c.write.ensures.bytes

pub returns-clause-front : goal.returns-clause-front
returns-clause-front g c = both_cut _ _ _ _ _ c.in_ok-write_chunks.ensures.bytes c.write.result c.write.ensures.front

pub returns-clause-count : goal.returns-clause-count
returns-clause-count g c = c.write.ensures.count ∙ ap (failures_after c.write.result) c.in_ok-write_chunks.ensures.count
