use Rattle.program_log.proofs.lines.Words.{visible-field}
use Rattle.program_log.proofs.lines.draft.Draft.add_field.Goals as goal

pub add-requires : goal.add-requires
add-requires g c = rw (c.deref.ensures.value, c.in_ok-field.ensures) (visible-field c.as_bytes.result.now c.as_bytes-2.result.now)
