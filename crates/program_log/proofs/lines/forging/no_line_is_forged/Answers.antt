use Rattle.program_log.proofs.lines.Unforged.{told_once}
use Rattle.program_log.proofs.lines.forging.no_line_is_forged.Goals as goal

pub returns : goal.returns
returns c = told_once
