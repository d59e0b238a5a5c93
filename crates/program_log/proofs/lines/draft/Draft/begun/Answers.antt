use Rattle.std.specs.String.{string_bytes}
use Rattle.program_log.specs.lines.Lines.{level_text}
use Rattle.program_log.proofs.lines.Words.{visible-head}
use Rattle.program_log.proofs.lines.Tellings.{begun_is}
use Rattle.program_log.proofs.lines.draft.Draft.begun.Goals as goal

pub invariant_of-result : goal.invariant_of-result
invariant_of-result g c = rw c.in_ok-bytes.ensures (visible-head c.as_bytes.result.now c.level_word.result.now c.as_bytes-2.result.now)

pub returns : goal.returns
returns g c =
    begun_is (g.D.Display.output c.args.event.now) c.args.instant c.time_text-time.result.bytes (level_text c.args.level) (string_bytes c.in_ok-text.text) c.in_ok-bytes.bytes.items
    c.in_ok-text.ensures.ok c.time_text-time.ensures
    (rw (c.as_bytes.ensures.value, c.as_str.ensures.value, c.level_word.ensures, c.as_bytes-2.ensures.value) at c.in_ok-bytes.ensures)
