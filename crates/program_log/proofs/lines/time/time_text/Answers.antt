use Rattle.std.proofs.Common.{ℕ, Bool, Option, Some, ap, subst, ◌∙◌}
use Rattle.jiff_fmt.specs.Printer.{IsTimestampText}
use Rattle.jiff.specs.Types.{Timestamp}
use Rattle.program_log.proofs.lines.Times.{time_is}
use Rattle.program_log.proofs.lines.time.time_text.Goals as goal

pub returns : goal.returns
returns c =
    time_is c.precision.result c.args.instant c.timestamp_text.result.bytes
    (c.precision.ensures ∙ ap (λ (o : Bool × ℕ × Option ℕ). (o.0, o.1, Some 3)) c.new.ensures)
    (subst (λ (t : Timestamp). IsTimestampText c.precision.result t c.timestamp_text.result.bytes) c.to_plain.ensures c.timestamp_text.ensures)
