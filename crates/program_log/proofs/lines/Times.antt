-- What a printer with three places writes for an instant.
use Rattle.std.proofs.Common.{◌≡◌, ℕ, Bool, false, List, ◌++◌, Option, Some, ap, ◌∙◌}
use Rattle.jiff_fmt.specs.declared.temporal.printer.DateTimePrinter.{DateTimePrinter}
use Rattle.jiff_fmt.specs.Printer.{options, IsTimestampText}
use Rattle.jiff_fmt.specs.Text.{datetime_text, zulu_text}
use Rattle.jiff.specs.Types.{Timestamp}
use Rattle.program_log.specs.lines.Lines.{IsTimeText}

pub time_is : (p : DateTimePrinter) (t : Timestamp) (time : List ℕ) → options p ≡ (false, 84, Some 3) → IsTimestampText p t time → IsTimeText t time
time_is p t time e h =
    (h.0, h.1, h.2 ∙ ap (λ (o : Bool × ℕ × Option ℕ). datetime_text o.0 o.1 o.2 h.0 ++ zulu_text o.0) e)
