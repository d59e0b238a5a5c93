-- Lines whose texts are bytes.
use Rattle.std.specs.Prelude.{ℕ, ◌<◌, List}
use Rattle.std.specs.List.{AllByRecursion}
use Rattle.log.specs.Kv.{Pair}
use Rattle.program_log.specs.lines.Lines.{LogEntry}

abbrev pub AreBytes : List ℕ → Type 0
AreBytes text = AllByRecursion (λ b. b < 256) text

abbrev pub HasBytes : LogEntry → Type 0
HasBytes e = AreBytes e.event × AllByRecursion (λ (f : Pair). AreBytes f.0 × AreBytes f.1) e.fields
