use Rattle.std.proofs.Common.{◌≡◌, ◌++◌, take, drop}
use Rattle.std.specs.Prelude.{take_while}
use Rattle.std.specs.Char.{is_ascii_alphanumeric}
use Rattle.status_figures.proofs.kind.first_word.Given as goal

abbrev pub invariant-loop-end : goal.invariant-loop-end
invariant-loop-end l = take_while is_ascii_alphanumeric l.text ≡ take l.end l.text ++ take_while is_ascii_alphanumeric (drop l.end l.text)
