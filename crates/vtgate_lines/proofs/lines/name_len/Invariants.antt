use Rattle.std.proofs.Common.{◌≡◌, ◌≤◌, ◌-◌, true, length, take}
use Rattle.std.specs.List.{list_all}
use Rattle.vtgate_lines.specs.Lines.{is_lower_letter}
use Rattle.vtgate_lines.proofs.lines.name_len.Given as goal

abbrev pub invariant-loop-len : goal.invariant-loop-len
invariant-loop-len l = record {
  bound : l.len ≤ length l.line;
  front : list_all is_lower_letter (take l.len l.line) ≡ true;
}

abbrev pub decreases-loop-len : goal.decreases-loop-len
decreases-loop-len l = length l.line - l.len
