use Rattle.std.proofs.Common.{length}
use denote.Shadow.{shadow}
use denote.Text.{Utf8}
use Rattle.vtgate_lines.proofs.Named.{IsRead}
use Rattle.vtgate_lines.proofs.ranges.named_ranges.Given as goal

abbrev pub invariant-loop-name : goal.invariant-loop-name
invariant-loop-name l = record {
  read : IsRead l.text l.rest l.ranges.items;
  utf8 : shadow (Utf8 l.rest);
}

abbrev pub decreases-loop-name : goal.decreases-loop-name
decreases-loop-name l = length l.rest
