use Rattle.std.proofs.Common.{◌≡◌, ◌++◌, drop}
use Rattle.std.specs.Prelude.{flat_map}
use Rattle.status_page.specs.Texts.{label_byte}
use Rattle.status_page.proofs.texts.put_label.Given as goal

abbrev pub invariant-loop-byte : goal.invariant-loop-byte
invariant-loop-byte l =
    l.out.items ++ flat_map label_byte (drop l.byte-index l.value) ≡ l.fn.out.items ++ flat_map label_byte l.value
