use Rattle.std.proofs.Common.{◌∙◌, ap}
use Rattle.std.specs.Int.{w64, to_le_bytes}
use Rattle.vindex.proofs.Swaps.{of_bytes}
use Rattle.vindex.proofs.vindexes.ReverseBits.id_of.Goals as goal

pub returns : goal.returns
returns c = c.to_le_bytes.ensures ∙ ap (to_le_bytes w64) c.reversed_in_bytes.ensures ∙ of_bytes c.args.key
