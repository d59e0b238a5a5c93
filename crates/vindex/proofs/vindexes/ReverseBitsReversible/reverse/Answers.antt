-- A number whose bits are reversed twice is the number, whose bytes are the id's.
use Rattle.std.proofs.Common.{◌∙◌, ap, arith}
use Rattle.vindex.specs.KeyspaceIds.{reversed}
use Rattle.vindex.specs.inner.Reversal.{reversed_again}
use Rattle.vindex.proofs.vindexes.ReverseBitsReversible.reverse.Goals as goal

pub returns-clause-only : goal.returns-clause-only
returns-clause-only c =
    ap reversed c.reverse_bits.ensures
    ∙ reversed_again c.in_ok-reversed.reversed (omega arith)
    ∙ c.in_ok-reversed.ensures.only
    ∙ c.as_slice.ensures
