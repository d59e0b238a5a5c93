use Rattle.std.proofs.Common.{◌≡◌, ◌∙◌, ap, sym}
use Rattle.vindex.specs.inner.Swaps.{blocks}
use Rattle.vindex.proofs.Swaps.{bits_alone, pairs, swapped, mask}
use Rattle.vindex.proofs.vindexes.reversed_in_bytes.Goals as goal

pub returns : goal.returns
returns c =
    let n = c.args.n in
    let one : swapped 1 (mask 1 32) n ≡ blocks 2 32 n = ap (swapped 1 (mask 1 32)) (sym (bits_alone 64 n c.ranges.n.fits)) ∙ pairs 1 32 n in
    let two : swapped 2 (mask 2 16) (swapped 1 (mask 1 32) n) ≡ blocks 4 16 n = ap (swapped 2 (mask 2 16)) one ∙ pairs 2 16 n in
    ap (swapped 4 (mask 4 8)) two ∙ pairs 4 8 n
