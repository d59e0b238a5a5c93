-- Ranges that share an id share the later one of their begins.
use Rattle.std.proofs.Common.{◌≡◌}
use Rattle.keyrange.specs.inner.Covers.{later}
use Rattle.keyrange.proofs.Order.{overlap_then, overlap_else}
use Rattle.keyrange.proofs.KeyRange.overlaps.Goals as goal

pub returns-then-contains : goal.returns-then-contains
returns-then-contains c =
    let start : c.later-start.result.now ≡ later c.args.self.now.begin c.args.other.now.begin = cc in
    overlap_then c.args.self.now c.args.other.now c.later-start.result.now c.contains-then-contains.result
    c.as_slice.ensures.bytes c.as_slice-2.ensures.bytes start (cc) (cc)

pub returns-else-contains : goal.returns-else-contains
returns-else-contains c =
    let start : c.later-start.result.now ≡ later c.args.self.now.begin c.args.other.now.begin = cc in
    overlap_else c.args.self.now c.args.other.now c.later-start.result.now c.contains.result
    c.as_slice.ensures.bytes c.as_slice-2.ensures.bytes start (cc) (cc)
