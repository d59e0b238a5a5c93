use Rattle.std.proofs.Common.{◌-◌, arith}
use Rattle.row_chunks.proofs.Changes.{open_begun, open_chunk}
use Rattle.row_chunks.proofs.chunks.Chunks.open_place.Goals as goal

pub returns-clause-open : goal.returns-clause-open
returns-clause-open g c = λ x at.
    let o = g.met.K.Ord.total in
    let some = open_begun o c.args.key.now c.args.self.now c.begun.ensures.parted c.requires in
    (open_chunk o c.args.key.now c.args.self.now (c.begun.result - 1) x c.begun.ensures.parted c.requires (omega (arith, some, c.begun.ensures.begun)) at).0

pub returns-clause-there : goal.returns-clause-there
returns-clause-there g c = λ x at.
    let o = g.met.K.Ord.total in
    let some = open_begun o c.args.key.now c.args.self.now c.begun.ensures.parted c.requires in
    (open_chunk o c.args.key.now c.args.self.now (c.begun.result - 1) x c.begun.ensures.parted c.requires (omega (arith, some, c.begun.ensures.begun)) at).1

pub returns-clause-place : goal.returns-clause-place
returns-clause-place g c =
    let some = open_begun g.met.K.Ord.total c.args.key.now c.args.self.now c.begun.ensures.parted c.requires in
    omega (arith, some, c.begun.ensures.begun)

pub returns-clause-fits : goal.returns-clause-fits
returns-clause-fits g c =
    let some = open_begun g.met.K.Ord.total c.args.key.now c.args.self.now c.begun.ensures.parted c.requires in
    omega (arith, some, c.begun.ensures.begun, c.begun.ensures.fits)

pub overflow_sub-result : goal.overflow_sub-result
overflow_sub-result g c =
    let some = open_begun g.met.K.Ord.total c.args.key.now c.args.self.now c.begun.ensures.parted c.requires in
    omega (arith, some, c.begun.ensures.begun)
