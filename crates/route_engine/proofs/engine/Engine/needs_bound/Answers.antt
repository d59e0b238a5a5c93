use Rattle.std.proofs.Common.{refl, sym, ◌∙◌}
use Rattle.std.proofs.lemmas.Bool.{false≢true}
use Rattle.route_engine.proofs.Homes.{is_seat, is_other}
use Rattle.route_engine.proofs.engine.Engine.needs_bound.Goals as goal

pub returns-then-is_at-clause-bound : goal.returns-then-is_at-clause-bound
returns-then-is_at-clause-bound g c = λ yes.
    is_seat c.args.routed.now.table.now c.args.routed.now.route.now c.parts.result.now c.partition_for-partition.result.now c.parts.ensures.seats c.partition_for-partition.ensures.home
    c.in-Some.part.now (rw c.in-Some.is at c.in_ok-part.ensures.ok) c.parts.ensures.partition c.args.here.now
    c.partition_for-partition.ensures.kept (c.is_at.ensures.0 c.if-is_at.true)

pub returns-else-is_at-clause-err : goal.returns-else-is_at-clause-err
returns-else-is_at-clause-err g c = (
  refl,
  is_other c.args.routed.now.table.now c.args.routed.now.route.now c.parts.result.now c.partition_for-partition.result.now c.parts.ensures.seats c.partition_for-partition.ensures.home
      c.in-Some.part.now (rw c.in-Some.is at c.in_ok-part.ensures.ok) c.parts.ensures.partition c.args.here.now
      c.partition_for-partition.ensures.kept (λ e. false≢true (sym c.if-is_at.false ∙ c.is_at.ensures.1 e)),
)
