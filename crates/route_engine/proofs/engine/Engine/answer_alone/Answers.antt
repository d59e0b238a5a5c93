use Rattle.std.proofs.Common.{List, [], ◌∷◌, append-nil, sym, subst}
use Rattle.std.specs.Prelude.{IsSorted}
use Rattle.std.proofs.lemmas.List.Elements.{All-head}
use Rattle.operators.specs.Orders.{row_cmp}
use Rattle.vt_value.specs.Values.{Row}
use Rattle.shard_calls.specs.Plans.{Finishes, CanJoin}
use Rattle.route_engine.proofs.engine.Engine.answer_alone.Goals as goal

pub answer_alone-requires : goal.answer_alone-requires
answer_alone-requires g c =
    let rows = c.in-Some.gathered.rows in
    let reads = c.in-Some.gathered.reads in
    let is = rw c.in-Some.is at c.in_ok-gathered.ensures.ok in
    record {
      order = λ plain.
          All-head (λ (piece : List Row). IsSorted (row_cmp c.args.read.now.plan.now.finish.order_by) piece) rows []
          (c.requires.order (rows ∷ []) reads c.ask_alone.new.pass is plain);
      fit = subst (CanJoin c.args.read.now.plan.now.finish.grouping) (append-nil rows) (c.requires.fit (rows ∷ []) reads c.ask_alone.new.pass is);
    }

pub returns-in-Ok-clause-ok : goal.returns-in-Ok-clause-ok
returns-in-Ok-clause-ok g c =
    let rows = c.in-Some.gathered.rows in
    record {
      pieces = rows ∷ [];
      scattered = rw c.in-Some.is at c.in_ok-gathered.ensures.ok;
      finished = subst (λ (l : List Row). Finishes c.args.read.now.plan.now.finish l c.in-Ok.answered) (sym (append-nil rows)) c.in-Ok.ensures.ok;
    }
