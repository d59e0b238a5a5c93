use Rattle.std.proofs.Common.{[], ◌∷◌, ◌++◌, ap, sym, ◌∙◌, append_assoc, append-nil}
use Rattle.aggregate.specs.Groups.{joined_rows}
use Rattle.aggregate.specs.inner.Grouping.{key_values}
use Rattle.aggregate.proofs.GroupingLemmas.{rows_given, begin_fits}
use Rattle.aggregate.proofs.groups.GroupMerge.new.Goals as goal

pub add-requires : goal.add-requires
add-requires g c =
    let rows = c.loop-parts.invariant.0 in
    let first = rw c.in-Some.is at c.in_ok-row.ensures.row in
    let all = ap (λ rest. rows ++ rest) (sym first) ∙ c.loop-parts.invariant.1 in
    (rows, c.loop-parts.invariant.2, begin_fits c.args.width rows (g.O.Operator.to_come c.next.new.self) (g.O.Operator.to_come c.args.input) c.in-Some.row all c.requires)

pub loop-parts-preserved : goal.loop-parts-preserved
loop-parts-preserved g c =
    let rows = c.loop-parts.invariant.0 in
    let first = rw c.in-Some.is at c.in_ok-row.ensures.row in (
      rows ++ c.in-Some.row ∷ [],
      append_assoc rows (c.in-Some.row ∷ []) (g.O.Operator.to_come c.next.new.self) ∙ ap (λ rest. rows ++ rest) (sym first) ∙ c.loop-parts.invariant.1,
      c.in_ok-add.ensures.ok rows c.loop-parts.invariant.2,
    )

pub returns : goal.returns
returns g c =
    record {
      ok = (let rows = c.loop-parts.invariant.0 in
          let none = rw c.in_default.is at c.in_ok-row.ensures.row in
          let all = sym (append-nil rows) ∙ ap (λ rest. rows ++ rest) (sym none.0) ∙ c.loop-parts.invariant.1 in
          c.from_vec.ensures ∙ c.in_ok-into_rows.ensures.ok
          ∙ rows_given c.args.aggregates.now c.args.width rows (key_values c.loop-parts.groups) c.loop-parts.groups.parts.items c.loop-parts.invariant.2
          ∙ ap (joined_rows c.args.aggregates.now c.args.width) all);
    }
