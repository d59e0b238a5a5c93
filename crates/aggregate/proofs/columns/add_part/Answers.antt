use Rattle.std.proofs.Common.{◌∷◌, [], sym, ap, subst, ◌∙◌}
use Rattle.vt_value.specs.declared.value.Value.{Value}
use Rattle.aggregate.specs.Groups.{joined_part}
use Rattle.aggregate.specs.inner.Columns.{CanJoin}
use Rattle.aggregate.proofs.PartsOfRows.{column_more, column_holds}
use Rattle.aggregate.proofs.columns.add_part.Goals as goal

pub join_part-requires : goal.join_part-requires
join_part-requires c =
    let a = c.args.aggregate.now in
    let (parts, is, small) = c.requires in
    subst (λ (p : Value × Value). CanJoin a p.0 p.1) (λ i. (sym is i, sym c.in_ok-copy.ensures.ok i)) (column_holds a parts c.args.part.now small)

pub returns-in_ok-copy : goal.returns-in_ok-copy
returns-in_ok-copy c =
    let a = c.args.aggregate.now in
    record {
      ok = λ parts is.
          c.join_part.ensures ∙ (λ i. joined_part a (is i ∷ c.in_ok-copy.ensures.ok i ∷ [])) ∙ column_more a parts c.args.part.now;
    }

pub returns-else-may_change : goal.returns-else-may_change
returns-else-may_change c =
    let a = c.args.aggregate.now in
    record {
      ok = λ parts is. sym (c.may_change.ensures c.if-may_change.false) ∙ ap (λ t. joined_part a (t ∷ c.args.part.now ∷ [])) is ∙ column_more a parts c.args.part.now;
    }
