use Rattle.std.proofs.Common.{◌≡◌, Bool, map, subst, ap, ◌∙◌}
use Rattle.std.specs.Prelude.{IfOk}
use Rattle.vschema.specs.WriteChecks.{has_twice}
use Rattle.vschema.proofs.Repeats.{sets_same}
use Rattle.vschema.proofs.twice.is_column_twice.Goals as goal

pub returns : goal.returns
returns c =
    let same = ap (λ ts. has_twice (map (λ n. n.now) ts)) c.deref.ensures.value ∙ ap has_twice c.in_ok-texts.ensures ∙ sets_same c.args.assignments.now in
    subst (λ (b : Bool). IfOk c.is_one_twice.result (λ twice. twice ≡ b)) same c.is_one_twice.ensures
