use Rattle.std.proofs.Common.{ap, sym, ◌∙◌, arith}
use Rattle.prepared_statements.specs.Holes.{all_long, no_long}
use Rattle.prepared_statements.proofs.HoleLaws.{none_long, put_size, cleared_alike}
use Rattle.prepared_statements.proofs.long_data.LongData.take.Goals as goal

pub invariant_of-self : goal.invariant_of-self
invariant_of-self c =
    let t = c.in-Ok.ensures.ok in
    omega (arith, c.self.invariant, t.3, ap all_long t.5, put_size c.self.inside.holes.items t.0 t.1 t.2.there)

pub invariant_of-self-in-Err : goal.invariant_of-self-in-Err
invariant_of-self-in-Err c = sym (ap all_long c.clear_holes.ensures ∙ none_long c.put_in.new.holes.items)

pub returns-in-Err-clause-err : goal.returns-in-Err-clause-err
returns-in-Err-clause-err c =
    c.clear_holes.ensures ∙ cleared_alike c.put_in.new.holes.items c.self.inside.holes.items c.in-Err.ensures.err ∙ ap no_long c.self.view_is
