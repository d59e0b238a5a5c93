use Rattle.std.proofs.Common.{◌≡◌, ℕ, ◌+◌, ◌<◌, ◌++◌, List, Option, None, suc, length, take, drop, ap, subst, ◌∙◌, arith}
use Rattle.std.specs.Prelude.{slice_set}
use Rattle.prepared_statements.specs.Holes.{no_long}
use Rattle.prepared_statements.proofs.HoleLaws.{cleared_next, cleared_length}
use Rattle.prepared_statements.proofs.long_data.clear_holes.Goals as goal

pub loop-hole-preserved : goal.loop-hole-preserved
loop-hole-preserved c =
    let all = c.args.holes.now.items in
    let within : c.loop-hole.hole < length all = omega (arith, c.loop-hole-test.true, c.len.ensures, ap length c.loop-hole.invariant, cleared_length c.loop-hole.hole all) in
    let next : suc c.loop-hole.hole ≡ c.loop-hole.hole + 1 = omega arith in
    ap (λ (l : List (Option (List ℕ))). slice_set l c.loop-hole.hole None) c.loop-hole.invariant ∙ cleared_next c.loop-hole.hole all within
    ∙ ap (λ (i : ℕ). no_long (take i all) ++ drop i all) next
