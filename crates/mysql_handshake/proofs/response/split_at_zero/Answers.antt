use Rattle.std.proofs.Common.{◌≡◌, ◌-◌, List, ℕ, length, take, drop, arith, sym, ◌∙◌, subst, ◌++◌, ◌∷◌}
use Rattle.std.proofs.lemmas.Grind.{common_steps}
use Rattle.mysql_handshake.specs.Handshakes.{HasNoZero}
use Rattle.mysql_handshake.proofs.Zeros.{ends_in_zero, zero_splits}
use Rattle.mysql_handshake.proofs.response.split_at_zero.Goals as goal

pub returns-in_err-at-clause-only : goal.returns-in_err-at-clause-only
returns-in_err-at-clause-only c text rest none whole = absurd (ends_in_zero text rest (subst HasNoZero whole c.in_err-at.ensures.none))

pub returns-clause-only : goal.returns-clause-only
returns-clause-only c text rest none whole =
    let front = c.split_at.result.0.now in
    let back = c.split_at.result.1.now in
    let trailing : List ℕ = take (length back - 1) (drop 1 back) in
    let found : c.args.bytes.now ≡ front ++ (0x00 ∷ trailing) = grind (arith, common_steps) in
    let first : HasNoZero front = subst HasNoZero (sym c.split_at.ensures.front) c.in_ok-at.ensures.first in
    zero_splits front text trailing rest first none (sym found ∙ whole)
