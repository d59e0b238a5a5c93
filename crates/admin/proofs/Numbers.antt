-- The line of a refusal by its number.
use Rattle.std.proofs.Common.{◌≡◌, ℕ, List, ◌++◌, sym, subst}
use Rattle.std.specs.Prelude.{codes}
use Rattle.std.specs.Fmt.{decimal}
use Rattle.vt_value.specs.declared.refusal.Refusal.{Refusal}
use Rattle.vt_value.specs.Refusals.{refusal_number}
use Rattle.vtgate_lines.specs.Printed.{line}

pub numbered : (r x : Refusal) → r ≡ x → (text digits : List ℕ) → decimal (refusal_number x) ≡ digits → text ≡ line (codes "F" ++ digits)
    → text ≡ line (codes "F" ++ decimal (refusal_number r))
numbered r x is text digits same h =
    subst (λ (y : Refusal). text ≡ line (codes "F" ++ decimal (refusal_number y))) (sym is)
    (subst (λ (ds : List ℕ). text ≡ line (codes "F" ++ ds)) (sym same) h)
