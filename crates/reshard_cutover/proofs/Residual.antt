-- What a refusal is that is passed on.
use Rattle.std.proofs.Common.{◌≡◌, Result, Ok, Err, sym, subst}
use Rattle.std.specs.Prelude.{IfErr, IsErrAnd}
use Rattle.vt_value.specs.declared.refusal.Refusal.{Refusal}
use Rattle.reshard_cutover.specs.declared.fault.ReshardFault.{ReshardFault}
use Rattle.reshard_cutover.specs.declared.fault.ReshardFault.TheVariants.{Refused}

pub residual_same : {X E : Type 0} (r : Result X E) (e : E) (P : E → Type 0) → IsErrAnd r (λ f. f ≡ e) → P e → IfErr r P
residual_same (Ok x) e P h p = tt
residual_same (Err f) e P h p = subst P (sym h) p

-- the fault that a `?` makes of a refusal
pub residual : {X : Type 0} (r : Result X ReshardFault) (e : Refusal) (P : ReshardFault → Type 0) → IsErrAnd r (λ f. f ≡ Refused e) → P (Refused e) → IfErr r P
residual r e P h p = residual_same r (Refused e) P h p
