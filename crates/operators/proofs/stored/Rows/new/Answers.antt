use Rattle.std.proofs.Common.{◌≡◌, ◌<◌, List, [], ◌∷◌, length, reverse, refl, arith}
use Rattle.operators.proofs.stored.Rows.new.Goals as goal

one_way : {X : Type 0} (rows : List X) → length rows < 2 → reverse rows ≡ rows
one_way [] h = refl
one_way (row ∷ []) h = refl
one_way (row ∷ other ∷ rows) h = absurd (omega (arith, h))

pub returns-then-len-lt2 : goal.returns-then-len-lt2
returns-then-len-lt2 c = record { ok = one_way c.args.rows (rw (← c.len.ensures) c.if-len-lt2.true) }
