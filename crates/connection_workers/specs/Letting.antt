-- What a source of connections yields.
use Rattle.std.specs.Prelude.{List, [], ◌∷◌, ◌++◌}

-- A source yielded these connections, one after the other, and is then so.
pub data HasYielded {E T : Type 0} (gives : E → T → E → Type 0) (from : E) : List T → E → Type 0 where
  none : HasYielded gives from [] from
  next : {given : List T} {mid now : E} {x : T} → HasYielded gives from given mid → gives mid x now → HasYielded gives from (given ++ x ∷ []) now

-- A source yielded these connections until it had no more.
pub record GaveAll {E T : Type 0} (gives : E → T → E → Type 0) (ends : E → E → Type 0) (from now : E) (given : List T) : Type 0 where
  pub last : E
  pub gave : HasYielded gives from given last
  pub ended : ends last now
