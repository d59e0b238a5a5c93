-- When a limit gives no more rows.
use Rattle.std.specs.Prelude.{Bool, false, ◌==◌, Option, Some, None}
use Rattle.sql_tree.specs.declared.LimitClause.{LimitClause}

-- no row is left to be given
abbrev pub is_spent : Option LimitClause → Bool
is_spent None = false
is_spent (Some l) = l.count == 0
