-- What a call of a limit makes of it.
use Rattle.std.specs.Prelude.{ℕ, ◌+◌, ◌≤◌, Bool, Option, Some, None, if◌then◌else◌}
use Rattle.sql_tree.specs.declared.LimitClause as sql
use Rattle.operators.specs.Calls.{CallsAtMost, most_calls}
use Rattle.operators.specs.declared.slicing.Limit.{Limit}

-- how often so many calls still call the input at most
abbrev pub calls_left : Bool → Option sql.LimitClause → ℕ → ℕ
calls_left failed None calls = calls
calls_left failed (Some l) calls = if failed then 0 else most_calls (Some l) calls

-- A call takes its calls of the input from those that are left.
abbrev pub Spends : Bool → Option sql.LimitClause → ℕ → Bool → Option sql.LimitClause → Type 0
Spends failed None n failed' None = n ≤ 1
Spends failed None n failed' (Some l') = ⊥
Spends failed (Some l) n failed' None = ⊥
Spends failed (Some l) n failed' (Some l') = n + calls_left failed' (Some l') 0 ≤ calls_left failed (Some l) 0

abbrev pub LimitCall : {O : Type 0} → (O → O → Type 0) → Limit O → Limit O → Type 0
LimitCall call s t = (n : ℕ) × CallsAtMost call n s.input t.input × Spends s.failed s.rest n t.failed t.rest

-- the input of a limit
abbrev pub input_of : {O : Type 0} → Limit O → O
input_of limit = limit.input
