-- How often an operator is called.
use Rattle.std.specs.Prelude.{◌≡◌, ℕ, ◌+◌, ◌≤◌, ◌==◌, Option, Some, None, if◌then◌else◌, zero, suc}
use Rattle.sql_tree.specs.declared.LimitClause.{LimitClause}

-- So many calls of `next`, one after the other, lead from an operator to what it is then. `call` is what one of them may make of it.
abbrev pub Calls : {S : Type 0} → (S → S → Type 0) → ℕ → S → S → Type 0
Calls call zero s t = s ≡ t
Calls {S} call (suc n) s t = (u : S) × call s u × Calls call n u t

abbrev pub CallsAtMost : {S : Type 0} → (S → S → Type 0) → ℕ → S → S → Type 0
CallsAtMost call most s t = (n : ℕ) × (n ≤ most) × Calls call n s t

-- How often so many calls of a limit call its input at most: offset plus count times in all, and never if count is 0. Without LIMIT
-- each calls it once.
abbrev pub most_calls : Option LimitClause → ℕ → ℕ
most_calls None calls = calls
most_calls (Some l) calls = if l.count == 0 then 0 else l.offset + l.count
