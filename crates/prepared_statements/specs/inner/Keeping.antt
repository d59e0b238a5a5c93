-- How the statements that are held are kept.
use Rattle.std.specs.Prelude.{◌≡◌, ℕ, suc, ◌+◌, ◌≤◌, ◌<◌, ◌==◌, false, List, [], ◌∷◌, length, sum_by}
use Rattle.prepared_statements.specs.declared.held.Numbered.{Numbered}
use Rattle.prepared_statements.specs.Held.{max_statements, text_size, statement_long}

-- the first statement of a number, and where it is
pub data IsFirst (n : ℕ) : List Numbered → ℕ → Numbered → Type 0 where
  here : {s : Numbered} {more : List Numbered} → s.number ≡ n → IsFirst n (s ∷ more) 0 s
  later : {t s : Numbered} {more : List Numbered} {k : ℕ} → t.number == n ≡ false → IsFirst n more k s → IsFirst n (t ∷ more) (suc k) s

-- each number is greater than the one before, from above one to no more than another
abbrev pub Grow : ℕ → List Numbered → ℕ → Type 0
Grow low [] high = low ≤ high
Grow low (s ∷ more) high = (low < s.number) × Grow s.number more high

-- What is kept of statements: how much their texts count, how much long data they have, and the last number that was given.
pub record AreKept (size long last : ℕ) (statements : List Numbered) : Type 0 where
  pub few : length statements ≤ max_statements
  pub sizes : size ≡ sum_by text_size statements
  pub longs : long ≡ sum_by statement_long statements
  pub grow : Grow 0 statements last
