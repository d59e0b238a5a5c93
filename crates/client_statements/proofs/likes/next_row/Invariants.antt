use Rattle.std.proofs.Common.{◌≡◌, ◌≤◌, ◌<◌, ℕ, suc, false, length, drop, get_or}
use Rattle.client_statements.specs.inner.Rows.{next_row}
use Rattle.client_statements.proofs.likes.next_row.Given as goal

abbrev pub invariant-loop-at : goal.invariant-loop-at
invariant-loop-at l = record {
  within : l.at ≤ length l.text;
  size : length l.row ≡ suc (length l.text);
  before : (k : ℕ) → k < l.at → get_or l.row k false ≡ get_or l.fn.row k false;
  passed : l.passed ≡ get_or l.fn.row l.at false;
  after : drop l.at l.row ≡ next_row l.piece (drop l.at l.text) (drop l.at l.fn.row);
}

abbrev pub decreases-loop-at : goal.decreases-loop-at
decreases-loop-at l = l.at
