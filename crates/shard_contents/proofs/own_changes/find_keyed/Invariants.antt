use Rattle.std.proofs.Common.{◌≡◌, ℕ, ◌≤◌, true, take}
use Rattle.std.specs.List.{list_any}
use Rattle.vt_value.specs.Values.{Row}
use Rattle.vschema.specs.Checks.{has_number}
use Rattle.vschema.specs.Schema.{key_of}
use Rattle.vschema.specs.Database.{same_row}
use Rattle.shard_contents.specs.inner.OwnChanges.{is_positioned}
use Rattle.shard_contents.proofs.own_changes.find_keyed.Given as goal

-- the positions of the tables so far are found
abbrev pub invariant-loop-changes : goal.invariant-loop-changes
invariant-loop-changes l =
    (row : Row) (n : ℕ) → list_any (λ m. same_row (key_of l.fn.table m) (key_of l.fn.table row)) l.fn.new ≡ true → n ≤ l.fn.most
    → list_any (is_positioned n l.fn.ordinal row) (take l.changes-index l.fn.by_key) ≡ true → has_number l.found.items n ≡ true
