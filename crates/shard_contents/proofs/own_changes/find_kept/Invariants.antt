use Rattle.std.proofs.Common.{◌≡◌, ℕ, ◌≤◌, true, take}
use Rattle.std.specs.List.{list_any}
use Rattle.vt_value.specs.Values.{Row}
use Rattle.vschema.specs.Checks.{has_number}
use Rattle.shard_store.specs.Conditions.{is_kept}
use Rattle.shard_contents.specs.inner.OwnChanges.{is_positioned}
use Rattle.shard_contents.proofs.own_changes.find_kept.Given as goal

-- the positions of the tables so far are found
abbrev pub invariant-loop-changes : goal.invariant-loop-changes
invariant-loop-changes l =
    (row : Row) (n : ℕ) → is_kept l.fn.condition row ≡ true → n ≤ l.fn.most → list_any (is_positioned n l.fn.table row) (take l.changes-index l.fn.by_key) ≡ true
    → has_number l.found.items n ≡ true
