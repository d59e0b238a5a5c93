use Rattle.std.proofs.Common.{◌≡◌, ℕ, ◌≤◌, true, take}
use Rattle.vt_value.specs.Values.{Row}
use Rattle.vschema.specs.Checks.{has_number}
use Rattle.shard_contents.specs.inner.OwnChanges.{has_position, is_key_among}
use Rattle.shard_contents.proofs.changes_by_key.ChangesByKey.find_each.Given as goal

-- the positions of the keys so far are found, and what was found before
abbrev pub invariant-loop-key : goal.invariant-loop-key
invariant-loop-key l = record {
  kept : (n : ℕ) → has_number l.fn.found.items n ≡ true → has_number l.found.items n ≡ true;
  found : (key : Row) (n : ℕ) → is_key_among (take l.key-index l.keys) key ≡ true → n ≤ l.most → has_position l.self key n ≡ true
      → has_number l.found.items n ≡ true;
}
