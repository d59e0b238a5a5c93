use Rattle.std.proofs.Common.{◌≡◌, ◌++◌}
use Rattle.std.specs.Vec.Iter.{into_iter_items}
use Rattle.aggregate.specs.inner.Grouping.{key_values, finished_rows}
use Rattle.aggregate.proofs.KeyListLemmas.{values_of_keys}
use Rattle.aggregate.proofs.groups.Groups.into_rows.Given as goal

-- the rows that are made, and those of the groups that are left, are all
abbrev pub invariant-loop-key : goal.invariant-loop-key
invariant-loop-key l =
    l.rows.items ++ finished_rows l.columns (values_of_keys l.key-iterator) (into_iter_items l.parts) ≡ finished_rows l.columns (key_values l.fn.self) l.fn.self.parts.items
