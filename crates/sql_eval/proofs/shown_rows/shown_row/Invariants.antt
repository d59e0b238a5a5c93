use Rattle.std.proofs.Common.{◌≡◌, take, map, length}
use Rattle.std.specs.Prelude.{vec_len, vec_capacity}
use Rattle.aggregate.specs.Slices.{columns_of}
use Rattle.sql_eval.specs.Grouping.{shown_ordinal}
use Rattle.sql_eval.proofs.shown_rows.shown_row.Given as goal

-- the values so far, and room for the others
abbrev pub invariant-loop-item : goal.invariant-loop-item
invariant-loop-item l = record {
  shown : l.values.items ≡ columns_of (map shown_ordinal (take l.item-index l.items)) l.row;
  count : vec_len l.values ≡ l.item-index;
  room : vec_capacity l.values ≡ length l.items;
}
