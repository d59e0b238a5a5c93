use Rattle.std.proofs.Common.{◌≡◌, ◌≤◌, length, take, slice_index_or}
use Rattle.std.specs.Prelude.{vec_capacity}
use Rattle.vschema.specs.Schema.{no_table}
use Rattle.session.specs.conversation.Columns.{AllDefined}
use Rattle.session.proofs.conversation.columns.columns_of.Given as goal

abbrev pub invariant-loop-item : goal.invariant-loop-item
invariant-loop-item l = record {
  defined : AllDefined l.schema (slice_index_or l.schema.tables l.table no_table) l.join l.qualified 0 (take l.item-index l.items) l.columns.items;
  len : length l.columns.items ≡ l.item-index;
  room : length l.items ≤ vec_capacity l.columns;
}
