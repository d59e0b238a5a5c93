use Rattle.std.proofs.Common.{◌≡◌, map, take}
use Rattle.shard_store.proofs.stored.snapshots.Given as goal

-- the tables so far are made, and all show what they did
abbrev pub invariant-loop-ordinal : goal.invariant-loop-ordinal
invariant-loop-ordinal l = record {
  rows : map (λ t. t.rows) l.tables.items ≡ map (λ t. t.rows) l.fn.tables.items;
  ordinals : map (λ t. t.ordinals) l.tables.items ≡ map (λ t. t.ordinals) l.fn.tables.items;
  made : map (λ t. t.rows) l.list.items ≡ take l.ordinal (map (λ t. t.rows) l.fn.tables.items);
  columns : map (λ t. t.ordinals) l.list.items ≡ take l.ordinal (map (λ t. t.ordinals) l.fn.tables.items);
}
