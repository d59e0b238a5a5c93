use Rattle.std.proofs.Common.{◌≡◌, map}
use Rattle.shard_store.proofs.stored.sweep_tables.Given as goal

abbrev pub invariant-loop-ordinal : goal.invariant-loop-ordinal
invariant-loop-ordinal l = record {
  rows : map (λ t. t.rows) l.tables.items ≡ map (λ t. t.rows) l.fn.tables.items;
  ordinals : map (λ t. t.ordinals) l.tables.items ≡ map (λ t. t.ordinals) l.fn.tables.items;
}
