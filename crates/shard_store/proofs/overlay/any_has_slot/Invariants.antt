use Rattle.std.proofs.Common.{◌≡◌, drop}
use Rattle.std.specs.List.{list_any}
use Rattle.shard_store.specs.Slots.{rows_in}
use Rattle.shard_store.specs.Tables.{key_at, has_key}
use Rattle.shard_store.specs.inner.Overlays.{left_of}
use Rattle.shard_store.proofs.overlay.any_has_slot.Given as goal

-- the other new rows decide it
abbrev pub invariant-loop-row : goal.invariant-loop-row
invariant-loop-row l =
    list_any (λ n. list_any (has_key l.stored.ordinals (key_at l.stored.ordinals n)) (left_of l.gone (rows_in l.stored.slots))) (drop l.row-index l.new)
    ≡ list_any (λ n. list_any (has_key l.stored.ordinals (key_at l.stored.ordinals n)) (left_of l.gone (rows_in l.stored.slots))) l.new
