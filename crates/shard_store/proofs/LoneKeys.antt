-- A table whose key has one column: the rows that begin with a value are those of its key.
use Rattle.std.proofs.Common.{◌≡◌, ℕ, List, [], ◌∷◌, refl, length, filter}
use Rattle.std.specs.Ordering.{is_eq, ordering_then}
use Rattle.std.specs.declared.cmp.Ordering.{Ordering}
use Rattle.std.specs.declared.cmp.Ordering.TheVariants.{Less, Equal, Greater}
use Rattle.vt_value.specs.declared.value.Value.{Value}
use Rattle.vt_value.specs.Values.{Row, value_at, value_cmp, same_row}
use Rattle.shard_store.specs.Tables.{has_key, begins_with}

same_value : (v x : Value) → same_row (v ∷ []) (x ∷ []) ≡ is_eq (value_cmp v x)
same_value v x = by (value_cmp v x) refl
  where
    by : (o : Ordering) → value_cmp v x ≡ o → is_eq (ordering_then (value_cmp v x) Equal) ≡ is_eq (value_cmp v x)
    by Less t = simp t
    by Equal t = simp t
    by Greater t = simp t

pub begun_alone : (ordinals : List ℕ) (v : Value) → length ordinals ≡ 1 → (rows : List Row) → filter (has_key ordinals (v ∷ [])) rows ≡ filter (begins_with ordinals v) rows
begun_alone [] v one rows = absurd (cc one)
begun_alone (c ∷ []) v one rows = λ i. filter (λ row. same_value v (value_at row c) i) rows
begun_alone (c ∷ d ∷ ordinals) v one rows = absurd (cc one)
