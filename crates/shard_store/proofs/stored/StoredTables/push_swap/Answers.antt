use Rattle.std.proofs.Common.{◌≡◌, ◌∙◌, List, sym, ap, subst}
use Rattle.std.specs.List.{AllByRecursion}
use Rattle.vt_value.specs.Values.{Row}
use Rattle.shard_store.specs.declared.key.RowKey.{RowKey}
use Rattle.shard_store.specs.declared.key.KeyedChange.{KeyedChange}
use Rattle.shard_store.specs.declared.key.KeyedChange.TheVariants.{Swap}
use Rattle.shard_store.specs.Tables.{key_at}
use Rattle.shard_store.specs.Stores.{ordinals_of, IsByItsKey}
use Rattle.shard_store.proofs.Splits.{keys_push}
use Rattle.shard_store.proofs.stored.StoredTables.push_swap.Goals as goal

pub returns-clause-keys : goal.returns-clause-keys
returns-clause-keys c =
    let columns = ordinals_of c.args.self.now c.args.ordinal in
    let swap = c.in_ok-swap.swap in
    let key = ap (λ (k : RowKey). k.values) c.in_ok-swap.ensures.key in
    let old : swap.key.values ≡ key_at columns swap.old =
    key ∙ (sym (c.are_same.ensures c.if-not-are_same.false) ∙ (c.in_ok-old_key.ensures.ok ∙ ap (λ (r : Row). key_at columns r) (c.get.ensures ∙ sym c.in_ok-swap.ensures.old))) in
    let new : swap.key.values ≡ key_at columns swap.new =
    key ∙ (c.in_ok-key.ensures.ok ∙ ap (λ (r : Row). key_at columns r) (c.get-2.ensures ∙ sym c.in_ok-swap.ensures.new)) in
    subst (λ (l : List KeyedChange). AllByRecursion (IsByItsKey c.args.self.now) l) (sym c.in_ok-push.ensures.items)
    (keys_push c.args.self.now c.args.keyed.now.items (Swap c.args.ordinal swap) c.requires (old, new))
