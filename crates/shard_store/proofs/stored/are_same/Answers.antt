use Rattle.std.proofs.Common.{◌∙◌, sym, ap}
use Rattle.std.specs.Cmp.{Equal-is}
use Rattle.shard_store.specs.Keys.{row_key_cmp}
use Rattle.shard_store.specs.declared.key.RowKey.{RowKey}
use Rattle.shard_store.specs.Proofs.KeyLemmas.{key-same}
use Rattle.shard_store.proofs.stored.are_same.Goals as goal

pub returns : goal.returns
returns c = λ t. ap (λ (k : RowKey). k.values) (key-same c.args.a.now c.args.b.now ((Equal-is (row_key_cmp c.args.a.now c.args.b.now)).0 (sym c.eq.ensures ∙ t)))
