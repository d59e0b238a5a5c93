use Rattle.shard_store.proofs.KeyOrdinals.{same_keys}
use Rattle.shard_store.proofs.key_columns.key_ordinals.Goals as goal

pub returns-in_err-push-clause-keys : goal.returns-in_err-push-clause-keys
returns-in_err-push-clause-keys c = λ right a b. same_keys a b c.args.table.now right

pub returns-in_err-push-2-clause-keys : goal.returns-in_err-push-2-clause-keys
returns-in_err-push-2-clause-keys c = λ right a b. same_keys a b c.args.table.now right

pub returns-clause-keys : goal.returns-clause-keys
returns-clause-keys c = λ right a b. same_keys a b c.args.table.now right
