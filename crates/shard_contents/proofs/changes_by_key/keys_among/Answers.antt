use Rattle.std.proofs.lemmas.Result.{IfOk-weaker}
use Rattle.shard_contents.proofs.KeyPositions.{among_each}
use Rattle.shard_contents.proofs.changes_by_key.keys_among.Goals as goal

pub returns : goal.returns
returns c = record { ok = IfOk-weaker c.keys_of_each.result _ _ (λ keys e x h. among_each keys.items c.args.values.now x e h) c.keys_of_each.ensures.ok }
