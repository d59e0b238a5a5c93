use Rattle.std.proofs.lemmas.Result.{IfOk-weaker}
use Rattle.shard_contents.proofs.ChangeLists.{position_here}
use Rattle.shard_contents.proofs.changes_by_key.ChangesByKey.find_keyed.Goals as goal

pub returns-clause-ok : goal.returns-clause-ok
returns-clause-ok c =
    IfOk-weaker c.find_by_rows.result _ _ (λ known f is row n h within e. f is row n h within (position_here c.args.self.now n c.args.ordinal row e))
    c.find_by_rows.ensures.ok
