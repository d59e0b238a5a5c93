use Rattle.std.proofs.Common.{◌≡◌}
use Rattle.std.proofs.lemmas.Result.{IfOk-weaker}
use Rattle.vschema.specs.TypedWrites.{IsTypedWrite}
use Rattle.test_engine.specs.shard_limits.SmallWorld.{small_schema}
use Rattle.test_engine.specs.shard_limits.inner.SmallWorld.{insert_of, update_all}
use Rattle.test_engine.proofs.shard_limits.SmallWorld.{typed_insert, typed_update, typed_delete}
use Rattle.test_engine.proofs.shard_limits.writing.written.Goals as goal

pub returns-in-Insert-clause-typed : goal.returns-in-Insert-clause-typed
returns-in-Insert-clause-typed c =
    IfOk-weaker c.insert.result (λ w. w ≡ insert_of c.in-Insert.id) (IsTypedWrite small_schema)
    (λ w is. rw is (typed_insert c.in-Insert.id c.if-id-lt4.true)) c.insert.ensures

pub returns-in-Update-clause-typed : goal.returns-in-Update-clause-typed
returns-in-Update-clause-typed c =
    IfOk-weaker c.update.result (λ w. w ≡ update_all) (IsTypedWrite small_schema) (λ w is. rw is typed_update) c.update.ensures

pub returns-in-Delete-clause-typed : goal.returns-in-Delete-clause-typed
returns-in-Delete-clause-typed c = rw c.delete.ensures typed_delete
