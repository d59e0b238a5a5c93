use Rattle.std.proofs.Common.{◌≡◌, ◌++◌, List, [], ◌∷◌, length, ap, ◌∙◌}
use Rattle.shard_run.specs.declared.ShardRecord.{ShardRecord}
use Rattle.shard_run.specs.opening.Empty.{full_range, keyspace_shards, unsharded_keyspace, sharded_keyspace}
use Rattle.shard_run.proofs.opening.Opens.{asked, opens}
use Rattle.shard_run.proofs.opening.shards.opening_shards.Goals as goal

-- src/opening.rt:78:5
pub returns-in_err-push_shards-clause-opening : goal.returns-in_err-push_shards-clause-opening
returns-in_err-push_shards-clause-opening c = λ well fit. opens c.args.schema.now c.args.ranges.now well fit

-- src/opening.rt:79:5
pub returns-in_err-push_shards-2-clause-opening : goal.returns-in_err-push_shards-2-clause-opening
returns-in_err-push_shards-2-clause-opening c = λ well fit. opens c.args.schema.now c.args.ranges.now well fit

-- src/opening.rt:66:1
pub returns-clause-shards : goal.returns-clause-shards
returns-clause-shards c =
    let schema = c.args.schema.now in
    let ranges = c.args.ranges.now in
    let keyspace = c.unsharded_keyspace.result in
    let full = c.full.result in
    let first : c.push_shards.new.shards ≡ [] ++ keyspace_shards 0 (unsharded_keyspace schema) (full_range ∷ []) =
    c.in_ok-push_shards.ensures ∙ (ap (λ (z : List ShardRecord). z ++ keyspace_shards (length z) keyspace (full ∷ [])) c.new-shards.ensures
    ∙ (ap (λ k. keyspace_shards 0 k (full ∷ [])) c.unsharded_keyspace.ensures
    ∙ ap (λ range. keyspace_shards 0 (unsharded_keyspace schema) (range ∷ [])) c.full.ensures)) in
    let shards = c.push_shards.new.shards in
    let second : c.push_shards-2.new.shards ≡ shards ++ keyspace_shards (length shards) (sharded_keyspace schema) ranges =
    c.in_ok-push_shards-2.ensures ∙ ap (λ k. shards ++ keyspace_shards (length shards) k ranges) c.sharded_keyspace.ensures in
    asked schema ranges shards c.push_shards-2.new.shards first second

-- src/opening.rt:66:1
pub returns-clause-opening : goal.returns-clause-opening
returns-clause-opening c = λ well fit. opens c.args.schema.now c.args.ranges.now well fit
