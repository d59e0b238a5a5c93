use Rattle.std.proofs.Common.{sym, ◌∙◌}
use Rattle.std.proofs.lemmas.Bool.{false≢true}
use Rattle.shard_calls.proofs.Calling.{was_committed, was_not_committed, was_clear, was_stopped}
use Rattle.shard_calls.proofs.transactions.commit_at.Goals as goal

pub returns-then-has_written-clause-ok : goal.returns-then-has_written-clause-ok
returns-then-has_written-clause-ok g c =
    let is = c.commit_in.ensures.commit in
    was_committed g.W.World.opening g.W.World.limits c.args.here.now c.shard-shard.result.now c.shard-shard.ensures.seat c.shard-shard.ensures.keyspace
    c.args.pass.now c.commit_in.new.pass c.args.pending.now is.0 is.1 is.2 is.3 c.commit_in.ensures.past
    (λ none. false≢true (sym (c.has_written.ensures.1 none) ∙ c.if-has_written.true)) c.commit_in.new.tx c.commit_in.result is.4

pub returns-in-Ok-clause-ok : goal.returns-in-Ok-clause-ok
returns-in-Ok-clause-ok g c =
    let is = c.in-Ok.ensures.check in
    was_clear g.W.World.opening g.W.World.limits c.args.here.now c.shard-shard.result.now c.shard-shard.ensures.seat c.shard-shard.ensures.keyspace
    c.args.pass.now c.check.new.pass c.args.pending.now is.0 is.1 is.2 is.3 c.in-Ok.ensures.past is.4 is.5.1 (c.has_written.ensures.0 c.if-has_written.false)

pub returns-in-Err-clause-err : goal.returns-in-Err-clause-err
returns-in-Err-clause-err g c =
    let is = c.in-Err.ensures.check in
    was_stopped g.W.World.opening g.W.World.limits c.args.here.now c.shard-shard.result.now c.shard-shard.ensures.seat c.shard-shard.ensures.keyspace
    c.args.pass.now c.check.new.pass c.args.pending.now is.0 is.1 is.2 is.3 c.in-Err.ensures.past is.4 c.in-Err.refusal is.5

pub returns-then-has_written-clause-err : goal.returns-then-has_written-clause-err
returns-then-has_written-clause-err g c =
    let is = c.commit_in.ensures.commit in
    was_not_committed g.W.World.opening g.W.World.limits c.args.here.now c.shard-shard.result.now c.shard-shard.ensures.seat c.shard-shard.ensures.keyspace
    c.args.pass.now c.commit_in.new.pass c.args.pending.now is.0 is.1 is.2 is.3 c.commit_in.ensures.past
    (λ none. false≢true (sym (c.has_written.ensures.1 none) ∙ c.if-has_written.true)) c.commit_in.new.tx c.commit_in.result is.4
