use Rattle.std.proofs.Common.{◌≡◌, ◌∷◌, [], Ok, IfOk, ap, sym, subst, ◌∙◌, rules}
use Rattle.std.specs.Prelude.{List}
use Rattle.shard_calls.specs.declared.reply.ShardRead.{ShardRead}
use Rattle.shard.specs.Shards.{AnswersQuery}
use Rattle.shard_calls.specs.inner.Scatter.{IsScattered}
use Rattle.shard_calls.proofs.Alone.{scattered_alone, held_up_alone}
use Rattle.shard_calls.proofs.scatter.read_alone.Goals as goal

pub returns-in_ok-push-in-Ok-Rows-clause-ok : goal.returns-in_ok-push-in-Ok-Rows-clause-ok
returns-in_ok-push-in-Ok-Rows-clause-ok g c = λ t plan seats is.
    let o = g.W.World.opening in
    let r = rw c.shard_of-shard.ensures at c.read-outcome.ensures.read in
    let past = rw c.shard_of-shard.ensures at c.read-outcome.ensures.past in
    let slot : c.slot-slot.result ≡ c.args.part.now.0 = rw c.shard_of-shard.ensures at c.slot-slot.ensures in
    let reads : c.push.new.self ≡ record { slot = c.slot-slot.result; entries = c.in-Ok-Rows.reading.entries } ∷ [] = search rules in
    let answered =
    subst (λ x. IfOk x (AnswersQuery o c.read-outcome.new.pass.seen r.0 c.args.query.now)) (c.in-Ok-Rows.is ∙ ap Ok c.in-Ok-Rows.field-0-is) r.5 in
    subst (λ (l : List ShardRead). IsScattered o t plan c.args.pass.now (c.in-Ok-Rows.reading.rows ∷ []) l c.read-outcome.new.pass)
    (sym (reads ∙ ap (λ n. record { slot = n; entries = c.in-Ok-Rows.reading.entries } ∷ []) slot))
    (scattered_alone o t plan seats c.args.part.now c.args.query.now is c.args.pass.now c.read-outcome.new.pass r.0 r.1 r.2 r.3 r.4 past c.in-Ok-Rows.reading c.requires.legal answered)

pub returns-in-Ok-NotServing-clause-stalled : goal.returns-in-Ok-NotServing-clause-stalled
returns-in-Ok-NotServing-clause-stalled g c = λ t plan seats is.
    let o = g.W.World.opening in
    let r = rw c.shard_of-shard.ensures at c.read-outcome.ensures.read in
    let past = rw c.shard_of-shard.ensures at c.read-outcome.ensures.past in
    let answered =
    subst (λ x. IfOk x (AnswersQuery o c.read-outcome.new.pass.seen r.0 c.args.query.now)) (c.in-Ok-NotServing.is ∙ ap Ok c.in-Ok-NotServing.field-0-is) r.5 in
    held_up_alone o t plan seats c.args.part.now c.args.query.now is c.args.pass.now c.read-outcome.new.pass r.0 r.1 r.2 r.3 r.4 past answered
