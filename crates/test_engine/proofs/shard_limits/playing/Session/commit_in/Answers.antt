use Rattle.std.proofs.Common.{ap, ◌∙◌}
use Rattle.serving.specs.Partitions.{Seat}
use Rattle.shard_calls.specs.Seats.{place_at}
use Rattle.test_engine.proofs.shard_limits.Here.{here_same}
use Rattle.test_engine.proofs.shard_limits.playing.Session.commit_in.Goals as goal

pub commit_in-requires-clause-tied : goal.commit_in-requires-clause-tied
commit_in-requires-clause-tied g c s slot place =
    here_same c.args.tx.now c.args.self.now.pass c.next_statement.new.self.pass c.next_statement.ensures.seen c.requires.tied s
    (slot ∙ ap (λ (v : Seat). v.0) c.next_statement.new.self.here) (place ∙ ap place_at c.next_statement.new.self.here)
