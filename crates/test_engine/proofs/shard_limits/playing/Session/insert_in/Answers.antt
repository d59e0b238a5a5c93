use Rattle.test_engine.proofs.shard_limits.Here.{here_same}
use Rattle.test_engine.proofs.shard_limits.playing.Session.insert_in.Goals as goal

pub returns-in_err-next_statement : goal.returns-in_err-next_statement
returns-in_err-next_statement g c =
    record { tied = here_same c.args.tx.now c.args.self.now.pass c.next_statement.new.self.pass c.next_statement.ensures.seen c.requires.tied }

pub returns-in_err-row : goal.returns-in_err-row
returns-in_err-row g c = record { tied = here_same c.args.tx.now c.args.self.now.pass c.next_statement.new.self.pass c.next_statement.ensures.seen c.requires.tied }

pub write_in-requires-clause-tied : goal.write_in-requires-clause-tied
write_in-requires-clause-tied g c = here_same c.args.tx.now c.args.self.now.pass c.next_statement.new.self.pass c.next_statement.ensures.seen c.requires.tied
