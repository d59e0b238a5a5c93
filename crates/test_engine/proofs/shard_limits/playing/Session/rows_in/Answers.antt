use Rattle.test_engine.proofs.shard_limits.Here.{here_same}
use Rattle.test_engine.proofs.shard_limits.playing.Session.rows_in.Goals as goal

pub returns-in_err-next_statement : goal.returns-in_err-next_statement
returns-in_err-next_statement g c =
    record { tied = here_same c.args.tx.now c.args.self.now.pass c.next_statement.new.self.pass c.next_statement.ensures.seen c.requires.tied }

pub returns-in_err-query : goal.returns-in_err-query
returns-in_err-query g c =
    record { tied = here_same c.args.tx.now c.args.self.now.pass c.next_statement.new.self.pass c.next_statement.ensures.seen c.requires.tied }

pub rows_by-rows-requires-clause-tied : goal.rows_by-rows-requires-clause-tied
rows_by-rows-requires-clause-tied g c =
    here_same c.args.tx.now c.args.self.now.pass c.next_statement.new.self.pass c.next_statement.ensures.seen c.requires.tied
