use Rattle.std.proofs.Common.{sym}
use Rattle.vtgate_clients.proofs.connection.serve_connection.Goals as goal

pub returns-clause-talk : goal.returns-clause-talk
returns-clause-talk g c = rw (sym c.salt_for-salt.ensures) c.serve.ensures.talk

pub returns-clause-alone : goal.returns-clause-alone
returns-clause-alone g c = rw (sym c.salt_for-salt.ensures) c.serve.ensures.alone
