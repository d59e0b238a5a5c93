use Rattle.vtgate_serve.proofs.script.Places.{has_run}
use Rattle.vtgate_serve.proofs.script.sessions.Sessions.run_statement.Goals as goal

pub returns-in-Ok-run_at : goal.returns-in-Ok-run_at
returns-in-Ok-run_at g c =
    let r = c.in-Ok-run_at.ensures in
    record {
      runs = (
        r.0,
        r.2,
        has_run g.W.World.opening c.args.self.now c.ordinal_or_open.new.self c.run_at.new.self c.args.name.now c.args.sql.now r.0 c.in-Ok.ordinal r.1
            c.in-Ok.ensures r.3 r.4,
      );
      fault = tt;
    }
