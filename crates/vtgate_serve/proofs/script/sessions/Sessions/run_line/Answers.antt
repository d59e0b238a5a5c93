use Rattle.vtgate_serve.specs.script.Scripted.{unknown_text}
use Rattle.vtgate_serve.specs.script.Scripted as s
use Rattle.vtgate_serve.proofs.script.Printing.{on_ok}
use Rattle.vtgate_serve.proofs.script.Scripts.{admin_run}
use Rattle.vtgate_serve.proofs.script.sessions.Sessions.run_line.Goals as goal

pub returns-in-Statement-clause-gives : goal.returns-in-Statement-clause-gives
returns-in-Statement-clause-gives g c =
    let says = rw c.in-Statement.is at c.read_line.ensures in
    on_ok c.run_statement.result c.run_statement.ensures.runs
    (λ h. (h.0, h.1, λ p held. let then = h.2 p held in (then.0, then.1, s.statement c.in-Statement.name.now c.in-Statement.sql.now says then.2)))

pub returns-in-Admin-clause-gives : goal.returns-in-Admin-clause-gives
returns-in-Admin-clause-gives g c =
    let says = rw c.in-Admin.is at c.read_line.ensures in
    on_ok c.run_admin.result c.run_admin.ensures.told
    (λ h. (
      _,
      h.3,
      admin_run g.W.World.opening c.args.self.now c.run_admin.new.self c.args.administrator.now c.run_admin.new.administrator c.args.line.now
          c.in-Admin.words.now h.1 h.2 h.0 says h.4 h.5 h.6 h.7,
    ))

pub returns-in-Unknown-clause-gives : goal.returns-in-Unknown-clause-gives
returns-in-Unknown-clause-gives g c =
    let says = rw c.in-Unknown.is at c.read_line.ensures in
    on_ok c.write_all.result c.write_all.ensures.written
    (λ h. (unknown_text, h, λ p held. (p, held, s.unknown says.0 says.1)))
