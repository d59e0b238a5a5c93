use denote.Param.Send.{sendable}
use Rattle.shard_run.proofs.Sent.{entry_send}
use Rattle.vtgate_serve.proofs.script.Printing.{on_ok, prints_after, kept_met}
use Rattle.vtgate_serve.proofs.script.sessions.run_after.Goals as goal

pub session-requires-send-L-Entry : goal.session-requires-send-L-Entry
session-requires-send-L-Entry g c κs within = search (entry_send, sendable)

pub meet-requires-send-L-Entry : goal.meet-requires-send-L-Entry
meet-requires-send-L-Entry g c κs within = search (entry_send, sendable)

pub meet-requires-2-send-L-Entry : goal.meet-requires-2-send-L-Entry
meet-requires-2-send-L-Entry g c κs within = search (entry_send, sendable)

pub execute-outcome-requires-clause-tx : goal.execute-outcome-requires-clause-tx
execute-outcome-requires-clause-tx g c κs within =
    kept_met g.W.World.opening c.args.pass.now c.meet.new.self _ _ c.meet.ensures.mine c.meet.ensures.seen.one c.meet.ensures.seen.own c.requires.tx

pub returns-clause-tx : goal.returns-clause-tx
returns-clause-tx g c =
    kept_met g.W.World.opening c.execute-outcome.new.pass c.meet-2.new.other _ _ c.meet-2.ensures.theirs c.meet-2.ensures.seen.other c.meet-2.ensures.seen.theirs
    c.execute-outcome.ensures.tx

pub returns-clause-prints : goal.returns-clause-prints
returns-clause-prints g c =
    on_ok c.write_outcome.result c.write_outcome.ensures (λ h. (
      h.0,
      h.1,
      prints_after g.W.World.opening g.W.World.limits c.args.sql.now h.0 c.execute-outcome.result c.args.pass.now c.args.all.now c.meet.new.self
          c.meet.new.other c.execute-outcome.new.pass c.meet-2.new.self c.meet-2.new.other c.args.tx.now c.execute-outcome.new.tx c.requires.trailing c.meet.ensures.seen
          c.meet.ensures.mine c.meet.ensures.theirs c.execute-outcome.ensures.ok c.execute-outcome.ensures.err c.meet-2.ensures.seen c.meet-2.ensures.theirs c.requires.tx
          c.requires.limits h.2,
    ))
