use Rattle.std.proofs.Common.{ap, sym, ◌∙◌, arith}
use Rattle.prepared_statements.specs.Holes.{all_long}
use Rattle.prepared_statements.specs.Held as h
use Rattle.prepared_statements.proofs.HoleLaws.{none_long, put_size}
use Rattle.prepared_statements.proofs.HeldLaws.{is_faulty, is_sound, takes, not_taken}
use Rattle.prepared_statements.proofs.keeping.take.Goals as goal

pub returns-then-is_some-clause-takes : goal.returns-then-is_some-clause-takes
returns-then-is_some-clause-takes c = h.faulty (is_faulty c.args.held.now.fault (sym c.is_some.ensures ∙ c.if-is_some.true)).1

pub returns-in-Ok-clause-takes : goal.returns-in-Ok-clause-takes
returns-in-Ok-clause-takes c =
    takes c.args.room c.args.held.now c.args.bytes.now c.take.new.self (is_sound c.args.held.now.fault (sym c.is_some.ensures ∙ c.if-is_some.false)) c.in-Ok.ensures.ok

pub returns-in-Ok-clause-room : goal.returns-in-Ok-clause-room
returns-in-Ok-clause-room c =
    let t = c.in-Ok.ensures.ok in omega (arith, ap all_long t.4, put_size c.args.held.now.long t.0 t.1 t.2.there, t.3)

pub returns-in-Err-clause-takes : goal.returns-in-Err-clause-takes
returns-in-Err-clause-takes c =
    not_taken c.args.room c.args.held.now c.args.bytes.now c.take.new.self c.in-Err.why (is_sound c.args.held.now.fault (sym c.is_some.ensures ∙ c.if-is_some.false))
    c.in-Err.ensures.err c.in-Err.ensures.large c.in-Err.ensures.wrong

pub returns-in-Err-clause-room : goal.returns-in-Err-clause-room
returns-in-Err-clause-room c = omega (arith, ap all_long c.in-Err.ensures.err, none_long c.args.held.now.long)
