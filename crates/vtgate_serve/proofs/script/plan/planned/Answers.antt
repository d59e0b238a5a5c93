use Rattle.std.proofs.Common.{sym}
use Rattle.std.proofs.lemmas.Result.{err_from_is_err_and}
use Rattle.vtgate_clients.specs.setup.Statuses as w
use Rattle.vtgate_serve.proofs.script.plan.planned.Goals as goal

pub returns-in-Ok-clause-ok : goal.returns-in-Ok-clause-ok
returns-in-Ok-clause-ok g c =
    record {
      schema = c.in_ok-schema.schema;
      ranges = c.in_ok-ranges.ranges.items;
      read = c.in_ok-schema.ensures.read;
      partition = c.in_ok-ranges.ensures.told;
      plan = rw (sym c.deref-2.ensures.value) c.in-Ok.ensures.ok;
    }

pub returns-in_err-ranges-clause-fault : goal.returns-in_err-ranges-clause-fault
returns-in_err-ranges-clause-fault g c =
    let p = err_from_is_err_and c.from_residual.result c.from_residual.ensures.1 in
    rw (p.1, p.2) (λ two. w.by_word (c.in_err-ranges.ensures.fault two))

pub returns-in_err-schema-clause-fault : goal.returns-in_err-schema-clause-fault
returns-in_err-schema-clause-fault g c =
    let p = err_from_is_err_and c.from_residual-in_err-schema.result c.from_residual-in_err-schema.ensures.1 in
    rw (p.1, p.2) (λ two. c.in_err-schema.ensures.fault two c.args.shards.now (rw c.deref.ensures.value c.in_ok-ranges.ensures.told))
