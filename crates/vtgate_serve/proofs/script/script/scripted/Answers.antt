use Rattle.std.proofs.Common.{List, ℕ, sym, subst}
use Rattle.std.proofs.lemmas.Result.{err_from_is_err_and}
use Rattle.keyrange.specs.declared.KeyRange.{KeyRange}
use Rattle.vtgate_lines.specs.Partitions.{NamesPartition}
use Rattle.vtgate_serve.specs.script.Wrong.{DeclaresNone}
use Rattle.vtgate_serve.specs.script.Wrong as w
use Rattle.vtgate_serve.proofs.script.Printing.{on_ok}
use Rattle.vtgate_serve.proofs.script.script.scripted.Goals as goal

pub returns-clause-ok : goal.returns-clause-ok
returns-clause-ok g c =
    let declared = c.in_ok-schema.ensures.first in
    on_ok c.run_in_world.result c.run_in_world.ensures.given (λ given. record {
      text = c.in_ok-text.text.items;
      consumed = c.in_ok-text.ensures.read;
      end = c.in_ok-text.ensures.end;
      declaration = declared.0;
      lines = c.in_ok-schema.lines.now;
      first = rw (sym c.deref-2.ensures.value) declared.1;
      schema = c.in_ok-schema.schema;
      declared = declared.2;
      ranges = c.in_ok-ranges.ranges.items;
      partition = c.in_ok-ranges.ensures.told;
      fit = rw (sym c.deref.ensures.value) c.in_ok-schema.ensures.fit;
      given = rw (sym c.deref-3.ensures.value) given;
    })

pub returns-in_err-ranges-clause-fault : goal.returns-in_err-ranges-clause-fault
returns-in_err-ranges-clause-fault g c =
    let p = err_from_is_err_and c.from_residual.result c.from_residual.ensures.1 in
    rw (p.1, p.2) (λ two. w.by_word (c.in_err-ranges.ensures.fault two))

pub returns-in_err-schema-clause-fault : goal.returns-in_err-schema-clause-fault
returns-in_err-schema-clause-fault g c =
    let p = err_from_is_err_and c.from_residual-in_err-schema.result c.from_residual-in_err-schema.ensures.1 in
    rw (p.1, p.2) (λ two.
    w.by_input c.in_ok-text.text.items c.in_ok-ranges.ranges.items c.in_ok-text.ensures.read c.in_ok-text.ensures.end c.in_ok-ranges.ensures.told
    (subst (λ (t : List ℕ). DeclaresNone t c.in_ok-ranges.ranges.items) c.deref-2.ensures.value
    (subst (λ (rs : List KeyRange). DeclaresNone c.deref-2.result.now rs) c.deref.ensures.value (c.in_err-schema.ensures.fault two))))
