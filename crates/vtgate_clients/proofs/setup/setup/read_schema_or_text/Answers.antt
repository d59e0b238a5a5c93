use Rattle.std.proofs.Common.{◌≡◌, List, ℕ, subst}
use Rattle.std.specs.Prelude.{Ok}
use Rattle.vschema.specs.Meant.{contents, schema_read}
use Rattle.vtgate_clients.specs.setup.Statuses as w
use Rattle.vtgate_clients.specs.setup.Statuses.{IsNoSchema}
use Rattle.vtgate_clients.proofs.setup.Fits.{fits}
use Rattle.vtgate_clients.proofs.setup.setup.read_schema_or_text.Goals as goal

pub returns-in-Ok-clause-fit : goal.returns-in-Ok-clause-fit
returns-in-Ok-clause-fit g c =
    fits c.in-Ok.schema c.requires.0 c.args.ranges.now c.requires.1 (c.has_too_many.ensures.few c.if-has_too_many.false c.requires.1.few)

pub returns-then-has_too_many-clause-fault : goal.returns-then-has_too_many-clause-fault
returns-then-has_too_many-clause-fault g c = λ two word names. w.by_both c.in-Ok.schema c.args.ranges.now
    (record {
      text = c.in_ok-bytes.bytes.items;
      consumed = c.in_ok-bytes.ensures.read;
      end = c.in_ok-bytes.ensures.end;
      declared = subst (λ (t : List ℕ). schema_read t ≡ Ok (contents c.in-Ok.schema)) c.deref.ensures.value c.in-Ok.ensures.declared;
    })
    names (c.has_too_many.ensures.many c.if-has_too_many.true)

pub returns-clause-fault : goal.returns-clause-fault
returns-clause-fault g c = λ two word names. w.by_input c.in_ok-bytes.bytes.items c.in_ok-bytes.ensures.read c.in_ok-bytes.ensures.end
    (subst IsNoSchema c.deref.ensures.value (c.in-Err.ensures.fault two))
