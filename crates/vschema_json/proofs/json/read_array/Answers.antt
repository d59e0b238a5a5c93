use Rattle.std.proofs.Common.{sym}
use Rattle.serde_json.specs.View.{view}
use Rattle.vschema_json.proofs.Lists.{array_seen}
use Rattle.vschema_json.proofs.json.read_array.Goals as goal

pub returns-in-Some-clause-ok : goal.returns-in-Some-clause-ok
returns-in-Some-clause-ok g c = rw (array_seen g.T.Element.reads c.in-Some.elements.now.items (view c.args.value.now) c.in-Some.ensures, sym c.as_slice.ensures.value) c.read_elements.ensures.ok

pub returns-in-Some-clause-err : goal.returns-in-Some-clause-err
returns-in-Some-clause-err g c = rw (array_seen g.T.Element.reads c.in-Some.elements.now.items (view c.args.value.now) c.in-Some.ensures, sym c.as_slice.ensures.value) c.read_elements.ensures.err
