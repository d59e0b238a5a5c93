use Rattle.std.proofs.lemmas.Result.{IfOk-weaker}
use Rattle.serde_json.specs.View.{view}
use Rattle.vschema_json.proofs.Formats.{names_apart}
use Rattle.vschema_json.proofs.reading.read_document.Goals as goal

pub returns-clause-distinct : goal.returns-clause-distinct
returns-clause-distinct c =
    IfOk-weaker c.read_object.result _ _ (λ ks e. names_apart (view c.in_ok-needed.field-0.now) ks e c.read_object.ensures.distinct) c.read_object.ensures.ok
