use Rattle.std.proofs.Common.{◌≡◌, Option, subst, ◌∙◌}
use Rattle.std.specs.Prelude.{IfOk}
use Rattle.vt_value.specs.Values.{Row}
use Rattle.shard_contents.proofs.CopySteps.{last_get}
use Rattle.shard_contents.proofs.copying.last_row.Goals as goal

pub returns : goal.returns
returns c =
    record { ok = subst (λ (o : Option Row). IfOk c.copied.result (λ r. r ≡ o)) (c.last.ensures.value ∙ last_get c.args.rows.now) c.copied.ensures.ok }
