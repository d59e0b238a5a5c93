use Rattle.std.proofs.Common.{not, sym, ap, subst, ◌∙◌, inr, refl}
use Rattle.std.proofs.lemmas.Bool.{false≢true}
use Rattle.keyrange.specs.Ranges.{Cover}
use Rattle.reshard_create.proofs.sources.test_targets.Goals as goal

pub returns-then-covers_once-clause-apart : goal.returns-then-covers_once-clause-apart
returns-then-covers_once-clause-apart g c = c.any_overlap.ensures.0 (ap not c.if-any_overlap.false)

pub returns-clause-err : goal.returns-clause-err
returns-clause-err g c =
    inr (inr (
      refl,
      c.any_overlap.ensures.0 (ap not c.if-any_overlap.false),
      λ cover. false≢true (sym c.if-covers_once.false ∙ c.covers_once.ensures.1 (subst Cover (sym (c.as_slice.ensures.value ∙ c.in_ok-ranges.ensures.ok)) cover)),
    ))
