use Rattle.std.proofs.Common.{◌≡◌, ◌∙◌, ◌++◌, ◌∷◌, [], ap, sym, subst, take}
use Rattle.std.specs.List.{AllByRecursion}
use Rattle.std.proofs.lemmas.List.{take_more}
use Rattle.keyrange.specs.declared.KeyRange.{KeyRange}
use Rattle.reshard_create.proofs.split.Lists.{all_push, not_there, whole}
use Rattle.reshard_create.proofs.Named.{differs}
use Rattle.reshard_create.proofs.partition_parts.is_among.Goals as goal

pub loop-other-preserved : goal.loop-other-preserved
loop-other-preserved c =
    let r = c.args.range.now in
    let P : KeyRange → Type 0 = λ x. x ≡ r → ⊥ in
    let rs = c.args.ranges.now in
    let i = c.loop-other.other-index in
    let x = c.other-item.result in
    let more = take_more rs i x c.loop-other-test.true ∙ ap (λ (y : KeyRange). take i rs ++ y ∷ []) (sym c.other-item.is) in
    subst (AllByRecursion P) (sym more) (all_push P (take i rs) x c.loop-other.invariant (differs x r (sym c.if-eq.false ∙ c.eq.ensures)))

pub returns-clause-no : goal.returns-clause-no
returns-clause-no c e =
    let r = c.args.range.now in
    not_there c.args.ranges.now r (whole (λ (x : KeyRange). x ≡ r → ⊥) c.loop-other.other-index c.args.ranges.now c.loop-other-test.false c.loop-other.invariant)
