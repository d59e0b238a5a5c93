use Rattle.std.proofs.Common.{map, sym, ◌∙◌, refl}
use Rattle.std.proofs.lemmas.Bool.{false≢true}
use Rattle.reshard_create.specs.split.inner.Grown.{added, left}
use Rattle.reshard_create.proofs.split.Growing.{slots_next}
use Rattle.reshard_create.proofs.split.overlapping.TargetSources.consider.Goals as goal

pub returns-then-not-overlaps-clause-grown : goal.returns-then-not-overlaps-clause-grown
returns-then-not-overlaps-clause-grown g c = left (λ o. false≢true (sym c.if-not-overlaps.true ∙ c.overlaps.ensures.1 o)) refl

pub returns-clause-grown : goal.returns-clause-grown
returns-clause-grown g c = added (c.overlaps.ensures.0 c.if-not-overlaps.false) c.in_ok-add.ensures.members

pub returns-clause-slots : goal.returns-clause-slots
returns-clause-slots g c =
    c.in_ok-add.ensures.slots
    ∙ slots_next c.args.self.now.slots (map (λ m. m.which) c.args.self.now.members.items) (map (λ m. m.which) c.add.new.self.members.items) c.args.member.now.which c.requires
    c.in_ok-add.ensures.members
