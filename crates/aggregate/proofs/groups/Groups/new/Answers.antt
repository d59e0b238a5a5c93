use Rattle.std.proofs.Common.{ap, sym, subst, []}
use Rattle.aggregate.specs.declared.groups.Groups.{Groups}
use Rattle.aggregate.specs.inner.Grouping.{key_values, IsGrouped}
use Rattle.aggregate.proofs.KeyListLemmas.{values_of_keys}
use Rattle.aggregate.proofs.GroupingLemmas.{starts_one, starts_none}
use Rattle.aggregate.proofs.groups.Groups.new.Goals as goal
use Rattle.aggregate.proofs.groups.Groups.new.Goals.{then-width-eq0+in_ok-open, else-width-eq0}

pub returns : goal.returns
returns c =
    record {
      ok = (let aggregates = c.args.aggregates.now in
          let no_keys = ap values_of_keys c.with_hasher.ensures.empty in
          let nothing = c.new.ensures.items in
          elim c.if-width-eq0.branch [
            | then-width-eq0+in_ok-open w ↦ subst (λ (groups : Groups). IsGrouped aggregates c.args.width [] groups) (sym w.groups-is)
                (starts_one aggregates c.args.width w.new-then-width-eq0.result _ (key_values w.open.new.self) _ w.open.new.self.parts.items w.if-width-eq0.true w.new-then-width-eq0.ensures no_keys nothing w.in_ok-open.ensures.keys w.in_ok-open.ensures.parts)
            | else-width-eq0 w ↦ subst (λ (groups : Groups). IsGrouped aggregates c.args.width [] groups) (sym w.groups-is)
                (starts_none aggregates c.args.width _ _ w.if-width-eq0.false no_keys nothing)
          ]);
    }
