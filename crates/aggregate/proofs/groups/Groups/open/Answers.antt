use Rattle.std.proofs.Common.{sym, ◌∙◌}
use Rattle.aggregate.proofs.KeyListLemmas.{has_mapped, inserted_mapped, placed_mapped, distinct_mapped, with_new, with_old, not_true, not_false}
use Rattle.aggregate.proofs.groups.Groups.open.Goals as goal

pub returns-in_ok-push_empty_parts-clause-keys : goal.returns-in_ok-push_empty_parts-clause-keys
returns-in_ok-push_empty_parts-clause-keys c = inserted_mapped (record { values = c.args.values }) _ _ c.in_ok-ordinal.ensures.keys

pub returns-else-added-clause-keys : goal.returns-else-added-clause-keys
returns-else-added-clause-keys c = inserted_mapped (record { values = c.args.values }) _ _ c.in_ok-ordinal.ensures.keys

pub returns-in_ok-push_empty_parts-clause-ordinal : goal.returns-in_ok-push_empty_parts-clause-ordinal
returns-in_ok-push_empty_parts-clause-ordinal c = placed_mapped (record { values = c.args.values }) c.insert_full.new.self.keys c.in_ok-ordinal.ordinal c.in_ok-ordinal.ensures.stored

pub returns-else-added-clause-ordinal : goal.returns-else-added-clause-ordinal
returns-else-added-clause-ordinal c = placed_mapped (record { values = c.args.values }) c.insert_full.new.self.keys c.in_ok-ordinal.ordinal c.in_ok-ordinal.ensures.stored

pub returns-in_ok-push_empty_parts-clause-distinct : goal.returns-in_ok-push_empty_parts-clause-distinct
returns-in_ok-push_empty_parts-clause-distinct c = distinct_mapped _ c.in_ok-ordinal.ensures.unique

pub returns-else-added-clause-distinct : goal.returns-else-added-clause-distinct
returns-else-added-clause-distinct c = distinct_mapped _ c.in_ok-ordinal.ensures.unique

pub returns-in_ok-push_empty_parts-clause-parts : goal.returns-in_ok-push_empty_parts-clause-parts
returns-in_ok-push_empty_parts-clause-parts c =
    let new = not_true _ (sym c.if-added.true ∙ c.in_ok-ordinal.ensures.added) in
    c.in_ok-push_empty_parts.ensures.ok ∙ with_new _ _ _ (sym (has_mapped (record { values = c.args.values }) c.args.self.now.keys.keys) ∙ new)

pub returns-else-added-clause-parts : goal.returns-else-added-clause-parts
returns-else-added-clause-parts c =
    let found = not_false _ (sym c.if-added.false ∙ c.in_ok-ordinal.ensures.added) in
    with_old _ _ _ (sym (has_mapped (record { values = c.args.values }) c.args.self.now.keys.keys) ∙ found)
