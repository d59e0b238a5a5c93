use Rattle.std.proofs.Common.{map, sym, ap, ◌∙◌}
use Rattle.shard_run.specs.declared.ShardRecord.{ShardRecord}
use Rattle.reshard_create.proofs.split.Those.{same_those}
use Rattle.reshard_create.proofs.reopening.rebuild.target_of.Goals as goal

pub returns-then-not-same_slots-clause-which : goal.returns-then-not-same_slots-clause-which
returns-then-not-same_slots-clause-which g c is =
    c.same_slots.ensures.no c.if-not-same_slots.true
    (c.as_slice.ensures ∙ c.in_ok-own.ensures.slots
    ∙ ap (map (λ (s : ShardRecord). s.slot)) (same_those c.args.found.now.member.which.place.range (map (λ s. s.member.which) c.args.sources.now)
    (map (λ m. m.which) c.in_ok-own.own.members.items) is.own c.in_ok-own.ensures.those is.those) ∙ sym is.are ∙ sym c.as_slice-2.ensures)
