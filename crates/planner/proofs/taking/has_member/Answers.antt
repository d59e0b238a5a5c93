use Rattle.std.proofs.Common.{◌≡◌, ◌∙◌, ap, rules, Some, sym}
use Rattle.keyrange.specs.Ranges.{has_id}
use Rattle.planner.specs.KnownIds.{known_bytes}
use Rattle.planner.proofs.IdsKept.{kept_id}
use Rattle.planner.proofs.taking.has_member.Goals as goal

pub returns-in-Some-Eight : goal.returns-in-Some-Eight
returns-in-Some-Eight c =
    let m = c.args.member.now in
    c.contains.ensures
    ∙ ap (has_id c.args.range.now)
    (kept_id c.args.table.now m.value c.in-Some-Eight.vindex m.vindex m.id c.in-Some-Eight.id c.in-Some-Eight.is-0 (search rules) (ap known_bytes c.in-Some-Eight.is-1) m.right)

pub returns-in-Some-Sixteen : goal.returns-in-Some-Sixteen
returns-in-Some-Sixteen c =
    let m = c.args.member.now in
    c.contains-in-Some-Sixteen.ensures
    ∙ ap (has_id c.args.range.now)
    (kept_id c.args.table.now m.value c.in-Some-Sixteen.vindex m.vindex m.id c.in-Some-Sixteen.id c.in-Some-Sixteen.is-0 (search rules) (ap known_bytes c.in-Some-Sixteen.is-1) m.right)
