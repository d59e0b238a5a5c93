use Rattle.std.proofs.Common.{rules, ◌≡◌, true}
use Rattle.std.specs.Ordering.{is_eq}
use Rattle.vt_value.specs.Values.{value_cmp}
use Rattle.key_intervals.proofs.ColumnLemmas.{alone}
use Rattle.key_intervals.proofs.column.lone_value.Goals as goal

pub returns-in-Included-Included : goal.returns-in-Included-Included
returns-in-Included-Included c =
    let v = c.in-Included-Included.v in
    let w = c.in-Included-Included.w in
    let same : is_eq (value_cmp v.now w.now) ≡ true = search rules in
    alone c.args.interval v w c.in-Included-Included.is-0 c.in-Included-Included.is-1 same
