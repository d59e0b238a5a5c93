use Rattle.std.proofs.Common.{◌≡◌, ◌≤◌, List, length, take, ap, ◌∙◌, arith}
use Rattle.std.specs.List.{range_with_len}
use Rattle.vschema_json.specs.declared.column.Column.{Column}
use Rattle.vschema.proofs.Assigned.{first_ordinals}
use Rattle.vschema.proofs.writes.few_ordinals.Goals as goal

pub returns-then-count-le16 : goal.returns-then-count-le16
returns-then-count-le16 c =
    let columns : List Column = c.args.table.now.columns in
    let few : length c.as_slice-count.result.now ≤ 16 = omega (arith, c.if-count-le16.true) in
    let same : length c.as_slice-count.result.now ≡ length columns = ap (λ (l : List Column). length l) c.as_slice-count.ensures in
    ap (λ (l : List Column). take (length l) (range_with_len 0 16)) c.as_slice-count.ensures ∙ first_ordinals columns 0 16 (omega (arith, few, same))
