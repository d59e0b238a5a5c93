use Rattle.std.proofs.Common.{◌∙◌, List, Bor, ap}
use Rattle.vt_value.specs.Values.{Row}
use Rattle.shard_store.specs.inner.Joined.{rows_lent}
use Rattle.shard_store.proofs.Overlaid.{lent-found, lent-unfound}
use Rattle.shard_store.proofs.overlay.remove_first.Goals as goal

pub returns-in-Some : goal.returns-in-Some
returns-in-Some c =
    let is = rw c.as_slice.ensures.value at c.ordinal_of.ensures in
    ap (λ (l : List (Bor Row)). rows_lent l) c.remove.ensures.items
    ∙ lent-found c.args.row.now c.args.rows.now.items c.args.row _ c.in-Some.ordinal is c.in-Some.is

pub returns-in_default : goal.returns-in_default
returns-in_default c =
    let is = rw c.as_slice.ensures.value at c.ordinal_of.ensures in
    lent-unfound c.args.row.now c.args.rows.now.items c.args.row _ is c.in_default.not-Some
