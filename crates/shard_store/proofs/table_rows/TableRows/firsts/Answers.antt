use Rattle.std.proofs.Common.{◌≡◌, ◌∙◌, ◌++◌, List, ap, filter}
use Rattle.vt_value.specs.Values.{Row}
use Rattle.sql_eval.specs.Sources.{pairs_of}
use Rattle.sql_eval.specs.Conditions.{is_kept}
use Rattle.shard_store.specs.Slots.{rows_in}
use Rattle.shard_store.specs.Chosen.{slots_chosen}
use Rattle.shard_store.specs.Stores.{RowsView}
use Rattle.shard_store.proofs.table_rows.TableRows.firsts.Goals as goal

pub returns-clause-all : goal.returns-clause-all
returns-clause-all c = λ aggregated.
    let t = c.self.inside.stored in
    let here : slots_chosen c.in_ok-slots.slots ≡ rows_in t.slots = c.in_ok-slots.ensures.all aggregated in
    let unslotted : c.new.result ≡ c.self.inside.unslotted.items = c.new.ensures ∙ c.as_slice.ensures.value in
    (λ i. here i ++ unslotted i) ∙ ap (λ (v : RowsView). v.rows) c.self.view_is

pub returns-clause-kept : goal.returns-clause-kept
returns-clause-kept c = λ seconds.
    let t = c.self.inside.stored in
    let k = is_kept c.args.query.now.filter in
    let j = c.args.join in
    let unslotted : c.new.result ≡ c.self.inside.unslotted.items = c.new.ensures ∙ c.as_slice.ensures.value in
    ap (λ (l : List Row). filter k (pairs_of j (slots_chosen c.in_ok-slots.slots ++ l) seconds)) unslotted
    ∙ c.in_ok-slots.ensures.kept c.self.inside.unslotted.items seconds
    ∙ ap (λ (v : RowsView). filter k (pairs_of j v.rows seconds)) c.self.view_is
