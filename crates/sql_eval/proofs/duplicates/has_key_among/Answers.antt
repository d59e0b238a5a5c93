use Rattle.std.proofs.Common.{◌≡◌, ◌∙◌, sym, Bor, rules}
use Rattle.std.proofs.lemmas.Fn.{always_returns_same}
use Rattle.vt_value.specs.Values.{Row}
use Rattle.sql_eval.specs.KeyOrder.{key_cmp}
use Rattle.sql_eval.specs.inner.Keys.{same_key}
use Rattle.sql_eval.proofs.Lent.{found, rising}
use Rattle.sql_eval.proofs.Twins.{key_cmp-total, any_map}
use Rattle.sql_eval.proofs.duplicates.has_key_among.Goals as goal

pub returns : goal.returns
returns c =
    let t = c.args.table.now in
    let row = c.args.row.now in
    let rows = c.args.sorted.now in
    let searched = c.binary_search_by.ensures.position (λ (b : Bor Row). key_cmp t b.now row)
    (always_returns_same _ (λ a r. r ≡ key_cmp t a.0.now.now row) _ (λ a r q k. search rules)) in
    let up = rising (key_cmp t) (key_cmp-total t) rows row c.requires in
    c.is_ok.ensures.value ∙ found (λ (b : Bor Row). key_cmp t b.now row) rows c.binary_search_by.result up c.binary_search_by.ensures.bound searched
    ∙ sym (any_map (λ r. same_key t r row) (λ (b : Bor Row). b.now) rows)
