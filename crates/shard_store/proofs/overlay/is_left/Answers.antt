use Rattle.std.proofs.Common.{◌≡◌, ◌∙◌, ◌∷◌, [], ◌&&◌, ℕ, not, List, filter, option_to_list, option_copied, Option, Bor, ap, sym, subst}
use Rattle.std.proofs.lemmas.Bool.{not-true}
use Rattle.vt_value.specs.Values.{Row}
use Rattle.shard_store.specs.Slots.{rows_in}
use Rattle.shard_store.specs.Tables.{key_at, has_key}
use Rattle.shard_store.specs.inner.Overlays.{is_gone}
use Rattle.shard_store.proofs.Overlaid.{one_left, one_there, none_there}
use Rattle.shard_store.proofs.Rows.{row_is}
use Rattle.shard_store.proofs.overlay.is_left.Goals as goal

pub returns-then-same_row-clause-is : goal.returns-then-same_row-clause-is
returns-then-same_row-clause-is c =
    let ordinals = c.args.stored.now.ordinals in
    let values = c.args.key.now.values in
    ap not c.has.ensures
    ∙ ap (λ b. b && not (is_gone c.args.gone.now c.args.row.now)) (sym (sym c.same_row.ensures ∙ c.if-same_row.true))
    ∙ one_there ordinals values c.args.row.now c.requires.key c.args.gone.now (rows_in c.args.stored.now.slots) c.in-Some.found.now
    (sym c.get.ensures ∙ ap (λ (o : Option (Bor Row)). option_to_list (option_copied o)) c.in-Some.is)

pub returns-then-same_row-clause-once : goal.returns-then-same_row-clause-once
returns-then-same_row-clause-once c left more columns next =
    let gone = c.args.gone.now in
    let row = c.args.row.now in
    let slots = rows_in c.args.stored.now.slots in
    let ordinals : gone.columns ≡ c.args.stored.now.ordinals = c.requires.ordinals in
    let its : c.args.key.now.values ≡ key_at gone.columns row = c.requires.key ∙ ap (λ (ps : List ℕ). key_at ps row) (sym ordinals) in
    let same : c.in-Some.found.now ≡ row = sym (row_is row c.in-Some.found.now (sym c.same_row.ensures ∙ c.if-same_row.true)) in
    let there : filter (has_key c.args.stored.now.ordinals c.args.key.now.values) slots ≡ c.in-Some.found.now ∷ [] =
    sym c.get.ensures ∙ ap (λ (o : Option (Bor Row)). option_to_list (option_copied o)) c.in-Some.is in
    let only : filter (has_key gone.columns (key_at gone.columns row)) slots ≡ row ∷ [] =
    subst (λ (vs : Row). filter (has_key gone.columns vs) slots ≡ row ∷ []) its
    (subst (λ (ps : List ℕ). filter (has_key ps c.args.key.now.values) slots ≡ row ∷ []) (sym ordinals) (there ∙ ap (λ (r : Row). r ∷ []) same)) in
    one_left gone more row columns next slots only (sym c.has.ensures ∙ not-true c.has.result left)

pub returns-else-same_row-clause-is : goal.returns-else-same_row-clause-is
returns-else-same_row-clause-is c =
    let ordinals = c.args.stored.now.ordinals in
    let values = c.args.key.now.values in
    c.if-same_row.false
    ∙ ap (λ b. b && not (is_gone c.args.gone.now c.args.row.now)) (sym (sym c.same_row.ensures ∙ c.if-same_row.false))
    ∙ one_there ordinals values c.args.row.now c.requires.key c.args.gone.now (rows_in c.args.stored.now.slots) c.in-Some.found.now
    (sym c.get.ensures ∙ ap (λ (o : Option (Bor Row)). option_to_list (option_copied o)) c.in-Some.is)

pub returns-in-None-clause-is : goal.returns-in-None-clause-is
returns-in-None-clause-is c =
    none_there c.args.stored.now.ordinals c.args.key.now.values c.args.row.now c.requires.key c.args.gone.now (rows_in c.args.stored.now.slots)
    (sym c.get.ensures ∙ ap (λ (o : Option (Bor Row)). option_to_list (option_copied o)) c.in-None.is)
