use Rattle.std.proofs.Common.{ℕ, ◌+◌, ◌<◌, List, [], ◌∷◌, ◌++◌, length, drop, map, sym, ap, ◌∙◌, append_assoc, arith}
use Rattle.sql_tree.specs.declared.Item.{Item}
use Rattle.sql_tree.specs.declared.Item.TheVariants as item
use Rattle.vschema.specs.Resolved.{ordinals_from}
use Rattle.vschema.specs.Scopes.{scope_columns}
use Rattle.vschema.proofs.ScopeOrdinals.{ordinals_next}
use Rattle.vschema.proofs.resolve.all_columns.Goals as goal

pub loop-ordinal-preserved : goal.loop-ordinal-preserved
loop-ordinal-preserved c =
    let n = c.loop-ordinal.ordinal in
    let columns = scope_columns c.args.scope.now in
    let less : n < length columns = omega (arith, c.loop-ordinal-test.true, c.column_count-count.ensures) in
    let rest = map item.Column (ordinals_from (n + 1) (drop (n + 1) columns)) in
    ap (λ (l : List (Item ℕ)). l ++ rest) c.in_ok-push.ensures.ok ∙ append_assoc c.loop-ordinal.shown (item.Column n ∷ []) rest
    ∙ ap (λ (l : List (Item ℕ)). c.loop-ordinal.shown ++ l) (sym (ap (map item.Column) (ordinals_next columns n n less))) ∙ c.loop-ordinal.invariant
