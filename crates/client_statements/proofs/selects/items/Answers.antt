use Rattle.std.proofs.Common.{◌≡◌, ◌+◌, ◌-◌, ◌<◌, ◌∙◌, ℕ, List, Some, true, false, suc, length, subst, sym, ap, arith}
use Rattle.std.proofs.lemmas.Result.{err_from_is_err_and}
use Rattle.sql_lexer.specs.inner.Results.{Fails}
use Rattle.client_statements.specs.tokens.Pieces.{lexemes_of}
use Rattle.client_statements.specs.declared.statement.SelectItem.{SelectItem}
use Rattle.client_statements.specs.Grammar.{items_at, ends_select, begins_with_comma}
use Rattle.client_statements.proofs.Lists.{item_fails, last_item, wrong_after_item, more_items, no_items}
use Rattle.client_statements.proofs.selects.items.Goals as goal

pub returns-in_err-item : goal.returns-in_err-item
returns-in_err-item c =
    let n = length c.args.tokens.now - c.loop.counter in
    let p = err_from_is_err_and c.from_residual.result c.from_residual.ensures.1 in
    rw (p.1, p.2) (subst (Fails c.in_err-item.field-0.0) c.loop.invariant
    (item_fails c.args.text.now c.loop.items c.loop.rest.now n c.in_err-item.field-0.0 c.in_err-item.ensures))

pub returns-then-ends_select : goal.returns-then-ends_select
returns-then-ends_select c =
    let n = length c.args.tokens.now - c.loop.counter in
    let some : 0 < n = omega arith in
    let ends : ends_select (lexemes_of c.args.text.now c.in_ok-item.trailing.now) ≡ true = sym c.ends_select.ensures ∙ c.if-ends_select.true in
    sym c.loop.invariant
    ∙ last_item c.args.text.now c.loop.items c.loop.rest.now c.in_ok-item.item c.in_ok-item.trailing.now c.in_ok-item.ensures n some ends
    ∙ ap (λ (xs : List SelectItem). Some xs) (sym c.in_ok-push.ensures.ok)

pub returns-then-not-begins_with_comma : goal.returns-then-not-begins_with_comma
returns-then-not-begins_with_comma c =
    let n = length c.args.tokens.now - c.loop.counter in
    let ends : ends_select (lexemes_of c.args.text.now c.in_ok-item.trailing.now) ≡ false = sym c.ends_select.ensures ∙ c.if-ends_select.false in
    let comma : begins_with_comma (lexemes_of c.args.text.now c.in_ok-item.trailing.now) ≡ false =
    sym (c.begins_with_comma.ensures c.args.text.now) ∙ c.if-not-begins_with_comma.true in
    sym c.loop.invariant
    ∙ wrong_after_item c.args.text.now c.loop.items c.loop.rest.now c.in_ok-item.item c.in_ok-item.trailing.now c.in_ok-item.ensures n ends comma

pub loop-preserved : goal.loop-preserved
loop-preserved c =
    let n = length c.args.tokens.now - c.loop.counter in
    let m = length c.args.tokens.now - (c.loop.counter + 1) in
    let one : n ≡ suc m = omega arith in
    let ends : ends_select (lexemes_of c.args.text.now c.in_ok-item.trailing.now) ≡ false = sym c.ends_select.ensures ∙ c.if-ends_select.false in
    let comma : begins_with_comma (lexemes_of c.args.text.now c.in_ok-item.trailing.now) ≡ true =
    sym (c.begins_with_comma.ensures c.args.text.now) ∙ c.if-not-begins_with_comma.false in
    rw (c.in_ok-push.ensures.ok, c.after-rest.ensures)
    (sym (more_items c.args.text.now c.loop.items c.loop.rest.now c.in_ok-item.item c.in_ok-item.trailing.now c.in_ok-item.ensures n m one ends comma)
    ∙ c.loop.invariant)

pub returns : goal.returns
returns c =
    let n = length c.args.tokens.now - c.loop.counter in
    let none : n ≡ 0 = omega arith in
    sym c.loop.invariant ∙ ap (λ (k : ℕ). items_at k c.args.text.now c.loop.items c.loop.rest.now) none
    ∙ no_items c.args.text.now c.loop.items c.loop.rest.now
